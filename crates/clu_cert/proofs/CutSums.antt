-- The uppers of proofs one by one: each comes to those before it, and sums of uppers that are cut say what the whole sum says.
use Rattle.std.proofs.Common.{◌≡◌, ◌⊎◌, ⊎_elim, inl, inr, ℕ, ℤ, pos, neg_ℤ, ◌+ℤ◌, ◌≤ℤ◌, ◌+◌, ◌*◌, ◌≤◌, ◌<◌, ◌^◌, unsigned_abs, int_lt, List, [], ◌∷◌, ◌++◌, length, get_or, slice_index, Bool, true, false, cond, ◌==◌, filter, refl, sym, ap, ◌∙◌, subst, arith}
use Rattle.std.specs.Int.{int_min}
use Rattle.std.specs.List.{range_with_len}
use Rattle.std.proofs.lemmas.Int.{ints, clamps}
use Rattle.std.proofs.lemmas.List.{get_or-map, length-map}
use Rattle.clu_partition.specs.Sums.{total, pair_total, only_if}
use Rattle.clu_partition.specs.Pairs.{weight_of}
use Rattle.clu_partition.specs.Closed.{Closed}
use Rattle.clu_partition.proofs.Ranges.{below_size}
use Rattle.clu_partition.proofs.SumLaws.{total_append, total_cong, total_ones, pair_least, zero_least}
use Rattle.clu_partition.proofs.Regroup.{by_group, filter_total}
use Rattle.clu_partition.proofs.RangeLaws.{rising_range}
use Rattle.clu_partition.proofs.ClosedLaws.{own_permitted}
use Rattle.clu_objective.specs.Problem.{Posed}
use Rattle.clu_state.specs.State.{State, IsState, InClass}
use Rattle.clu_state.proofs.Bounds.{size_of}
use Rattle.clu_reduce.specs.declared.step.Step.{Step}
use Rattle.clu_cert.specs.declared.certificate.Proof.{Proof}
use Rattle.clu_cert.specs.Upper.{HasUpper}
use Rattle.clu_cert.specs.Valid.{whole_state, stepped, IsPart, AllParts, Cover, part_state, HaveUppers}
use Rattle.clu_cert.proofs.States.{part_is_state}
use Rattle.clu_reduce.proofs.PartOf.{place_of, part_at}
use Rattle.clu_reduce.proofs.PartsLaw.{over_parts, all_placed}
use Rattle.clu_cert.proofs.Uppers.{parts_in, HasRoot, HasProofs, root_state, root_members, root_best, part_sound, part_upper_least, value_low, parts_small}

-- ---- one proof after those before it
pub uppers_more : (problem : Posed) (start : Closed) (steps : List Step) (proofs : List Proof) (uppers : List ℤ) (proof : Proof) (upper : ℤ) →
    HaveUppers problem start steps proofs uppers → HasUpper (part_state problem start steps proof.part) proof.items upper →
    HaveUppers problem start steps (proofs ++ proof ∷ []) (uppers ++ upper ∷ [])
uppers_more problem start steps [] [] proof upper h u = (u, tt)
uppers_more problem start steps [] (first ∷ uppers) proof upper h u = absurd h
uppers_more problem start steps (other ∷ proofs) [] proof upper h u = absurd h
uppers_more problem start steps (other ∷ proofs) (first ∷ uppers) proof upper h u =
    (h.0, uppers_more problem start steps proofs uppers proof upper h.1 u)

-- the part of a proof is a part beside those before it
pub record PartOf (s : State) (part : List ℕ) : Type 0 where
  pub earlier : List (List ℕ)
  pub is : IsPart s earlier part

pub part_of : (s : State) (proofs : List Proof) (i : ℕ) (proof : Proof) → AllParts s [] (parts_in proofs) → i < length proofs →
    proof ≡ get_or proofs i proof →
    PartOf s proof.part
part_of s proofs i proof a l e =
    let n = length-map proofs (λ (p : Proof). p.part) in
    let h = part_at s [] (parts_in proofs) a i (omega (arith, n, l)) in
    let there : get_or (parts_in proofs) i [] ≡ proof.part =
    get_or-map (λ (p : Proof). p.part) proofs i proof [] l ∙ ap (λ (p : Proof). p.part) (sym e) in
    record { earlier = h.earlier; is = subst (IsPart s h.earlier) there h.is }

-- so its items are read from a state
pub proof_state : (problem : Posed) (start : Closed) (steps : List Step) (proofs : List Proof) (i : ℕ) (proof : Proof) → HasRoot problem start steps →
    AllParts (stepped (whole_state problem start) steps) [] (parts_in proofs) → i < length proofs → proof ≡ get_or proofs i proof →
    IsState (part_state problem start steps proof.part)
proof_state problem start steps proofs i proof r a l e =
    let p = part_of (stepped (whole_state problem start) steps) proofs i proof a l e in
    part_is_state problem start steps p.earlier proof.part r.task r.held p.is

-- and its upper isn't far below 0
pub proof_least : (problem : Posed) (start : Closed) (steps : List Step) (proofs : List Proof) (i : ℕ) (proof : Proof) (upper : ℤ) →
    HasRoot problem start steps →
    AllParts (stepped (whole_state problem start) steps) [] (parts_in proofs) → i < length proofs → proof ≡ get_or proofs i proof →
    HasUpper (part_state problem start steps proof.part) proof.items upper → neg_ℤ (pos (2 ^ 88)) ≤ℤ upper
proof_least problem start steps proofs i proof upper r a l e h =
    let p = part_of (stepped (whole_state problem start) steps) proofs i proof a l e in
    part_upper_least problem start steps p.earlier proof.part proof.items upper r p.is h

-- ---- there are no more parts than members
parts_count : (s : State) (earlier parts : List (List ℕ)) → AllParts s earlier parts →
    pos (length parts) ≤ℤ total (λ part. total (λ _. pos 1) part) parts
parts_count s earlier [] a = omega (arith, ints)
parts_count s earlier (part ∷ parts) a =
    let h = parts_count s (earlier ++ part ∷ []) parts a.1 in
    let n = total_ones part in
    let l = a.0.nonempty in
    omega (arith, ints, h, n, l)

pub few_parts : (s : State) → IsState s → (parts : List (List ℕ)) → AllParts s [] parts → Cover s parts → length parts ≤ length s.members
few_parts s i parts a cover =
    let one = over_parts s i parts a cover (λ part. total (λ _. pos 1) part) in
    let two = total_cong (λ k. total (λ _. pos 1) (filter (λ u. place_of parts u == k) s.members))
    (λ k. total (λ u. only_if (place_of parts u == k) (pos 1)) s.members)
    (range_with_len 0 (length parts)) (λ k. filter_total (λ _. pos 1) (λ u. place_of parts u == k) s.members) in
    let three = by_group (place_of parts) (λ _ _. pos 1) s.members (range_with_len 0 (length parts)) (rising_range 0 (length parts))
    (all_placed s parts a cover) in
    let four = total_ones s.members in
    let five = parts_count s [] parts a in
    omega (arith, ints, one, two, three, four, five)

pub few_proofs : (problem : Posed) (start : Closed) (steps : List Step) (proofs : List Proof) → HasRoot problem start steps →
    AllParts (stepped (whole_state problem start) steps) [] (parts_in proofs) → Cover (stepped (whole_state problem start) steps) (parts_in proofs) →
    length proofs ≤ 1000
few_proofs problem start steps proofs r a cover =
    let few = few_parts (stepped (whole_state problem start) steps) (root_state problem start steps r) (parts_in proofs) a cover in
    let n = length-map proofs (λ (p : Proof). p.part) in
    let m = ap length (root_members problem start steps) in
    let k = below_size problem.pairs.n in
    let t = r.task.few in
    omega (arith, few, n, m, k, t)

-- ---- sums of uppers that are cut
abbrev pub cut_total : ℕ → List ℤ → ℤ
cut_total limit uppers = total (λ upper. int_min upper (pos limit)) uppers

pub cut_more : (limit : ℕ) (uppers : List ℤ) (upper : ℤ) → cut_total limit (uppers ++ upper ∷ []) ≡ cut_total limit uppers +ℤ int_min upper
    (pos limit)
cut_more limit uppers upper = let h = total_append (λ upper. int_min upper (pos limit)) uppers (upper ∷ []) in omega (arith, ints, h)

least_is : (x y : ℤ) → (int_min x y ≡ x) ⊎ (int_min x y ≡ y)
least_is x y = pick (int_lt y x)
  where
    pick : (b : Bool) → ((cond b y x) ≡ x) ⊎ ((cond b y x) ≡ y)
    pick true = inr refl
    pick false = inl refl

-- How the sum of cut uppers, that of the uppers and the weights within their parts are.
record Cut (limit : ℕ) (cut whole' sizes : ℤ) : Type 0 where
  most : cut ≤ℤ whole'
  low : pos 0 ≤ℤ (cut +ℤ sizes)
  kept : (cut ≡ whole') ⊎ (pos limit ≤ℤ (cut +ℤ sizes))

cut_next : (limit : ℕ) (cut whole' sizes upper size : ℤ) → Cut limit cut whole' sizes → pos 0 ≤ℤ (upper +ℤ size) → pos 0 ≤ℤ size →
    Cut limit (int_min upper (pos limit) +ℤ cut) (upper +ℤ whole') (size +ℤ sizes)
cut_next limit cut whole' sizes upper size c a b =
    let m = c.most in
    let l = c.low in
    record {
      most = omega (arith, ints, clamps, m);
      low = omega (arith, ints, clamps, l, a, b);
      kept = ⊎_elim (λ e. same e) (λ h. inr (omega (arith, ints, clamps, h, a, b))) c.kept;
    }
  where
    same : cut ≡ whole' → (int_min upper (pos limit) +ℤ cut ≡ upper +ℤ whole') ⊎ (pos limit ≤ℤ (int_min upper (pos limit) +ℤ cut +ℤ (size +ℤ sizes)))
    same e = let l = c.low in ⊎_elim (λ k. inl (omega (arith, ints, e, k))) (λ k. inr (omega (arith, ints, l, k, b))) (least_is upper (pos limit))

cut_all : (limit : ℕ) (problem : Posed) (start : Closed) (steps : List Step) (proofs : List Proof) (uppers : List ℤ) (earlier : List (List ℕ)) →
    HasRoot problem start steps →
    AllParts (stepped (whole_state problem start) steps) earlier (parts_in proofs) → HaveUppers problem start steps proofs uppers →
    (label : ℕ → ℕ) → InClass (stepped (whole_state problem start) steps) label →
    Cut limit (cut_total limit uppers) (total (λ upper. upper) uppers)
    (total (λ part. pair_total (size_of (weight_of problem.pairs)) part) (parts_in proofs))
cut_all limit problem start steps [] [] earlier r a h label c = record { most = omega (arith, ints); low = omega (arith, ints); kept = inl refl }
cut_all limit problem start steps [] (upper ∷ uppers) earlier r a h label c = absurd h
cut_all limit problem start steps (proof ∷ proofs) [] earlier r a h label c = absurd h
cut_all limit problem start steps (proof ∷ proofs) (upper ∷ uppers) earlier r a h label c =
    let w = weight_of problem.pairs in
    cut_next limit (cut_total limit uppers) (total (λ upper. upper) uppers)
    (total (λ part. pair_total (size_of (weight_of problem.pairs)) part) (parts_in proofs))
    upper (pair_total (size_of (weight_of problem.pairs)) proof.part)
    (cut_all limit problem start steps proofs uppers (earlier ++ proof.part ∷ []) r a.1 h.1 label c)
    (value_low (weight_of problem.pairs) label proof.part upper
    (part_sound problem start steps earlier proof.part proof.items upper r a.0 h.0 label c))
    (pair_least (size_of (weight_of problem.pairs)) proof.part (λ u v. zero_least (unsigned_abs (w u v))))

-- cut at 2 ^ 88, the sum of uppers that were cut far above it is the sum of the uppers
pub cut_kept : (limit : ℕ) (problem : Posed) (start : Closed) (steps : List Step) (proofs : List Proof) (uppers : List ℤ) →
    HasProofs problem start steps proofs uppers →
    2 ^ 89 ≤ limit → int_min (cut_total limit uppers) (pos (2 ^ 88)) ≡ int_min (total (λ upper. upper) uppers) (pos (2 ^ 88))
cut_kept limit problem start steps proofs uppers h far =
    let own = root_best problem start steps h.root (slice_index start.group) (own_permitted start h.root.task.closed) in
    let c = cut_all limit problem start steps proofs uppers [] h.root h.parts h.proved own.label own.class' in
    let small = parts_small (stepped (whole_state problem start) steps) (root_state problem start steps h.root) (parts_in proofs) h.parts h.cover
    (weight_of problem.pairs) in
    let b = subst (λ ms. total (λ part. pair_total (size_of (weight_of problem.pairs)) part) (parts_in proofs) ≤ℤ pair_total
    (size_of (weight_of problem.pairs)) ms) (root_members problem start steps) small in
    let t = h.root.task.posed.total in
    let m = c.most in
    ⊎_elim (λ e. ap (λ z. int_min z (pos (2 ^ 88))) e) (λ k. omega (arith, ints, clamps, k, b, t, m, far)) c.kept

-- a running sum of cut uppers stays far within 128 bits
pub cut_size_next : (sum upper : ℤ) (i : ℕ) → unsigned_abs sum ≤ 2 ^ 100 * i → neg_ℤ (pos (2 ^ 88)) ≤ℤ upper →
    unsigned_abs (sum +ℤ int_min upper (pos (2 ^ 100))) ≤ 2 ^ 100 * (i + 1)
cut_size_next sum upper i a b = omega (arith, ints, clamps, a, b)
