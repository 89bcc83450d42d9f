-- The uppers of the parts together bound each permitted partition, and are not far below 0.
use Rattle.std.proofs.Common.{◌≡◌, ℕ, ℤ, pos, neg_ℤ, ◌+ℤ◌, ◌≤ℤ◌, ◌^◌, unsigned_abs, List, [], ◌∷◌, ◌++◌, length, slice_index, Bool, true, false, ◌==◌, All, Contains, map, ap, subst, arith}
use Rattle.std.specs.List.{range_with_len}
use Rattle.std.proofs.lemmas.Int.{ints}
use Rattle.clu_partition.specs.Sums.{total, pair_total, only_if}
use Rattle.clu_partition.specs.Pairs.{weight_of}
use Rattle.clu_partition.specs.Partition.{below}
use Rattle.clu_partition.specs.Values.{value_on}
use Rattle.clu_partition.specs.Closed.{Closed, IsPermitted}
use Rattle.clu_partition.proofs.SumLaws.{pair_le}
use Rattle.clu_partition.proofs.ListLaws.{every}
use Rattle.clu_partition.proofs.RangeLaws.{rising_range}
use Rattle.clu_partition.proofs.PartLaws.{by_part}
use Rattle.clu_partition.proofs.ClosedLaws.{own_permitted}
use Rattle.clu_partition.proofs.ValueSizes.{value_size}
use Rattle.clu_objective.specs.Problem.{Posed}
use Rattle.clu_state.specs.State.{State, IsState, InClass}
use Rattle.clu_state.proofs.Bridge.{rising_from_index, below_all}
use Rattle.clu_state.proofs.Bounds.{size_of, members_small}
use Rattle.clu_state.proofs.Best.{worth, AsGood}
use Rattle.clu_reduce.specs.declared.step.Step.{Step}
use Rattle.clu_cert.specs.declared.certificate.Item.{Item}
use Rattle.clu_cert.specs.declared.certificate.Proof.{Proof}
use Rattle.clu_cert.specs.Upper.{HasUpper}
use Rattle.clu_cert.specs.Valid.{whole_state, StepsHold, stepped, IsPart, AllParts, Cover, part_state, HaveUppers}
use Rattle.clu_cert.proofs.Sound.{upper_sound}
use Rattle.clu_cert.proofs.States.{IsTask, whole_is_state, permitted_class, stepped_is, stepped_state, stepped_best, part_class, part_is_state}
use Rattle.clu_reduce.proofs.PartOf.{place_of}
use Rattle.clu_reduce.proofs.PartsLaw.{parts_law, over_parts, all_placed}

-- the parts of proofs
abbrev pub parts_in : List Proof → List (List ℕ)
parts_in proofs = map (λ proof. proof.part) proofs

-- a problem and its rules with root steps that hold
pub record HasRoot (problem : Posed) (start : Closed) (steps : List Step) : Type 0 where
  pub task : IsTask problem start
  pub held : StepsHold (whole_state problem start) steps

pub root_pairs : (problem : Posed) (start : Closed) (steps : List Step) → (stepped (whole_state problem start) steps).pairs ≡ problem.pairs
root_pairs problem start steps = ap (λ (s : State). s.pairs) (stepped_is (whole_state problem start) steps)

pub root_members : (problem : Posed) (start : Closed) (steps : List Step) → (stepped (whole_state problem start) steps).members ≡ below problem.pairs.n
root_members problem start steps = ap (λ (s : State). s.members) (stepped_is (whole_state problem start) steps)

pub root_state : (problem : Posed) (start : Closed) (steps : List Step) → HasRoot problem start steps → IsState (stepped (whole_state problem start) steps)
root_state problem start steps r = stepped_state (whole_state problem start) steps (whole_is_state problem start r.task) r.held

-- for each permitted partition one of the class after the root steps
pub root_best : (problem : Posed) (start : Closed) (steps : List Step) → HasRoot problem start steps → (label : ℕ → ℕ) → IsPermitted start label →
    AsGood (stepped (whole_state problem start) steps) (value_on (weight_of problem.pairs) label (below problem.pairs.n))
root_best problem start steps r label p =
    stepped_best (whole_state problem start) steps label (whole_is_state problem start r.task) r.held (permitted_class problem start label r.task p)

-- ---- one part
part_within : (problem : Posed) (start : Closed) (steps : List Step) (earlier : List (List ℕ)) (part : List ℕ) →
    IsPart (stepped (whole_state problem start) steps) earlier part →
    All (Contains (below problem.pairs.n)) part
part_within problem start steps earlier part p = subst (λ ms. All (Contains ms) part) (root_members problem start steps) p.members

-- no partition of the class after the root steps is worth more in a part than the part's upper
pub part_sound : (problem : Posed) (start : Closed) (steps : List Step) (earlier : List (List ℕ)) (part : List ℕ) (items : List Item)
    (upper : ℤ) → HasRoot problem start steps →
    IsPart (stepped (whole_state problem start) steps) earlier part → HasUpper (part_state problem start steps part) items upper →
    (label : ℕ → ℕ) → InClass (stepped (whole_state problem start) steps) label → value_on (weight_of problem.pairs) label part ≤ℤ upper
part_sound problem start steps earlier part items upper r p h label c =
    upper_sound (part_state problem start steps part) (part_is_state problem start steps earlier part r.task r.held p) items upper h label
    (part_class problem start steps part label (part_within problem start steps earlier part p) c)

-- a value within a part is no farther below 0 than the weights there
pub value_low : (w : ℕ → ℕ → ℤ) (label : ℕ → ℕ) (part : List ℕ) (upper : ℤ) → value_on w label part ≤ℤ upper →
    pos 0 ≤ℤ (upper +ℤ pair_total (size_of w) part)
value_low w label part upper l = let h = value_size (λ u v. label u == label v) w part in omega (arith, ints, h, l)

-- the upper of a part isn't far below 0
pub part_upper_least : (problem : Posed) (start : Closed) (steps : List Step) (earlier : List (List ℕ)) (part : List ℕ) (items : List Item)
    (upper : ℤ) → HasRoot problem start steps →
    IsPart (stepped (whole_state problem start) steps) earlier part → HasUpper (part_state problem start steps part) items upper →
    neg_ℤ (pos (2 ^ 88)) ≤ℤ upper
part_upper_least problem start steps earlier part items upper r p h =
    let own = root_best problem start steps r (slice_index start.group) (own_permitted start r.task.closed) in
    let i = part_is_state problem start steps earlier part r.task r.held p in
    let a = value_low (weight_of problem.pairs) own.label part upper
    (part_sound problem start steps earlier part items upper r p h own.label own.class') in
    let b = members_small (weight_of problem.pairs) part problem.pairs.n (rising_from_index part p.rising)
    (below_all (part_state problem start steps part) i) in
    let t = r.task.posed.total in
    omega (arith, ints, a, b, t)

-- ---- all parts
pub parts_sound : (problem : Posed) (start : Closed) (steps : List Step) (proofs : List Proof) (uppers : List ℤ) (earlier : List (List ℕ)) →
    HasRoot problem start steps →
    AllParts (stepped (whole_state problem start) steps) earlier (parts_in proofs) → HaveUppers problem start steps proofs uppers →
    (label : ℕ → ℕ) → InClass (stepped (whole_state problem start) steps) label →
    total (λ part. value_on (weight_of problem.pairs) label part) (parts_in proofs) ≤ℤ total (λ upper. upper) uppers
parts_sound problem start steps [] [] earlier r a h label c = omega (arith, ints)
parts_sound problem start steps [] (upper ∷ uppers) earlier r a h label c = absurd h
parts_sound problem start steps (proof ∷ proofs) [] earlier r a h label c = absurd h
parts_sound problem start steps (proof ∷ proofs) (upper ∷ uppers) earlier r a h label c =
    let one = part_sound problem start steps earlier proof.part proof.items upper r a.0 h.0 label c in
    let more = parts_sound problem start steps proofs uppers (earlier ++ proof.part ∷ []) r a.1 h.1 label c in
    omega (arith, ints, one, more)

-- parts that cover the vertices, each with an upper
pub record HasProofs (problem : Posed) (start : Closed) (steps : List Step) (proofs : List Proof) (uppers : List ℤ) : Type 0 where
  pub root : HasRoot problem start steps
  pub parts : AllParts (stepped (whole_state problem start) steps) [] (parts_in proofs)
  pub cover : Cover (stepped (whole_state problem start) steps) (parts_in proofs)
  pub proved : HaveUppers problem start steps proofs uppers

-- no permitted partition is worth more than the uppers together
pub uppers_sound : (problem : Posed) (start : Closed) (steps : List Step) (proofs : List Proof) (uppers : List ℤ) →
    HasProofs problem start steps proofs uppers →
    (label : ℕ → ℕ) → IsPermitted start label → value_on (weight_of problem.pairs) label (below problem.pairs.n) ≤ℤ total (λ upper. upper) uppers
uppers_sound problem start steps proofs uppers h label p =
    let good = root_best problem start steps h.root label p in
    let a = good.better in
    let law = parts_law (stepped (whole_state problem start) steps) (root_state problem start steps h.root)
    (parts_in proofs) h.parts h.cover good.label good.class' in
    let b = subst (λ t. worth (stepped (whole_state problem start) steps) good.label ≤ℤ total (λ part. value_on (weight_of t) good.label part)
    (parts_in proofs)) (root_pairs problem start steps) law in
    let c = parts_sound problem start steps proofs uppers [] h.root h.parts h.proved good.label good.class' in
    omega (arith, ints, a, b, c)

-- ---- how far below 0 the uppers are
uppers_low : (problem : Posed) (start : Closed) (steps : List Step) (proofs : List Proof) (uppers : List ℤ) (earlier : List (List ℕ)) →
    HasRoot problem start steps →
    AllParts (stepped (whole_state problem start) steps) earlier (parts_in proofs) → HaveUppers problem start steps proofs uppers →
    (label : ℕ → ℕ) → InClass (stepped (whole_state problem start) steps) label →
    pos 0 ≤ℤ (total (λ upper. upper) uppers +ℤ total (λ part. pair_total (size_of (weight_of problem.pairs)) part) (parts_in proofs))
uppers_low problem start steps [] [] earlier r a h label c = omega (arith, ints)
uppers_low problem start steps [] (upper ∷ uppers) earlier r a h label c = absurd h
uppers_low problem start steps (proof ∷ proofs) [] earlier r a h label c = absurd h
uppers_low problem start steps (proof ∷ proofs) (upper ∷ uppers) earlier r a h label c =
    let one = value_low (weight_of problem.pairs) label proof.part upper
    (part_sound problem start steps earlier proof.part proof.items upper r a.0 h.0 label c) in
    let more = uppers_low problem start steps proofs uppers (earlier ++ proof.part ∷ []) r a.1 h.1 label c in
    omega (arith, ints, one, more)

only_less : (b : Bool) (z : ℤ) → only_if b (pos (unsigned_abs z)) ≤ℤ pos (unsigned_abs z)
only_less true z = omega (arith, ints)
only_less false z = omega (arith, ints)

-- the weights within the parts are among all weights
pub parts_small : (s : State) → IsState s → (parts : List (List ℕ)) → AllParts s [] parts → Cover s parts → (w : ℕ → ℕ → ℤ) →
    total (λ part. pair_total (size_of w) part) parts ≤ℤ pair_total (size_of w) s.members
parts_small s i parts a cover w =
    let one = over_parts s i parts a cover (λ part. pair_total (size_of w) part) in
    let two = by_part (size_of w) (place_of parts) (range_with_len 0 (length parts)) s.members (rising_range 0 (length parts))
    (all_placed s parts a cover) in
    let three = pair_le (λ u v. only_if (place_of parts u == place_of parts v) (size_of w u v)) (size_of w) (λ _. Unit {0}) s.members
    (every s.members)
    (λ u v _ _. only_less (place_of parts u == place_of parts v) (w u v)) in
    omega (arith, ints, one, two, three)

pub uppers_least : (problem : Posed) (start : Closed) (steps : List Step) (proofs : List Proof) (uppers : List ℤ) →
    HasProofs problem start steps proofs uppers →
    neg_ℤ (pos (2 ^ 88)) ≤ℤ total (λ upper. upper) uppers
uppers_least problem start steps proofs uppers h =
    let own = root_best problem start steps h.root (slice_index start.group) (own_permitted start h.root.task.closed) in
    let a = uppers_low problem start steps proofs uppers [] h.root h.parts h.proved own.label own.class' in
    let law = parts_small (stepped (whole_state problem start) steps) (root_state problem start steps h.root) (parts_in proofs) h.parts h.cover
    (weight_of problem.pairs) in
    let b = subst (λ ms. total (λ part. pair_total (size_of (weight_of problem.pairs)) part) (parts_in proofs) ≤ℤ pair_total
    (size_of (weight_of problem.pairs)) ms) (root_members problem start steps) law in
    let t = h.root.task.posed.total in
    omega (arith, ints, a, b, t)
