-- What the proofs so far prove together.
use Rattle.std.proofs.Common.{◌≡◌, ℕ, ℤ, pos, neg_ℤ, ◌+ℤ◌, ◌≤ℤ◌, ◌+◌, ◌-◌, ◌*◌, ◌<◌, ◌≤◌, ◌^◌, min, unsigned_abs, inr, List, [], ◌∷◌, ◌++◌, length, take, drop, get_or, refl, sym, ap, ◌∙◌, subst, arith, sum_by, FitsSigned, to_z, of_z}
use Rattle.std.specs.Int.{int_min, w128}
use Rattle.std.proofs.lemmas.Int.{ints, to_z-of_z}
use Rattle.std.proofs.lemmas.List.{take_more, length-take-le, take_all}
use Rattle.std.proofs.lemmas.List.Sums.{sum_by-append}
use Rattle.clu_partition.specs.Closed.{Closed}
use Rattle.clu_partition.specs.Sums.{total}
use Rattle.clu_objective.specs.Problem.{Posed}
use Rattle.clu_state.specs.State.{State, IsState}
use Rattle.clu_state.specs.declared.decision.Decision.{Decision}
use Rattle.clu_reduce.specs.declared.step.Step.{Step}
use Rattle.clu_cert.specs.declared.certificate.Certificate.{Certificate}
use Rattle.clu_cert.specs.declared.certificate.Item.{Item}
use Rattle.clu_cert.specs.declared.certificate.Proof.{Proof}
use Rattle.clu_cert.specs.Upper.{HasUpper, IsBadStep, IsBadLeaf}
use Rattle.clu_cert.specs.Valid.{part_state, decisions_within, HaveUppers}
use Rattle.clu_cert.proofs.States.{IsTask}
use Rattle.clu_cert.proofs.Uppers.{HasRoot, HasProofs}
use Rattle.clu_cert.proofs.ValidLaws.{cut_size}
use Rattle.clu_cert.proofs.CutSums.{cut_total, uppers_more, proof_state, proof_least, few_proofs, cut_more, cut_kept, cut_size_next}
use Rattle.clu_check.specs.Rejected.{HaveParts, ProofFails, ItemFails, TreeFails, IsRejected, as_count}
use Rattle.clu_check.specs.Proved.{HasClosedRules, IsItemFault}
use Rattle.clu_check.specs.declared.reject.Reject.{Reject}
use Rattle.clu_check.specs.declared.reject.Reject.TheVariants.{Shape, Blocks, Rule, Value, Step as StepFault, Parts, Leaf, Unfinished, Bound, Memory}
use Rattle.clu_check.proofs.Parting.{cut_at}
use Rattle.clu_check.proofs.ItemFaults.{saturated}

-- the number of the items of the proofs
abbrev pub items_of : List Proof → ℕ
items_of proofs = sum_by (λ p. length p.items) proofs

-- the first i proofs have uppers, of which the sum is, each cut at 2 ^ 100, and so many items
pub record IsSummed (problem : Posed) (start : Closed) (cert : Certificate) (i : ℕ) (sum : ℤ) (earlier : ℕ) : Type 0 where
  pub uppers : List ℤ
  pub proved : HaveUppers problem start cert.root_steps (take i cert.proofs) uppers
  pub sum_is : sum ≡ cut_total (2 ^ 100) uppers
  pub small : unsigned_abs sum ≤ 2 ^ 100 * i
  pub counted : earlier ≡ as_count (length cert.root_steps + items_of (take i cert.proofs))

take_none : {A : Type 0} (xs : List A) → take 0 xs ≡ []
take_none [] = refl
take_none (x ∷ xs) = refl

pub summed_none : (problem : Posed) (start : Closed) (cert : Certificate) (earlier : ℕ) → earlier ≡ length cert.root_steps → earlier < 2 ^ 64 →
    IsSummed problem start cert 0 (pos 0) earlier
summed_none problem start cert earlier is few = record {
  uppers = [];
  proved = subst (λ (ps : List Proof). HaveUppers problem start cert.root_steps ps []) (sym (take_none cert.proofs)) tt;
  sum_is = refl;
  small = omega (arith, ints);
  counted = let e = ap items_of (take_none cert.proofs) in omega (arith, e, is, few);
}

task_of : (problem : Posed) (start : Closed) → HasClosedRules problem start → IsTask problem start
task_of problem start r = record { posed = r.posed; closed = r.closed; size = r.one_size; few = r.few }

root_of : (problem : Posed) (start : Closed) (cert : Certificate) → HasClosedRules problem start → HaveParts problem start cert →
    HasRoot problem start cert.root_steps
root_of problem start cert r p = record { task = task_of problem start r; held = p.root.steps }

pub proofs_of : (problem : Posed) (start : Closed) (cert : Certificate) (uppers : List ℤ) → HasClosedRules problem start → HaveParts problem start cert
    → HaveUppers problem start cert.root_steps cert.proofs uppers → HasProofs problem start cert.root_steps cert.proofs uppers
proofs_of problem start cert uppers r p h = record { root = root_of problem start cert r p; parts = p.parts; cover = p.cover; proved = h }

-- a sum of this size fits 128 bits
pub fits : (sum cut upper : ℤ) (i : ℕ) → cut ≡ upper → unsigned_abs (sum +ℤ upper) ≤ 2 ^ 100 * (i + 1) → i + 1 ≤ 1000 → FitsSigned w128 (sum +ℤ cut)
fits sum cut upper i e s l = omega (arith, ints)

-- ---- the part that is read next
module _ (problem : Posed) (start : Closed) (cert : Certificate) (rules : HasClosedRules problem start) (parts : HaveParts problem start cert)
    (list : List Proof) (are : list ≡ cert.proofs) (i : ℕ) (proof : Proof) (at' : i < length list) (is : proof ≡ get_or list i proof)
    (steps : List Step) (same : decisions_within proof.part steps ≡ decisions_within proof.part cert.root_steps) where
  -- the state of the part with these decisions
  abbrev deciding : List Decision → State
  deciding ds = record { pairs = problem.pairs; start = start; members = proof.part; decisions = ds }

  within : i < length cert.proofs
  within = let e = ap length are in omega (arith, e, at')

  read : proof ≡ get_or cert.proofs i proof
  read = is ∙ ap (λ (ps : List Proof). get_or ps i proof) are

  pub state_of_proof : IsState (part_state problem start steps proof.part)
  state_of_proof = subst (λ (ds : List Decision). IsState (deciding ds)) (sym same)
      (proof_state problem start cert.root_steps cert.proofs i proof (root_of problem start cert rules parts) parts.parts within read)

  upper_there : (upper : ℤ) → HasUpper (part_state problem start steps proof.part) proof.items upper →
      HasUpper (part_state problem start cert.root_steps proof.part) proof.items upper
  upper_there upper h = subst (λ (ds : List Decision). HasUpper (deciding ds) proof.items upper) same h

  least : (upper : ℤ) → HasUpper (part_state problem start steps proof.part) proof.items upper → neg_ℤ (pos (2 ^ 88)) ≤ℤ upper
  least upper h = proof_least problem start cert.root_steps cert.proofs i proof upper
      (root_of problem start cert rules parts) parts.parts within read (upper_there upper h)

  next : take (i + 1) cert.proofs ≡ take i cert.proofs ++ proof ∷ []
  next = take_more cert.proofs i proof within ∙ ap (λ (p : Proof). take i cert.proofs ++ p ∷ []) (sym read)

  items_next : items_of (take (i + 1) cert.proofs) ≡ items_of (take i cert.proofs) + length proof.items
  items_next = ap items_of next ∙ sum_by-append (λ (p : Proof). length p.items) (take i cert.proofs) (proof ∷ []) ∙ omega arith

  module _ (sum : ℤ) (earlier : ℕ) (old : IsSummed problem start cert i sum earlier) where
    pub small_next : (upper : ℤ) → HasUpper (part_state problem start steps proof.part) proof.items upper →
        unsigned_abs (sum +ℤ int_min upper (pos (2 ^ 100))) ≤ 2 ^ 100 * (i + 1)
    small_next upper h = cut_size_next sum upper i old.small (least upper h)

    pub few_next : i + 1 ≤ 1000
    few_next = let f = few_proofs problem start cert.root_steps cert.proofs (root_of problem start cert rules parts) parts.parts parts.cover in
        let w = within in omega (arith, f, w)

    pub summed_more : (upper now : ℤ) (count : ℕ) → HasUpper (part_state problem start steps proof.part) proof.items upper →
        now ≡ sum +ℤ int_min upper (pos (2 ^ 100))
        → count ≡ min (earlier + length proof.items) (2 ^ 64 - 1) → IsSummed problem start cert (i + 1) now count
    summed_more upper now count h e n = record {
      uppers = old.uppers ++ upper ∷ [];
      proved = subst (λ (ps : List Proof). HaveUppers problem start cert.root_steps ps (old.uppers ++ upper ∷ [])) (sym next)
          (uppers_more problem start cert.root_steps (take i cert.proofs) old.uppers proof upper old.proved (upper_there upper h));
      sum_is = e ∙ ap (λ (z : ℤ). z +ℤ int_min upper (pos (2 ^ 100))) old.sum_is ∙ sym (cut_more (2 ^ 100) old.uppers upper);
      small = subst (λ (z : ℤ). unsigned_abs z ≤ 2 ^ 100 * (i + 1)) (sym e) (small_next upper h);
      counted = n ∙ saturated (2 ^ 64 - 1) (length cert.root_steps + items_of (take i cert.proofs)) earlier (length proof.items) old.counted
          ∙ ap as_count (let e = items_next in omega (arith, e));
    }

    pub fits_next : (upper cut : ℤ) → HasUpper (part_state problem start steps proof.part) proof.items upper →
        cut ≡ int_min upper (pos (2 ^ 100)) → FitsSigned w128 (sum +ℤ cut)
    fits_next upper cut h e = fits sum cut (int_min upper (pos (2 ^ 100))) i e (small_next upper h) few_next

    pub summed_next : (upper cut : ℤ) → HasUpper (part_state problem start steps proof.part) proof.items upper →
        cut ≡ int_min upper (pos (2 ^ 100)) → (size count : ℕ) → size ≡ length proof.items
        → count ≡ min (earlier + size) (2 ^ 64 - 1) → IsSummed problem start cert (i + 1) (to_z w128 (of_z w128 (sum +ℤ cut))) count
    summed_next upper cut h e size count s n =
        summed_more upper (to_z w128 (of_z w128 (sum +ℤ cut))) count h
        (to_z-of_z w128 (sum +ℤ cut) (fits_next upper cut h e) ∙ ap (λ (z : ℤ). sum +ℤ z) e)
        (n ∙ ap (λ (k : ℕ). min (earlier + k) (2 ^ 64 - 1)) s)

    -- ---- its items fail
    before_count : length (take i cert.proofs) ≡ i
    before_count = let w = within in length-take-le i cert.proofs (omega (arith, w))

    fails : (Fails : State → List Item → ℕ → ℕ → Type 0) → Fails (part_state problem start steps proof.part) proof.items
        (length cert.root_steps + items_of (take i cert.proofs)) (i + 1)
        → ProofFails problem start cert Fails
    fails Fails h = record {
      before = take i cert.proofs;
      proof = proof;
      after = drop (i + 1) cert.proofs;
      proofs_are = cut_at cert.proofs i proof within (sym read);
      uppers = old.uppers;
      proved = old.proved;
      fails =
          let number_is : i + 1 ≡ length (take i cert.proofs) + 1 = ap (λ (k : ℕ). k + 1) (sym before_count) in
          subst (λ (ds : List Decision). Fails (deciding ds) proof.items
          (length cert.root_steps + items_of (take i cert.proofs)) (length (take i cert.proofs) + 1)) same
          (subst (λ (k : ℕ). Fails (part_state problem start steps proof.part) proof.items
          (length cert.root_steps + items_of (take i cert.proofs)) k) number_is h);
    }

    pub rejected_of : (reject : Reject) → IsItemFault (part_state problem start steps proof.part) proof.items (length cert.root_steps + items_of (take i cert.proofs))
        (i + 1) reject → IsRejected problem start cert reject
    rejected_of Shape h = absurd h
    rejected_of Blocks h = absurd h
    rejected_of (Rule u v) h = absurd h
    rejected_of (Value found) h = absurd h
    rejected_of (StepFault item) h = inr (parts, fails (ItemFails IsBadStep item) h)
    rejected_of (Parts part) h = absurd h
    rejected_of (Leaf item) h = (parts, fails (ItemFails IsBadLeaf item) h)
    rejected_of (Unfinished number) h = (parts, fails (TreeFails number) h)
    rejected_of (Bound found) h = absurd h
    rejected_of Memory h = tt

-- ---- all proofs
pub summed_all : (problem : Posed) (start : Closed) (cert : Certificate) (i : ℕ) (sum : ℤ) (earlier : ℕ) → HasClosedRules problem start →
    HaveParts problem start cert → length cert.proofs ≤ i
    → IsSummed problem start cert i sum earlier
    → (uppers : List ℤ) × HaveUppers problem start cert.root_steps cert.proofs uppers ×
    (int_min sum (pos (2 ^ 88)) ≡ int_min (total (λ upper. upper) uppers) (pos (2 ^ 88)))
summed_all problem start cert i sum earlier r p end old =
    let proved : HaveUppers problem start cert.root_steps cert.proofs old.uppers =
    subst (λ (ps : List Proof). HaveUppers problem start cert.root_steps ps old.uppers) (take_all i cert.proofs end) old.proved in (
      old.uppers,
      proved,
      ap (λ (z : ℤ). int_min z (pos (2 ^ 88))) old.sum_is
          ∙ cut_kept (2 ^ 100) problem start cert.root_steps cert.proofs old.uppers (proofs_of problem start cert old.uppers r p proved)
          (omega arith),
    )

pub printable : (problem : Posed) (start : Closed) (cert : Certificate) (sum cut : ℤ) → HasClosedRules problem start → HaveParts problem start cert
    → ((uppers : List ℤ) × HaveUppers problem start cert.root_steps cert.proofs uppers ×
    (int_min sum (pos (2 ^ 88)) ≡ int_min (total (λ upper. upper) uppers) (pos (2 ^ 88))))
    → cut ≡ int_min sum (pos (2 ^ 88)) → unsigned_abs cut ≤ 2 ^ 88
printable problem start cert sum cut r p h e =
    subst (λ (z : ℤ). unsigned_abs z ≤ 2 ^ 88) (sym (e ∙ h.2))
    (cut_size problem start cert.root_steps cert.proofs h.0 (proofs_of problem start cert h.0 r p h.1))
