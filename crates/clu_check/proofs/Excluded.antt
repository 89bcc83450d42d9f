-- A certificate that is rejected isn't valid.
use Rattle.std.proofs.Common.{◌≡◌, ◌≢◌, ℕ, ℤ, ⊎_elim, List, [], ◌∷◌, ◌++◌, map, refl, sym, ap, ◌∙◌, subst, append_assoc, append-nil}
use Rattle.clu_partition.specs.Closed.{Closed}
use Rattle.clu_objective.specs.Problem.{Posed, IsBetterOrEqual}
use Rattle.clu_state.specs.State.{State, decided}
use Rattle.clu_reduce.specs.Reduction.{StepHolds, decision_of}
use Rattle.clu_reduce.specs.declared.step.Step.{Step}
use Rattle.clu_cert.specs.declared.certificate.Certificate.{Certificate}
use Rattle.clu_cert.specs.declared.certificate.Item.{Item}
use Rattle.clu_cert.specs.declared.certificate.Proof.{Proof}
use Rattle.clu_cert.specs.Upper.{HasUpper, IsBadStep, IsBadLeaf}
use Rattle.clu_cert.specs.Valid.{IsValid, StepsHold, stepped, whole_state, IsPart, AllParts, part_state, HaveUppers, proved_bound}
use Rattle.clu_cert.proofs.OneUpper.{uppers_once, no_bad_step, no_bad_leaf, no_early_end, no_going_on}
use Rattle.clu_check.specs.Rejected.{IsFirstBadStep, IsFirstBadPart, ProofFails, ItemFails, TreeFails, IsRejected}
use Rattle.clu_check.specs.declared.reject.Reject.{Reject}
use Rattle.clu_check.specs.declared.reject.Reject.TheVariants.{Shape, Blocks, Rule, Value, Step as StepFault, Parts, Leaf, Unfinished, Bound, Memory}

-- ---- a list of steps, parts or proofs that is cut in two
pub held_next : (s : State) (before : List Step) (step : Step) (after : List Step) → StepsHold s (before ++ step ∷ after) →
    StepHolds (stepped s before) step
held_next s [] step after h = h.0
held_next s (first ∷ before) step after h = held_next (decided s (decision_of first)) before step after h.1

pub part_next : (s : State) (earlier before : List (List ℕ)) (part : List ℕ) (after : List (List ℕ)) → AllParts s earlier (before ++ part ∷ after) →
    IsPart s (earlier ++ before) part
part_next s earlier [] part after a = subst (λ es. IsPart s es part) (sym (append-nil earlier)) a.0
part_next s earlier (first ∷ before) part after a =
    subst (λ es. IsPart s es part) (append_assoc earlier (first ∷ []) before) (part_next s (earlier ++ first ∷ []) before part after a.1)

pub upper_next : (problem : Posed) (start : Closed) (steps : List Step) (before : List Proof) (proof : Proof) (after : List Proof) (uppers : List ℤ) →
    HaveUppers problem start steps (before ++ proof ∷ after) uppers →
    (upper : ℤ) × HasUpper (part_state problem start steps proof.part) proof.items upper
upper_next problem start steps [] proof after [] h = absurd h
upper_next problem start steps [] proof after (upper ∷ uppers) h = (upper, h.0)
upper_next problem start steps (first ∷ before) proof after [] h = absurd h
upper_next problem start steps (first ∷ before) proof after (upper ∷ uppers) h = upper_next problem start steps before proof after uppers h.1

-- ---- conditions that fail
no_bad_root : (s : State) (steps : List Step) (number : ℕ) → IsFirstBadStep s steps number → StepsHold s steps → ⊥
no_bad_root s steps number f h = f.bad (held_next s f.before f.step f.after (subst (StepsHold s) f.steps_are h))

no_bad_part : (s : State) (parts : List (List ℕ)) (number : ℕ) → IsFirstBadPart s parts number → AllParts s [] parts → ⊥
no_bad_part s parts number f a = f.bad (part_next s [] f.before f.part f.after (subst (AllParts s []) f.parts_are a))

-- each proof of a valid certificate has an upper
no_failed_proof : (problem : Posed) (start : Closed) (cert : Certificate) (Fails : State → List Item → ℕ → ℕ → Type 0) →
    ((s : State) (items : List Item) (earlier part : ℕ) (upper : ℤ) → Fails s items earlier part → HasUpper s items upper → ⊥) →
    ProofFails problem start cert Fails → IsValid problem start cert → ⊥
no_failed_proof problem start cert Fails never f valid =
    let h = upper_next problem start cert.root_steps f.before f.proof f.after valid.uppers
    (subst (λ ps. HaveUppers problem start cert.root_steps ps valid.uppers) f.proofs_are valid.proved) in
    never (part_state problem start cert.root_steps f.proof.part) f.proof.items _ _ h.0 f.fails h.1

pub rejected_invalid : (problem : Posed) (start : Closed) (cert : Certificate) (reject : Reject) → IsRejected problem start cert reject →
    reject ≢ Memory → IsValid problem start cert → ⊥
rejected_invalid problem start cert Shape r m valid = r valid.shape
rejected_invalid problem start cert Blocks r m valid = r.1 valid.partition
rejected_invalid problem start cert (Rule u v) r m valid = r.1.broken (valid.rules u v r.1.ordered r.1.within)
rejected_invalid problem start cert (Value found) r m valid = r.3 (r.2 ∙ sym valid.value)
rejected_invalid problem start cert (StepFault item) r m valid = ⊎_elim
    (λ k. no_bad_root (whole_state problem start) cert.root_steps item k.1 valid.steps)
    (λ k. no_failed_proof problem start cert (ItemFails IsBadStep item)
    (λ s items earlier part upper f h. no_bad_step s items f.0 upper f.1 h) k.1 valid)
    r
rejected_invalid problem start cert (Parts part) r m valid = ⊎_elim
    (λ k. no_bad_part (stepped (whole_state problem start) cert.root_steps) (map (λ proof. proof.part) cert.proofs) part k valid.parts)
    (λ k. k.missing valid.cover)
    r.1
rejected_invalid problem start cert (Leaf item) r m valid =
    no_failed_proof problem start cert (ItemFails IsBadLeaf item)
    (λ s items earlier part upper f h. no_bad_leaf s items f.0 upper f.1 h) r.1 valid
rejected_invalid problem start cert (Unfinished part) r m valid =
    no_failed_proof problem start cert (TreeFails part)
    (λ s items earlier number upper f h. ⊎_elim (λ e. no_early_end s items upper e h) (λ g. no_going_on s items upper g h) f.0) r.1 valid
rejected_invalid problem start cert (Bound found) r m valid =
    let same : proved_bound problem r.1 ≡ proved_bound problem valid.uppers =
    ap (proved_bound problem) (uppers_once problem start cert.root_steps cert.proofs r.1 valid.uppers r.2 valid.proved) in
    r.4 (subst (λ (z : ℤ). IsBetterOrEqual problem.objective cert.bound z) (sym (r.3 ∙ same)) valid.bound)
rejected_invalid problem start cert Memory r m valid = m refl
