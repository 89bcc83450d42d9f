-- What the root steps and the parts say of a certificate.
use Rattle.std.proofs.Common.{◌≡◌, ◌⊎◌, ℕ, ◌<◌, ◌≤◌, ◌+◌, List, [], ◌∷◌, ◌++◌, length, take, drop, get_or, Option, Some, None, Result, Ok, Err, ◌≢◌, refl, sym, ap, ◌∙◌, subst, arith}
use Rattle.std.proofs.lemmas.List.{take_more, take_all, drop_more, take-append-drop, length-take-le}
use Rattle.std.specs.Option.{IfSome, IfNone}
use Rattle.std.specs.Result.{IfErr, IsErrAnd}
use Rattle.clu_partition.specs.Closed.{Closed}
use Rattle.clu_objective.specs.Problem.{Posed}
use Rattle.clu_state.specs.State.{State, decided}
use Rattle.clu_reduce.specs.Reduction.{StepHolds, decision_of}
use Rattle.clu_reduce.specs.declared.step.Step.{Step}
use Rattle.clu_reduce.proofs.Runs.{held_push, stepped_push}
use Rattle.clu_cert.specs.declared.certificate.Certificate.{Certificate}
use Rattle.clu_cert.specs.declared.certificate.Proof.{Proof}
use Rattle.clu_cert.specs.Valid.{IsValid, whole_state, stepped, StepsHold, AllParts, Cover, parts_of}
use Rattle.clu_check.specs.Rejected.{HaveRoot, HaveParts, IsFirstBadStep, IsFirstBadPart, MissesVertex, IsRejected}
use Rattle.clu_check.specs.declared.reject.Reject.TheVariants.{Parts, Memory}
use Rattle.clu_check.specs.declared.reject.Reject.{Reject}
use Rattle.clu_check.proofs.Excluded.{rejected_invalid}
use Rattle.clu_check.proofs.Parting.{parts}

fault_in : (s : State) (cert : Certificate) (proofs : List Proof) (o : Option ℕ) (part : ℕ) → o ≡ Some part → proofs ≡ cert.proofs
    → IfSome o (λ number. IsFirstBadPart s (parts proofs) number ⊎ MissesVertex s (parts proofs) number)
    → IsFirstBadPart s (parts_of cert) part ⊎ MissesVertex s (parts_of cert) part
fault_in s cert proofs o part is are h =
    subst (λ (ps : List Proof). IsFirstBadPart s (parts ps) part ⊎ MissesVertex s (parts ps) part) are
    (subst (λ (p : Option ℕ). IfSome p (λ number. IsFirstBadPart s (parts proofs) number ⊎ MissesVertex s (parts proofs) number)) is h)

pub fault_of_parts : (problem : Posed) (start : Closed) (cert : Certificate) (s : State) (proofs : List Proof) (o : Option ℕ) (part : ℕ) → o ≡ Some part →
    proofs ≡ cert.proofs → HaveRoot problem start cert → s ≡ stepped (whole_state problem start) cert.root_steps
    → IfSome o (λ number. IsFirstBadPart s (parts proofs) number ⊎ MissesVertex s (parts proofs) number)
    → IsRejected problem start cert (Parts part)
fault_of_parts problem start cert s proofs o part is are root same h = (
  root,
  subst (λ (s : State). IsFirstBadPart s (parts_of cert) part ⊎ MissesVertex s (parts_of cert) part) same
      (fault_in s cert proofs o part is are h),
)

right_in : (s : State) (cert : Certificate) (proofs : List Proof) (o : Option ℕ) → o ≡ None → proofs ≡ cert.proofs
    → IfNone o (AllParts s [] (parts proofs) × Cover s (parts proofs)) → AllParts s [] (parts_of cert) × Cover s (parts_of cert)
right_in s cert proofs o is are h =
    subst (λ (ps : List Proof). AllParts s [] (parts ps) × Cover s (parts ps)) are
    (subst (λ (p : Option ℕ). IfNone p (AllParts s [] (parts proofs) × Cover s (parts proofs))) is h)

pub have_parts : (problem : Posed) (start : Closed) (cert : Certificate) (s : State) (proofs : List Proof) (o : Option ℕ) → o ≡ None → proofs ≡ cert.proofs →
    HaveRoot problem start cert → s ≡ stepped (whole_state problem start) cert.root_steps
    → IfNone o (AllParts s [] (parts proofs) × Cover s (parts proofs)) → HaveParts problem start cert
have_parts problem start cert s proofs o is are root same h =
    let right = right_in s cert proofs o is are h in
    record {
      root = root;
      parts = subst (λ (s : State). AllParts s [] (parts_of cert)) same right.0;
      cover = subst (λ (s : State). Cover s (parts_of cert)) same right.1;
    }

-- ---- root steps
-- so many steps hold, and the state is that after them
pub record HaveHeld (s : State) (steps : List Step) (i : ℕ) (now : State) : Type 0 where
  pub held : StepsHold s (take i steps)
  pub state : now ≡ stepped s (take i steps)

pub held_first : (s : State) (steps : List Step) → HaveHeld s steps 0 s
held_first s [] = record { held = tt; state = refl }
held_first s (step ∷ steps) = record { held = tt; state = refl }

pub held_more : (s : State) (steps : List Step) (i : ℕ) (step : Step) (now next : State) → i < length steps → step ≡ get_or steps i step →
    HaveHeld s steps i now → StepHolds now step → next ≡ decided now (decision_of step) → HaveHeld s steps (i + 1) next
held_more s steps i step now next l e h k is =
    let more = take_more steps i step l ∙ ap (λ x. take i steps ++ x ∷ []) (sym e) in
    record {
      held = subst (StepsHold s) (sym more) (held_push s (take i steps) step h.held (subst (λ t. StepHolds t step) h.state k));
      state = is ∙ ap (λ t. decided t (decision_of step)) h.state ∙ sym (stepped_push s (take i steps) step) ∙ ap (stepped s) (sym more);
    }

pub held_all : (s : State) (steps : List Step) (i : ℕ) (now : State) → HaveHeld s steps i now → length steps ≤ i →
    StepsHold s steps × (now ≡ stepped s steps)
held_all s steps i now h l = (
  subst (StepsHold s) (take_all i steps l) h.held,
  h.state ∙ ap (stepped s) (take_all i steps l),
)

pub first_bad : (s : State) (steps : List Step) (i : ℕ) (step : Step) (now : State) → i < length steps → step ≡ get_or steps i step →
    HaveHeld s steps i now → (StepHolds now step → ⊥) → IsFirstBadStep s steps (i + 1)
first_bad s steps i step now l e h n = record {
  before = take i steps;
  step = step;
  after = drop (i + 1) steps;
  steps_are = sym (take-append-drop i steps) ∙ ap (λ xs. take i steps ++ xs) (drop_more steps i step l ∙ ap (λ x. x ∷ drop (i + 1) steps) (sym e));
  counted = ap (λ n. n + 1) (sym (length-take-le i steps (omega (arith, l))));
  held = h.held;
  bad = λ k. n (subst (λ t. StepHolds t step) (sym h.state) k);
}

-- an answer that is an error excludes a valid certificate, unless it is want of memory
pub errors_invalid : {A : Type 0} (problem : Posed) (start : Closed) (cert : Certificate) (r : Result A Reject) →
    IfErr r (λ reject. IsRejected problem start cert reject)
    → IfErr r (λ reject. reject ≢ Memory → IsValid problem start cert → ⊥)
errors_invalid problem start cert (Ok v) h = h
errors_invalid problem start cert (Err reject) h = rejected_invalid problem start cert reject h

-- an error that is handed on
pub if_err : {A E : Type 0} (r : Result A E) (e : E) (P G : E → Type 0) → IsErrAnd r G → ((x : E) → G x → x ≡ e) → P e → IfErr r P
if_err (Ok v) e P G h same p = tt
if_err (Err x) e P G h same p = subst P (sym (same x h)) p
