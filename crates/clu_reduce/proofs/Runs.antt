-- Steps that are taken one after the other, and the third group of a useful step.
use Rattle.std.proofs.Common.{◌≡◌, ℕ, ◌<◌, ◌≤◌, List, [], ◌∷◌, ◌++◌, length, get_or, Bool, true, false, ◌||◌, IsTrue, Contains, refl, sym, ap, ◌∙◌, subst, arith}
use Rattle.std.proofs.lemmas.Bool.{false≢true}
use Rattle.clu_state.specs.State.{State, IsState, decided, are_apart, group_weight, group_leaders}
use Rattle.clu_state.specs.declared.decision.Decision.{Decision}
use Rattle.clu_reduce.specs.Conditions.{IsUseful}
use Rattle.clu_reduce.specs.Reduction.{StepHolds, decision_of}
use Rattle.clu_reduce.specs.Steps.{StepsHold, stepped}
use Rattle.clu_reduce.specs.Tests.{IsTornBy}
use Rattle.clu_reduce.specs.declared.step.Step.{Step}
use Rattle.clu_reduce.proofs.Keeps.{held_decides}
use Rattle.clu_reduce.specs.Sweep.{openings, Swept}
use Rattle.clu_reduce.proofs.Measure.{openings_fall}
use Rattle.clu_reduce.proofs.Meets.{third_of, of_third}

pub held_push : (s : State) (steps : List Step) (step : Step) → StepsHold s steps → StepHolds (stepped s steps) step → StepsHold s (steps ++ step ∷ [])
held_push s [] step h k = (k, tt)
held_push s (first ∷ steps) step h k = (h.0, held_push (decided s (decision_of first)) steps step h.1 k)

pub stepped_push : (s : State) (steps : List Step) (step : Step) → stepped s (steps ++ step ∷ []) ≡ decided (stepped s steps) (decision_of step)
stepped_push s [] step = refl
stepped_push s (first ∷ steps) step = stepped_push (decided s (decision_of first)) steps step

-- one step more is taken
pub taken : (s now next : State) (steps more : List Step) (step : Step) (d : Decision) → StepsHold s steps → now ≡ stepped s steps → StepHolds now step →
    d ≡ decision_of step → next ≡ decided now d → more ≡ steps ++ step ∷ [] → StepsHold s more × (next ≡ stepped s more)
taken s now next steps more step d h e k is n m = (
  subst (StepsHold s) (sym m) (held_push s steps step h (subst (λ t. StepHolds t step) e k)),
  n ∙ ap (decided now) is ∙ ap (λ t. decided t (decision_of step)) e ∙ sym (stepped_push s steps step) ∙ ap (stepped s) (sym m),
)

-- and leaves fewer open pairs
pub taken_falls : (now next : State) (step : Step) (d : Decision) → IsState now → StepHolds now step → d ≡ decision_of step → next ≡ decided now d →
    openings next < openings now
taken_falls now next step d i k is n = subst (λ (t : State). openings t < openings now) (sym (n ∙ ap (decided now) is))
    (openings_fall now (decision_of step) i (held_decides now step k))

-- ---- a third group
pub useful_found : (s : State) (a b x : ℕ) → Contains s.members x → IsTornBy s a b x →
    (IsTrue true → IsUseful (group_weight s) (are_apart s) (group_leaders s) a b) × (IsUseful (group_weight s) (are_apart s) (group_leaders s) a b → IsTrue true)
useful_found s a b x c t = (λ _. record { third = x; other = of_third s a b x c t.0; torn = t.1 }, λ _. refl)

pub useful_none : (s : State) (a b i : ℕ) → ((k d : ℕ) → k < i → IsTornBy s a b (get_or s.members k d) → ⊥) → length s.members ≤ i →
    (IsTrue false → IsUseful (group_weight s) (are_apart s) (group_leaders s) a b) × (IsUseful (group_weight s) (are_apart s) (group_leaders s) a b → IsTrue false)
useful_none s a b i h l = (
  λ e. absurd (false≢true e),
  λ u. (let t = third_of s a b u.third u.other in
      let c = t.0 in
      absurd (h c.0 u.third (let at = c.1 in omega (arith, l, at)) (subst (IsTornBy s a b) (sym c.2) (t.1, u.torn)))),
)

-- ---- sweeps
pub swept_one : (old now : State) (before after : List Step) (step : Step) (d : Decision) → IsState old → StepHolds old step → d ≡ decision_of step →
    now ≡ decided old d → after ≡ before ++ step ∷ [] → Swept old before now after true
swept_one old now before after step d i k is n m = record {
  leads = λ t l. (let h = taken t old now before after step d l.held l.state k is n m in record { held = h.0; state = h.1 });
  fewer = λ _. taken_falls old now step d i k is n;
  idle = λ e. absurd (false≢true (sym e));
}

both_or : (a b c : State) (m k : Bool) → (m ≡ true → openings b < openings a) → (m ≡ false → b ≡ a) → (k ≡ true → openings c < openings b) →
    (k ≡ false → c ≡ b) → ((m || k) ≡ true → openings c < openings a) × ((m || k) ≡ false → c ≡ a)
both_or a b c true true f g h l = (λ _. (let p = f refl in let q = h refl in omega (arith, p, q)), λ e. absurd (false≢true (sym e)))
both_or a b c true false f g h l = (λ _. subst (λ (t : State). openings t < openings a) (sym (l refl)) (f refl), λ e. absurd (false≢true (sym e)))
both_or a b c false true f g h l = (λ _. subst (λ (t : State). openings c < openings t) (g refl) (h refl), λ e. absurd (false≢true (sym e)))
both_or a b c false false f g h l = (λ e. absurd (false≢true e), λ _. l refl ∙ g refl)

pub swept_then : (a b c : State) (xs ys zs : List Step) (m k : Bool) → Swept a xs b ys m → Swept b ys c zs k → Swept a xs c zs (m || k)
swept_then a b c xs ys zs m k p q =
    let h = both_or a b c m k p.fewer p.idle q.fewer q.idle in
    record { leads = λ t l. q.leads t (p.leads t l); fewer = h.0; idle = h.1 }
