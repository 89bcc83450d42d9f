-- The decisions of root steps within a part.
use Rattle.std.proofs.Common.{◌≡◌, ℕ, ◌<◌, ◌+◌, List, [], ◌∷◌, ◌++◌, length, drop, get_or, Bool, true, false, cond, ◌&&◌, map, filter, IsTrue, Contains, refl, sym, ap, ◌∙◌, append_assoc}
use Rattle.std.proofs.lemmas.Bool.{false_from_ne_true}
use Rattle.std.proofs.lemmas.List.{drop_more}
use Rattle.clu_state.specs.declared.decision.Decision.{Decision}
use Rattle.clu_reduce.specs.Reduction.{decision_of}
use Rattle.clu_reduce.specs.declared.step.Step.{Step}
use Rattle.clu_cert.specs.Valid.{is_in, decisions_within}
use Rattle.clu_reduce.proofs.PartOf.{is_in_listed, listed_is_in}

pub test_is : (part : List ℕ) (v : ℕ) (found : Bool) → (IsTrue found → Contains part v) × (Contains part v → IsTrue found) → found ≡ is_in part v
test_is part v true h = sym (is_in_listed part v (h.0 refl))
test_is part v false h = sym (false_from_ne_true (is_in part v) (λ t. absurd (false_is (h.1 (listed_is_in part v t)))))
  where
    false_is : IsTrue false → ⊥
    false_is e = cc

cons_by : (part : List ℕ) (step : Step) (steps : List Step) (b : Bool) →
    map decision_of (cond b (step ∷ filter (λ s. is_in part s.u && is_in part s.v) steps) (filter (λ s. is_in part s.u && is_in part s.v) steps))
    ≡ map decision_of (cond b (step ∷ []) []) ++ decisions_within part steps
cons_by part step steps true = refl
cons_by part step steps false = refl

pub within_cons : (part : List ℕ) (step : Step) (steps : List Step) →
    decisions_within part (step ∷ steps) ≡ decisions_within part (step ∷ []) ++ decisions_within part steps
within_cons part step steps = cons_by part step steps (is_in part step.u && is_in part step.v)

-- one step more is walked over
pub within_next : (part : List ℕ) (steps : List Step) (i : ℕ) (step : Step) (old new whole' : List Decision) → i < length steps →
    step ≡ get_or steps i step → old ++ decisions_within part (drop i steps) ≡ whole' → new ≡ old ++ decisions_within part (step ∷ []) →
    new ++ decisions_within part (drop (i + 1) steps) ≡ whole'
within_next part steps i step old new whole' l e h is =
    ap (λ ds. ds ++ decisions_within part (drop (i + 1) steps)) is
    ∙ append_assoc old (decisions_within part (step ∷ [])) (decisions_within part (drop (i + 1) steps))
    ∙ ap (λ ds. old ++ ds) (sym (within_cons part step (drop (i + 1) steps)))
    ∙ ap (λ xs. old ++ decisions_within part xs) (ap (λ x. x ∷ drop (i + 1) steps) e ∙ sym (drop_more steps i step l))
    ∙ h

push_by : (part : List ℕ) (step : Step) (b : Bool) → (is_in part step.u && is_in part step.v) ≡ b →
    decisions_within part (step ∷ []) ≡ map decision_of (cond b (step ∷ []) [])
push_by part step b e = ap (λ k. map decision_of (cond k (step ∷ []) [])) e

pub within_one : (part : List ℕ) (step : Step) → (is_in part step.u && is_in part step.v) ≡ true → decisions_within part (step ∷ []) ≡ decision_of step ∷ []
within_one part step e = push_by part step true e

pub within_none : (part : List ℕ) (step : Step) → (is_in part step.u && is_in part step.v) ≡ false → decisions_within part (step ∷ []) ≡ []
within_none part step e = push_by part step false e
