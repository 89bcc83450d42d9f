-- Reductions: what each decides, and which hold in a state.
use Rattle.std.specs.Prelude.{ℕ, ℤ, ◌≤ℤ◌, List, Bool}
use Rattle.clu_partition.specs.Pairs.{weight_of}
use Rattle.clu_partition.specs.Values.{value_on}
use Rattle.clu_state.specs.State.{State, InClass, IsFree, leader, are_apart, group_weight, group_leaders}
use Rattle.clu_state.specs.declared.decision.Decision.{Decision}
use Rattle.clu_state.specs.declared.decision.Decision.TheVariants.{Together, Apart}
use Rattle.clu_reduce.specs.Conditions.{AreTwins, AreInseparable, IsHeavy, IsLight, IsUseful}
use Rattle.clu_reduce.specs.declared.step.Kind.{Kind}
use Rattle.clu_reduce.specs.declared.step.Kind.TheVariants.{Twin, Pair, Heavy, Light}
use Rattle.clu_reduce.specs.declared.step.Step.{Step}

-- a light pair is kept apart, any other is put together
abbrev pub decision_by : Kind → ℕ → ℕ → Decision
decision_by Twin u v = Together u v
decision_by Pair u v = Together u v
decision_by Heavy u v = Together u v
decision_by Light u v = Apart u v

abbrev pub decision_of : Step → Decision
decision_of step = decision_by step.kind step.u step.v

-- the kind's condition on two groups
abbrev pub Allows : Kind → (ℕ → ℕ → ℤ) → (ℕ → ℕ → Bool) → List ℕ → ℕ → ℕ → Type 0
Allows Twin weight apart groups u v = AreTwins weight apart groups u v
Allows Pair weight apart groups u v = AreInseparable weight apart groups u v
Allows Heavy weight apart groups u v = IsHeavy weight apart groups u v
Allows Light weight apart groups u v = IsLight weight apart groups u v

-- The step's vertices name two groups that are free, and the condition of its kind holds of them. So its decision keeps a best
-- partition of the state.
pub record StepHolds (s : State) (step : Step) : Type 0 where
  pub free : IsFree s step.u step.v
  pub allowed : Allows step.kind (group_weight s) (are_apart s) (group_leaders s) (leader s step.u) (leader s step.v)

-- a light step is worth taking only where it is useful
abbrev pub Serves : Kind → (ℕ → ℕ → ℤ) → (ℕ → ℕ → Bool) → List ℕ → ℕ → ℕ → Type 0
Serves Twin weight apart groups u v = Unit {0}
Serves Pair weight apart groups u v = Unit {0}
Serves Heavy weight apart groups u v = Unit {0}
Serves Light weight apart groups u v = IsUseful weight apart groups u v

-- the step holds, and is useful if light
pub record Reduces (s : State) (step : Step) : Type 0 where
  pub holds : StepHolds s step
  pub serves : Serves step.kind (group_weight s) (are_apart s) (group_leaders s) (leader s step.u) (leader s step.v)

-- no twin, pair or heavy step holds, and no useful light one
abbrev pub IsIrreducible : State → Type 0
IsIrreducible s = (step : Step) → Reduces s step → ⊥

-- for each partition of the class of s there is one of the class of t that is worth as much at least
abbrev pub KeepsWorth : State → State → Type 0
KeepsWorth s t = (label : ℕ → ℕ) → InClass s label → (other : ℕ → ℕ) × InClass t other
    × (value_on (weight_of s.pairs) label s.members ≤ℤ value_on (weight_of t.pairs) other t.members)
