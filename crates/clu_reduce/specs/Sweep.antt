-- What a sweep over pairs does to a state.
use Rattle.std.specs.Prelude.{◌≡◌, ℕ, ◌<◌, ℤ, pos, List, Bool, true, false, not, ◌==◌, ◌||◌, unsigned_abs}
use Rattle.clu_partition.specs.Sums.{pair_total, only_if}
use Rattle.clu_state.specs.State.{State, leader, are_apart}
use Rattle.clu_reduce.specs.Reduction.{Reduces}
use Rattle.clu_reduce.specs.declared.step.Kind.{Kind}
use Rattle.clu_reduce.specs.declared.step.Kind.TheVariants.{Twin, Pair, Heavy, Light}
use Rattle.clu_reduce.specs.Steps.{StepsHold, stepped}
use Rattle.clu_reduce.specs.declared.step.Step.{Step}

-- two members are shut to each other where they are of one group, or apart
abbrev pub is_shut : State → ℕ → ℕ → Bool
is_shut s x y = leader s x == leader s y || are_apart s x y

abbrev pub opening : State → ℕ → ℕ → ℤ
opening s x y = only_if (not (is_shut s x y)) (pos 1)

-- how many pairs of members are still open to each other
abbrev pub room_of : State → ℤ
room_of s = pair_total (opening s) s.members

abbrev pub openings : State → ℕ
openings s = unsigned_abs (room_of s)

-- the steps hold one after the other, and lead from the one state to the other
pub record StepsLeadTo (s : State) (steps : List Step) (now : State) : Type 0 where
  pub held : StepsHold s steps
  pub state : now ≡ stepped s steps

-- Where steps led to the old state, the new ones lead to the new state. Where some were taken, fewer pairs are open; else nothing
-- has changed.
pub record Swept (old : State) (before : List Step) (now : State) (after : List Step) (made : Bool) : Type 0 where
  pub leads : (s : State) → StepsLeadTo s before old → StepsLeadTo s after now
  pub fewer : made ≡ true → openings now < openings old
  pub idle : made ≡ false → now ≡ old

-- twins and pairs are looked at with the smaller vertex first
abbrev pub InKindOrder : Kind → ℕ → ℕ → Type 0
InKindOrder Twin u v = u < v
InKindOrder Pair u v = u < v
InKindOrder Heavy u v = Unit {0}
InKindOrder Light u v = Unit {0}

-- the two are the least vertices of their groups, in the kind's order
pub record IsInTurn (s : State) (step : Step) : Type 0 where
  pub first : leader s step.u ≡ step.u
  pub second : leader s step.v ≡ step.v
  pub order : InKindOrder step.kind step.u step.v

-- a step that is taken when its pair is reached
pub record IsDue (s : State) (step : Step) : Type 0 where
  pub turn : IsInTurn s step
  pub reduces : Reduces s step
