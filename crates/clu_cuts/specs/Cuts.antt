-- Triangles and claws over the groups of a state, and which cuts are one inequality.
use Rattle.std.specs.Prelude.{◌≡◌, ◌⊎◌, ◌≤◌, ℕ, List, [], ◌∷◌, All, Contains, length}
use Rattle.clu_state.specs.State.{State}
use Rattle.clu_cuts.specs.declared.point.Point.{Point}
use Rattle.clu_cuts.specs.declared.point.Cut.{Cut}
use Rattle.clu_cuts.specs.Point.{AreGroups, TwoSetAt}
use Rattle.clu_cuts.specs.Stars.{star}

-- the inequality of the cut doesn't hold at the point
abbrev pub IsViolated : Point → Cut → Type 0
IsViolated p cut = TwoSetAt p cut.s cut.t → ⊥

-- one group, the centre, against two others, and against three
abbrev pub IsTriangle : State → Cut → Type 0
IsTriangle s cut = (a : ℕ) × (b : ℕ) × (c : ℕ) × (cut ≡ star a (b ∷ c ∷ [])) × AreGroups s (a ∷ b ∷ c ∷ [])

abbrev pub IsClaw : State → Cut → Type 0
IsClaw s cut = (a : ℕ) × (b : ℕ) × (c : ℕ) × (d : ℕ) × (cut ≡ star a (b ∷ c ∷ d ∷ [])) × AreGroups s (a ∷ b ∷ c ∷ d ∷ [])

-- the same elements
abbrev pub SameSet : List ℕ → List ℕ → Type 0
SameSet xs ys = All (Contains ys) xs × All (Contains xs) ys

-- one inequality: the two sets are the same, in either order
abbrev pub SameCut : Cut → Cut → Type 0
SameCut c d = (SameSet c.s d.s × SameSet c.t d.t) ⊎ (SameSet c.s d.t × SameSet c.t d.s)

-- no two are one inequality
abbrev pub AreDifferent : List Cut → Type 0
AreDifferent [] = Unit {0}
AreDifferent (cut ∷ cuts) = All (λ d. SameCut cut d → ⊥) cuts × AreDifferent cuts

-- at most 50 cuts of a kind, all violated and no two of them one inequality
pub record AreCuts (kind : Cut → Type 0) (p : Point) (cuts : List Cut) : Type 0 where
  pub few : length cuts ≤ 50
  pub each : All kind cuts
  pub violated : All (IsViolated p) cuts
  pub different : AreDifferent cuts
