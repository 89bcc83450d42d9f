-- The leaves that prove a bound, and the faults of the others.
use Rattle.std.specs.Prelude.{ℕ, ◌≤◌, ◌<◌, ◌*◌, ◌+◌, ◌^◌, List, ◌++◌, All, Contains, length, sum_by, take}
use Rattle.clu_partition.specs.Groups.{NamesOnce}
use Rattle.clu_rows.specs.Rows.{TwoSet}
use Rattle.clu_state.specs.State.{State, leader}

-- a row that a leaf may have
pub record IsRow (s : State) (r : TwoSet) : Type 0 where
  pub first : 0 < length r.s
  pub second : 0 < length r.t
  pub members : All (Contains s.members) (r.s ++ r.t)
  pub once : NamesOnce (leader s) (r.s ++ r.t)
  pub worth : 0 < r.y

abbrev pub rows_mass : List TwoSet → ℕ
rows_mass rows = sum_by (λ r. r.y * (length r.s + length r.t) ^ 2) rows

-- rows without a fault
pub record AreRows (s : State) (rows : List TwoSet) : Type 0 where
  pub each : All (IsRow s) rows
  pub small : rows_mass rows ≤ 2 ^ 120

-- a denominator that a leaf may have
abbrev pub IsDenominator : ℕ → Type 0
IsDenominator den = (0 < den) × (den ≤ 2 ^ 32)

-- the first row with which the rows have a fault, counted from 1
pub record IsFirstBadRow (s : State) (rows : List TwoSet) (row : ℕ) : Type 0 where
  pub counted : (0 < row) × (row ≤ length rows)
  pub before : (k : ℕ) → k < row → AreRows s (take k rows)
  pub at' : AreRows s (take row rows) → ⊥
