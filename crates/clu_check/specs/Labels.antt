-- A vertex and those after it, as the rules bind them.
use Rattle.std.specs.Prelude.{ℕ, ◌<◌, List, length}
use Rattle.clu_partition.specs.Closed.{Closed}
use Rattle.clu_cert.specs.Valid.{ObeysAt}

-- u obeys the rules with each vertex after it and below the end
abbrev pub ObeyWith : Closed → List ℕ → ℕ → ℕ → Type 0
ObeyWith start labels u end = (v : ℕ) → u < v → v < end → ObeysAt start labels u v

-- v is the least vertex after u that doesn't obey the rules with it
pub record IsLeastWith (start : Closed) (labels : List ℕ) (u v : ℕ) : Type 0 where
  pub ordered : u < v
  pub within : v < length labels
  pub broken : ObeysAt start labels u v → ⊥
  pub before : ObeyWith start labels u v
