-- A problem of clustering: pair weights, and how the objective of a partition comes from the sum of the weights inside blocks.
use Rattle.std.specs.Prelude.{◌≡◌, ◌⊎◌, ℕ, ℤ, pos, negsuc, ◌≤◌, ◌≤ℤ◌, ◌+ℤ◌, ◌*ℤ◌, ◌^◌, unsigned_abs}
use Rattle.clu_partition.specs.Pairs.{Pairs, total_of, IsTable}
use Rattle.clu_objective.specs.declared.objective.Objective.{Objective}
use Rattle.clu_objective.specs.declared.objective.Objective.TheVariants.{Edits, Agreement, Modularity}

pub record Posed : Type 0 where
  pub objective : Objective
  pub pairs : Pairs
  pub base : ℤ
  pub factor : ℤ
  pub scale : ℕ

-- the objective of a partition whose pairs inside blocks weigh v together
abbrev pub printed : Posed → ℤ → ℤ
printed problem v = problem.base +ℤ problem.factor *ℤ v

-- fewer edits are better, and more agreement or modularity
abbrev pub IsBetterOrEqual : Objective → ℤ → ℤ → Type 0
IsBetterOrEqual Edits a b = a ≤ℤ b
IsBetterOrEqual Agreement a b = b ≤ℤ a
IsBetterOrEqual Modularity a b = b ≤ℤ a

abbrev pub HasFactor : Objective → ℤ → Type 0
HasFactor Edits factor = factor ≡ negsuc 0
HasFactor Agreement factor = (factor ≡ pos 1) ⊎ (factor ≡ pos 2)
HasFactor Modularity factor = (factor ≡ pos 1) ⊎ (factor ≡ pos 2)

-- the table, the sizes that keep each printed number far within 128 bits, and the objective's factor
pub record IsPosed (problem : Posed) : Type 0 where
  pub table : IsTable problem.pairs
  pub total : total_of problem.pairs ≤ℤ pos (2 ^ 88)
  pub base : unsigned_abs problem.base ≤ 2 ^ 89
  pub factor : HasFactor problem.objective problem.factor
