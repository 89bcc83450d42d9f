-- Partitions as functions from vertices to labels, and their values.
use Rattle.std.specs.Prelude.{length, slice_index, ℕ, ℤ, List, ◌==◌}
use Rattle.clu_partition.specs.Partition.{below}
use Rattle.clu_partition.specs.Sums.{pair_total, only_if}

-- the sum of the weights of the pairs of a list whose two vertices have one label
abbrev pub value_on : (ℕ → ℕ → ℤ) → (ℕ → ℕ) → List ℕ → ℤ
value_on weight label members = pair_total (λ u v. only_if (label u == label v) (weight u v)) members

-- the same for labels that belong to the members by their places
abbrev pub value_by_place : (ℕ → ℕ → ℤ) → List ℕ → List ℕ → ℤ
value_by_place weight labels members =
    value_on (λ i j. weight (slice_index members i) (slice_index members j)) (slice_index labels) (below (length members))
