-- Cluster editing: how many pairs must change to turn a graph into the cliques of a partition.
use Rattle.std.specs.Prelude.{◌≡◌, ◌≢◌, ℕ, ℤ, pos, negsuc, ◌+◌, ◌<◌, ◌&&◌, Bool, List, [], ◌∷◌, length, not, count_by, if◌then◌else◌, slice_index}
use Rattle.clu_partition.specs.Pairs.{weight_of, IsTable}
use Rattle.clu_partition.specs.Partition.{below, share_block}
use Rattle.clu_partition.specs.Values.{value_on}
use Rattle.clu_pace.specs.Graph.{PaceGraph, are_adjacent}
use Rattle.clu_objective.specs.Problem.{Posed, printed}
use Rattle.clu_objective.specs.declared.objective.Objective.TheVariants.{Edits}

-- how many pairs of a list, the earlier one first, pass the test
abbrev pub count_pairs : (ℕ → ℕ → Bool) → List ℕ → ℕ
count_pairs passes [] = 0
count_pairs passes (u ∷ more) = count_by (passes u) more + count_pairs passes more

-- the edges between blocks
abbrev pub cut_edges : PaceGraph → List ℕ → ℕ
cut_edges graph labels = count_by (λ e. not (share_block labels e.0 e.1)) graph.edges

-- the pairs inside blocks without an edge
abbrev pub missing_edges : PaceGraph → List ℕ → ℕ
missing_edges graph labels =
    count_pairs (λ u v. share_block labels u v && not (are_adjacent graph.edges u v)) (below graph.n)

-- both kinds: the cost of a partition
abbrev pub edits : PaceGraph → List ℕ → ℕ
edits graph labels = cut_edges graph labels + missing_edges graph labels

-- an edge weighs 1, another pair -1
abbrev pub edge_weight : PaceGraph → ℕ → ℕ → ℤ
edge_weight graph u v = if are_adjacent graph.edges u v then pos 1 else negsuc 0

-- the problem of cluster editing on a graph
pub record PosesEdits (graph : PaceGraph) (problem : Posed) : Type 0 where
  pub objective : problem.objective ≡ Edits
  pub table : IsTable problem.pairs
  pub vertices : problem.pairs.n ≡ graph.n
  pub weights : (u v : ℕ) → u < graph.n → v < graph.n → u ≢ v → weight_of problem.pairs u v ≡ edge_weight graph u v
  pub base : problem.base ≡ pos (length graph.edges)
  pub factor : problem.factor ≡ negsuc 0
  pub scale : problem.scale ≡ 1

-- the printed number of each partition is its number of edits
abbrev pub PrintsEdits : PaceGraph → Posed → Type 0
PrintsEdits graph problem =
    (labels : List ℕ) → printed problem (value_on (weight_of problem.pairs) (slice_index labels) (below graph.n)) ≡ pos (edits graph labels)
