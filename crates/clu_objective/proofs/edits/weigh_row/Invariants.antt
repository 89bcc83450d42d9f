use Rattle.std.proofs.Common.{◌≡◌, ◌<◌, ℕ}
use Rattle.clu_partition.specs.Pairs.{weight_of, IsTable}
use Rattle.clu_objective.specs.Edits.{edge_weight}
use Rattle.clu_objective.proofs.edits.weigh_row.Given as goal

abbrev pub invariant-loop-v : goal.invariant-loop-v
invariant-loop-v l = record {
  table : IsTable l.pairs;
  size : l.pairs.n ≡ l.graph.n;
  row : (z : ℕ) → l.u < z → z < l.v → weight_of l.pairs l.u z ≡ edge_weight l.graph l.u z;
  others : (x z : ℕ) → x < l.u → x < z → z < l.graph.n → weight_of l.pairs x z ≡ weight_of l.initial.pairs x z;
}
