use Rattle.std.proofs.Common.{◌≡◌, ◌<◌, ℕ}
use Rattle.clu_partition.specs.Pairs.{weight_of, IsTable}
use Rattle.clu_objective.specs.Edits.{edge_weight}
use Rattle.clu_objective.proofs.edits.weigh_pairs.Given as goal

abbrev pub invariant-loop-u : goal.invariant-loop-u
invariant-loop-u l = record {
  table : IsTable l.pairs;
  size : l.pairs.n ≡ l.graph.n;
  done : (x z : ℕ) → x < l.u → x < z → z < l.graph.n → weight_of l.pairs x z ≡ edge_weight l.graph x z;
}
