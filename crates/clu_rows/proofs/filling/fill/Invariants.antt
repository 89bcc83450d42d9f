use Rattle.std.proofs.Common.{◌≡◌, ◌<◌, ℕ, length, slice_index, not}
use Rattle.clu_partition.specs.Sums.{only_if}
use Rattle.clu_partition.specs.Pairs.{weight_of}
use Rattle.clu_state.specs.State.{are_apart, group_weight}
use Rattle.clu_rows.proofs.filling.fill.Given as goal

abbrev pub invariant-loop-i : goal.invariant-loop-i
invariant-loop-i g l = record {
  room : l.left.n ≡ l.initial.left.n;
  done : (x z : ℕ) → x < l.i → x < z → z < length l.groups → weight_of l.left x z ≡ only_if (not (are_apart (g.S.Situation.state l.state) (slice_index l.groups x) (slice_index l.groups z))) (group_weight (g.S.Situation.state l.state) (slice_index l.groups x) (slice_index l.groups z));
}
