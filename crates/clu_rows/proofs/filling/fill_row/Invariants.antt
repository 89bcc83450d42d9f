use Rattle.std.proofs.Common.{◌≡◌, ◌<◌, ℕ, length, slice_index, not}
use Rattle.clu_partition.specs.Sums.{only_if}
use Rattle.clu_partition.specs.Pairs.{weight_of}
use Rattle.clu_state.specs.State.{are_apart, group_weight}
use Rattle.clu_rows.proofs.filling.fill_row.Given as goal

abbrev pub invariant-loop-j : goal.invariant-loop-j
invariant-loop-j g l = record {
  room : l.left.n ≡ l.initial.left.n;
  row : (z : ℕ) → l.i < z → z < l.j → weight_of l.left l.i z ≡ only_if (not (are_apart (g.S.Situation.state l.state) (slice_index l.groups l.i) (slice_index l.groups z))) (group_weight (g.S.Situation.state l.state) (slice_index l.groups l.i) (slice_index l.groups z));
  others : (x z : ℕ) → x < l.i → x < z → z < length l.groups → weight_of l.left x z ≡ weight_of l.initial.left x z;
}
