use Rattle.std.proofs.Common.{◌≡◌, ◌≢◌, ◌<◌, ℕ, pos, length, slice_index}
use Rattle.clu_partition.specs.Pairs.{weight_of}
use Rattle.clu_rows.proofs.prices.clear.Given as goal

abbrev pub invariant-loop-i : goal.invariant-loop-i
invariant-loop-i l = record {
  size : l.scratch.n ≡ l.initial.scratch.n;
  rows : (i j : ℕ) → i < l.i → i < j → j < length l.members → slice_index l.members i ≢ slice_index l.members j → weight_of l.scratch (slice_index l.members i) (slice_index l.members j) ≡ pos 0;
}
