use Rattle.std.proofs.Common.{◌≡◌, ◌≢◌, ◌<◌, ℕ, pos, slice_index}
use Rattle.clu_partition.specs.Pairs.{weight_of}
use Rattle.clu_rows.proofs.prices.clear_row.Given as goal

abbrev pub invariant-loop-j : goal.invariant-loop-j
invariant-loop-j l = record {
  size : l.scratch.n ≡ l.initial.scratch.n;
  row : (j : ℕ) → l.i < j → j < l.j → slice_index l.members l.i ≢ slice_index l.members j → weight_of l.scratch (slice_index l.members l.i) (slice_index l.members j) ≡ pos 0;
  kept : (x z : ℕ) → x < l.initial.scratch.n → z < l.initial.scratch.n → weight_of l.initial.scratch x z ≡ pos 0 → weight_of l.scratch x z ≡ pos 0;
}
