use Rattle.std.proofs.Common.{◌≡◌, ◌<◌, ℕ, length, slice_index}
use Rattle.clu_state.proofs.build.places.Given as goal

abbrev pub invariant-loop-i : goal.invariant-loop-i
invariant-loop-i l = record {
  size : length l.list.items ≡ l.fn.n;
  places : (k : ℕ) → k < l.i → slice_index l.list.items (slice_index l.members k) ≡ k;
}
