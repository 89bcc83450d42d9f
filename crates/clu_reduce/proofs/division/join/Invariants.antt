use Rattle.std.proofs.Common.{◌≡◌, ℕ, ◌<◌, ◌≤◌, ◌==◌, if◌then◌else◌, length, slice_index}
use Rattle.clu_reduce.proofs.division.join.Given as goal

abbrev pub invariant-loop-i : goal.invariant-loop-i
invariant-loop-i l = record {
  size : length l.labels.items ≡ length l.initial.labels.items;
  done : (x : ℕ) → x < l.i → slice_index l.labels.items x ≡ (if slice_index l.initial.labels.items x == l.high then l.low else slice_index l.initial.labels.items x);
  rest : (x : ℕ) → l.i ≤ x → slice_index l.labels.items x ≡ slice_index l.initial.labels.items x;
}
