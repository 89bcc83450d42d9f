use Rattle.std.proofs.Common.{◌≡◌, ℕ, ◌<◌, length, get_or, slice_index}
use Rattle.clu_check.proofs.parts.are_new.Given as goal

abbrev pub invariant-loop-v : goal.invariant-loop-v
invariant-loop-v l = (k d : ℕ) → k < l.v-index → (get_or l.part k d < length l.owner) × (slice_index l.owner (get_or l.part k d) ≡ 0)
