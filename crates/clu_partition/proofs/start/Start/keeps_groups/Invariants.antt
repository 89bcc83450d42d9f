use Rattle.std.proofs.Common.{◌≡◌, ℕ, ◌<◌, slice_index}
use Rattle.clu_partition.proofs.start.Start.keeps_groups.Given as goal

abbrev pub invariant-loop-v : goal.invariant-loop-v
invariant-loop-v l = (v : ℕ) → v < l.v → slice_index l.labels (slice_index l.self.group v) ≡ slice_index l.labels v
