use Rattle.std.proofs.Common.{◌≢◌, ℕ, ◌<◌, get_or, slice_index}
use Rattle.clu_partition.proofs.start.Start.keeps_apart.Given as goal

abbrev pub invariant-loop-pair : goal.invariant-loop-pair
invariant-loop-pair l = (k : ℕ) (d : ℕ × ℕ) → k < l.pair-index → slice_index l.labels (get_or l.self.forbidden k d).0 ≢ slice_index l.labels (get_or l.self.forbidden k d).1
