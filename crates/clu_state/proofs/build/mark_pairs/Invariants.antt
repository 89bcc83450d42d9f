use Rattle.std.proofs.Common.{◌≡◌, ◌<◌, ◌||◌, ℕ, drop, length, slice_index}
use Rattle.clu_partition.specs.Closed.{joins}
use Rattle.clu_partition.specs.PairSets.{has}
use Rattle.clu_state.proofs.build.mark_pairs.Given as goal

abbrev pub invariant-loop-pair : goal.invariant-loop-pair
invariant-loop-pair l = record {
  size : l.marks.n ≡ l.initial.marks.n;
  marked : (x z : ℕ) → x < length l.members → z < length l.members →
      (joins (λ v. v) (drop l.pair-index l.pairs) (slice_index l.members x) (slice_index l.members z) || has l.marks x z) ≡
      (joins (λ v. v) l.pairs (slice_index l.members x) (slice_index l.members z) || has l.initial.marks x z);
}
