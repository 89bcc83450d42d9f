use Rattle.std.proofs.Common.{ℕ, ℤ, Contains, length}
use Rattle.clu_tree.specs.Queue.{queue_entry}
use Rattle.clu_tree.specs.Links.{IsUnsplit}
use Rattle.clu_tree.proofs.grow.clear_split.Given as goal

abbrev pub invariant-loop-top : goal.invariant-loop-top
invariant-loop-top l = ((b : ℤ) (k : ℕ) → Contains l.queue.entries (queue_entry b k) → Contains l.initial.queue.entries (queue_entry b k))
    × ((b : ℤ) (k : ℕ) → Contains l.initial.queue.entries (queue_entry b k) → IsUnsplit l.nodes k → Contains l.queue.entries (queue_entry b k))

abbrev pub decreases-loop-top : goal.decreases-loop-top
decreases-loop-top l = length l.queue.entries
