use Rattle.std.proofs.Common.{◌≡◌, length}
use Rattle.clu_pace.specs.Pace.{kept_of}
use Rattle.clu_pace.proofs.reader.next_kept.Given as goal

abbrev pub invariant-loop-line : goal.invariant-loop-line
invariant-loop-line l = kept_of l.fn.lines ≡ kept_of l.lines

abbrev pub decreases-loop-line : goal.decreases-loop-line
decreases-loop-line l = length l.lines
