use Rattle.std.proofs.Common.{◌≤◌, ◌+◌, ◌^◌, length}
use Rattle.clu_cert.proofs.Loop.{Reading}
use Rattle.clu_cert.proofs.read.read_table.Given as goal

abbrev pub invariant-loop-line : goal.invariant-loop-line
invariant-loop-line l = record { reading : Reading l.fn.bytes l.rest l.number l.reader; room : l.number + length l.rest ≤ 2 ^ 63 }

abbrev pub decreases-loop-line : goal.decreases-loop-line
decreases-loop-line l = length l.rest
