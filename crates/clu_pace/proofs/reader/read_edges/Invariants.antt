use Rattle.std.proofs.Common.{◌≡◌, length}
use Rattle.clu_pace.specs.Pace.{kept_of}
use Rattle.clu_pace.proofs.Reading.{Reading}
use Rattle.clu_pace.proofs.reader.read_edges.Given as goal

abbrev pub invariant-loop-line : goal.invariant-loop-line
invariant-loop-line l = record { n : l.graph.n ≡ l.n; read : Reading l.n l.m (kept_of l.initial.lines) (kept_of l.lines) l.graph.edges }

abbrev pub decreases-loop-line : goal.decreases-loop-line
decreases-loop-line l = length (kept_of l.lines)
