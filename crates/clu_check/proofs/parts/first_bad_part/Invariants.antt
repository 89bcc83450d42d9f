use Rattle.clu_check.proofs.Parting.{AreTaken}
use Rattle.clu_check.proofs.parts.first_bad_part.Given as goal

abbrev pub invariant-loop-i : goal.invariant-loop-i
invariant-loop-i l = AreTaken l.state l.proofs l.i l.fn.owner l.owner
