use Rattle.clu_check.proofs.Numbered.{IsReduced}
use Rattle.clu_check.proofs.labels.are_numbered.Given as goal

abbrev pub invariant-loop-label : goal.invariant-loop-label
invariant-loop-label l = IsReduced l.labels l.label-index l.next
