use Rattle.clu_state.proofs.MergeLoop.{MergedTo}
use Rattle.clu_state.proofs.rebuilt.merge_weights.Given as goal

abbrev pub invariant-loop-j : goal.invariant-loop-j
invariant-loop-j l = MergedTo l.initial.weights l.weights l.members l.group l.low l.high l.j
