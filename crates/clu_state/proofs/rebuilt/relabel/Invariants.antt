use Rattle.clu_state.proofs.Relabel.{OverBelow}
use Rattle.clu_state.proofs.rebuilt.relabel.Given as goal

abbrev pub invariant-loop-v : goal.invariant-loop-v
invariant-loop-v l = OverBelow l.members l.initial.group l.group l.low l.high l.v-index
