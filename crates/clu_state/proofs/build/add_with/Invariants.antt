use Rattle.clu_state.specs.Building.{home}
use Rattle.clu_state.proofs.Building.{WithLeft}
use Rattle.clu_state.proofs.build.add_with.Given as goal

abbrev pub invariant-loop-v : goal.invariant-loop-v
invariant-loop-v l = WithLeft l.pairs l.initial.weights (home l.group l.place) l.fn.u l.others l.v-index l.weights l.sum
