use Rattle.clu_state.specs.Building.{home}
use Rattle.clu_state.proofs.Building.{PairsLeft}
use Rattle.clu_state.proofs.build.add_all.Given as goal

abbrev pub invariant-loop-i : goal.invariant-loop-i
invariant-loop-i l = PairsLeft l.pairs l.initial.weights (home l.group l.place) l.members l.i l.weights l.sum
