use Rattle.clu_state.specs.State.{State}
use Rattle.clu_reduce.specs.Sweep.{StepsLeadTo, openings}
use Rattle.clu_reduce.proofs.sweep.sweep_all.Given as goal

abbrev pub invariant-loop : goal.invariant-loop
invariant-loop g l = (s : State) → StepsLeadTo s l.fn.steps (g.S.Situation.state l.fn.state) → StepsLeadTo s l.steps (g.S.Situation.state l.state)

abbrev pub decreases-loop : goal.decreases-loop
decreases-loop g l = openings (g.S.Situation.state l.state)
