use Rattle.clu_reduce.specs.Tests.{cost_at}
use Rattle.clu_reduce.proofs.Costs.{IsLeft}
use Rattle.clu_reduce.proofs.condition.costs_fit.Given as goal

-- what is left of the room, and the costs that are still to come
abbrev pub invariant-loop-x : goal.invariant-loop-x
invariant-loop-x g l = IsLeft (cost_at (g.S.Situation.state l.state) l.fn.kind l.fn.a l.fn.b) (g.S.Situation.state l.state).members l.fn.room l.x-index l.left
