use Rattle.clu_reduce.specs.Tests.{cost_at}
use Rattle.clu_reduce.proofs.RowSums.{IsSummed}
use Rattle.clu_reduce.proofs.row.row_sum.Given as goal

abbrev pub invariant-loop-x : goal.invariant-loop-x
invariant-loop-x g l = IsSummed (cost_at (g.S.Situation.state l.state) l.kind l.u l.u) (g.S.Situation.state l.state).members l.x-index l.sum
