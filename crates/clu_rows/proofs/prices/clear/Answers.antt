use Rattle.std.proofs.Common.{arith}
use Rattle.clu_rows.proofs.RowLaws.{cleared}
use Rattle.clu_rows.proofs.prices.clear.Goals as goal

pub returns-clause-clear : goal.returns-clause-clear
returns-clause-clear c = cleared c.loop-i.scratch c.args.members.now c.loop-i.i (omega arith) c.loop-i.invariant.rows
