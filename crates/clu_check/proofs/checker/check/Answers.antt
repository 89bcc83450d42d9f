use Rattle.clu_check.proofs.Checked.{errors_invalid}
use Rattle.clu_check.proofs.checker.check.Goals as goal

pub returns-clause-invalid : goal.returns-clause-invalid
returns-clause-invalid c = errors_invalid c.args.problem.now c.args.start.now c.args.c.now c.judge.result c.judge.ensures.rejected
