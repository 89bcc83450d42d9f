use Rattle.std.proofs.Common.{arith}
use Rattle.clu_check.proofs.Sharing.{shares_all}
use Rattle.clu_check.proofs.shares.steps_by_part.Goals as goal

pub returns : goal.returns
returns c = shares_all c.args.proofs.now c.args.steps.now c.loop-step.step-index c.loop-step.shares.items (omega (arith, c.loop-step-test.false)) c.loop-step.invariant
