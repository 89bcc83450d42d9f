use Rattle.clu_check.proofs.Obeyed.{row_more}
use Rattle.clu_check.proofs.labels.least_broken.Goals as goal

pub loop-u-preserved : goal.loop-u-preserved
loop-u-preserved c = row_more c.args.start.now c.args.labels.now c.loop-u.u c.loop-u.invariant c.in_default.ensures.obey
