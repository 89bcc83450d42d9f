use Rattle.std.proofs.Common.{sym, ◌∙◌}
use Rattle.clu_check.proofs.Rising.{rising_more}
use Rattle.clu_check.proofs.parts.rises.Goals as goal

pub loop-i-preserved : goal.loop-i-preserved
loop-i-preserved c = rising_more c.args.part.now c.loop-i.i c.index-part-i.result c.index-part-i-in-loop-i.result c.loop-i.auto.i c.loop-i-test.true c.loop-i.invariant
    c.index-part-i.is c.index-part-i-in-loop-i.is (sym c.le.ensures ∙ c.if-le.false)
