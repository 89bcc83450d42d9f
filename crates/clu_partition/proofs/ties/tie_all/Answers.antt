use Rattle.clu_partition.proofs.TieLaws.{tied_alone, tied_next}
use Rattle.clu_partition.proofs.ties.tie_all.Goals as goal

pub loop-pair-init : goal.loop-pair-init
loop-pair-init c = tied_alone c.args.n c.args.required.now c.in_ok-group.group.items c.in_ok-group.ensures.list

pub loop-pair-preserved : goal.loop-pair-preserved
loop-pair-preserved c =
    tied_next c.args.n c.args.required.now c.loop-pair.pair-index c.loop-pair.group.items c.tie.new.group.items c.pair-item.result c.requires c.loop-pair-test.true c.pair-item.is c.tie.ensures.size c.tie.ensures.merged c.loop-pair.invariant
