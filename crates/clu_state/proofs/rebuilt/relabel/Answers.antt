use Rattle.std.proofs.Common.{◌≡◌, subst, refl, inr, arith, length}
use Rattle.clu_state.proofs.Relabel.{OverBelow, relabel_next, over_all}
use Rattle.clu_state.proofs.rebuilt.relabel.Goals as goal

pub loop-v-init : goal.loop-v-init
loop-v-init c = record { size = refl; done = λ k l. absurd (omega arith); either = λ x. inr refl }

pub loop-v-preserved : goal.loop-v-preserved
loop-v-preserved c =
    relabel_next c.args.members.now c.args.group.now c.loop-v.group c.take_over.new.group c.args.low c.args.high c.loop-v.v-index c.v-item.result c.requires.below c.loop-v-test.true c.v-item.is c.take_over.ensures c.loop-v.invariant

pub returns : goal.returns
returns c =
    let e : c.loop-v.v-index ≡ length c.args.members.now = omega arith in
    over_all c.args.members.now c.args.group.now c.loop-v.group c.args.low c.args.high c.requires.whole (subst (OverBelow c.args.members.now c.args.group.now c.loop-v.group c.args.low c.args.high) e c.loop-v.invariant)
