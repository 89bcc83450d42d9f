use Rattle.std.proofs.Common.{arith, to_z}
use mir.Syntax.{w128}
use Rattle.std.proofs.lemmas.Int.{ints}
use Rattle.clu_state.specs.Building.{home}
use Rattle.clu_state.proofs.Building.{with_room, with_more, with_small}
use Rattle.clu_state.proofs.build.add_with.Goals as goal

pub add_pair-sum-requires-clause-room : goal.add_pair-sum-requires-clause-room
add_pair-sum-requires-clause-room c = with_room c.args.pairs.now c.args.weights.now c.loop-v.weights (home c.args.group.now c.args.place.now) c.args.u c.v-item.result c.loop-v.v-index c.args.others.now (to_z w128 c.loop-v.sum-bits) c.loop-v.invariant c.loop-v-test.true c.v-item.is

pub overflow_add-sum : goal.overflow_add-sum
overflow_add-sum c =
    let s = with_small c.args.pairs.now c.args.weights.now c.loop-v.weights (home c.args.group.now c.args.place.now) c.args.u c.v-item.result c.loop-v.v-index c.args.others.now (to_z w128 c.loop-v.sum-bits) c.add_pair-sum.result c.loop-v.invariant c.loop-v-test.true c.v-item.is c.add_pair-sum.ensures.inside in
    omega (arith, ints, s)

pub loop-v-preserved : goal.loop-v-preserved
loop-v-preserved c =
    let s = with_small c.args.pairs.now c.args.weights.now c.loop-v.weights (home c.args.group.now c.args.place.now) c.args.u c.v-item.result c.loop-v.v-index c.args.others.now (to_z w128 c.loop-v.sum-bits) c.add_pair-sum.result c.loop-v.invariant c.loop-v-test.true c.v-item.is c.add_pair-sum.ensures.inside in
    with_more c.args.pairs.now c.args.weights.now c.loop-v.weights c.add_pair-sum.new.weights (home c.args.group.now c.args.place.now) c.args.u c.v-item.result c.loop-v.v-index c.args.others.now (to_z w128 c.loop-v.sum-bits) _ c.add_pair-sum.result c.loop-v.invariant c.loop-v-test.true c.v-item.is
    c.add_pair-sum.ensures.size c.add_pair-sum.ensures.sums c.add_pair-sum.ensures.inside (omega (arith, ints, s))
