use Rattle.std.proofs.Common.{arith, to_z}
use mir.Syntax.{w128}
use Rattle.std.proofs.lemmas.Int.{ints}
use Rattle.clu_state.specs.Building.{home}
use Rattle.clu_state.proofs.Building.{pairs_room, pairs_few, pairs_more, pairs_small, later_homes}
use Rattle.clu_state.proofs.build.add_all.Goals as goal

pub add_with-sum-requires-clause-others : goal.add_with-sum-requires-clause-others
add_with-sum-requires-clause-others c = later_homes c.args.pairs.now.n c.args.weights.now.n c.loop-i.weights.n c.args.group.now c.args.place.now c.args.members.now c.loop-i.i c.loop-i.invariant.size c.requires.members

pub add_with-sum-requires-clause-room : goal.add_with-sum-requires-clause-room
add_with-sum-requires-clause-room c = pairs_room c.args.pairs.now c.args.weights.now c.loop-i.weights (home c.args.group.now c.args.place.now) c.index-members-i.result c.loop-i.i c.args.members.now (to_z w128 c.loop-i.sum-bits) c.loop-i.invariant c.loop-i-test.true c.index-members-i.is

pub add_with-sum-requires-clause-small : goal.add_with-sum-requires-clause-small
add_with-sum-requires-clause-small c = pairs_few c.args.pairs.now c.args.weights.now c.loop-i.weights (home c.args.group.now c.args.place.now) c.index-members-i.result c.loop-i.i c.args.members.now (to_z w128 c.loop-i.sum-bits) c.loop-i.invariant c.loop-i-test.true c.index-members-i.is

pub overflow_add-sum : goal.overflow_add-sum
overflow_add-sum c =
    let s = pairs_small c.args.pairs.now c.args.weights.now c.loop-i.weights (home c.args.group.now c.args.place.now) c.index-members-i.result c.loop-i.i c.args.members.now (to_z w128 c.loop-i.sum-bits) c.add_with-sum.result c.loop-i.invariant c.loop-i-test.true c.index-members-i.is c.add_with-sum.ensures.inside in
    omega (arith, ints, s)

pub loop-i-preserved : goal.loop-i-preserved
loop-i-preserved c =
    let s = pairs_small c.args.pairs.now c.args.weights.now c.loop-i.weights (home c.args.group.now c.args.place.now) c.index-members-i.result c.loop-i.i c.args.members.now (to_z w128 c.loop-i.sum-bits) c.add_with-sum.result c.loop-i.invariant c.loop-i-test.true c.index-members-i.is c.add_with-sum.ensures.inside in
    pairs_more c.args.pairs.now c.args.weights.now c.loop-i.weights c.add_with-sum.new.weights (home c.args.group.now c.args.place.now) c.index-members-i.result c.loop-i.i c.args.members.now (to_z w128 c.loop-i.sum-bits) _ c.add_with-sum.result c.loop-i.invariant c.loop-i-test.true c.index-members-i.is
    c.add_with-sum.ensures.size c.add_with-sum.ensures.sums c.add_with-sum.ensures.inside (omega (arith, ints, s))
