use Rattle.std.proofs.Common.{◌∙◌, sym, arith, Contains}
use Rattle.clu_rows.proofs.FaultLaws.{all_at}
use Rattle.clu_rows.proofs.BoundLaws.{sum_next, same_of}
use Rattle.clu_rows.proofs.bound.uncovered_with.Goals as goal

pub uncovered-sum-requires-clause-second : goal.uncovered-sum-requires-clause-second
uncovered-sum-requires-clause-second g c = all_at (Contains (g.S.Situation.state c.args.state.now).members) c.loop-b.b-index c.b-item.result c.args.later.now c.loop-b-test.true c.b-item.is c.requires.later

pub uncovered-sum-requires-clause-small : goal.uncovered-sum-requires-clause-small
uncovered-sum-requires-clause-small g c = c.requires.cells c.args.a c.b-item.result c.requires.member (all_at (Contains (g.S.Situation.state c.args.state.now).members) c.loop-b.b-index c.b-item.result c.args.later.now c.loop-b-test.true c.b-item.is c.requires.later)

pub overflow_add-sum : goal.overflow_add-sum
overflow_add-sum g c =
    let n = (sum_next (g.S.Situation.state c.args.state.now) c.args.den c.args.prices.now c.args.a c.loop-b.b-index c.b-item.result c.args.later.now c.loop-b.sum c.uncovered-sum.result c.loop-b-test.true c.b-item.is (sym c.group_of.ensures.value ∙ same_of c.group_of.result c.args.a c.ne.result c.if-ne.false c.ne.ensures) c.requires.small c.uncovered-sum.ensures c.loop-b.invariant).small in
    omega (arith, n)

pub loop-b-preserved : goal.loop-b-preserved
loop-b-preserved g c = (sum_next (g.S.Situation.state c.args.state.now) c.args.den c.args.prices.now c.args.a c.loop-b.b-index c.b-item.result c.args.later.now c.loop-b.sum c.uncovered-sum.result c.loop-b-test.true c.b-item.is (sym c.group_of.ensures.value ∙ same_of c.group_of.result c.args.a c.ne.result c.if-ne.false c.ne.ensures) c.requires.small c.uncovered-sum.ensures c.loop-b.invariant).next
