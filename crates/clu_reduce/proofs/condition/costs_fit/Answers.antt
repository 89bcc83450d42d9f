use Rattle.std.proofs.Common.{arith, ◌≡◌, ◌-ℤ◌, ℤ, length, ap, ◌∙◌, subst, to_z, of_z}
use Rattle.std.specs.Int.{w128}
use Rattle.std.proofs.lemmas.Int.{ints}
use Rattle.clu_reduce.specs.Tests.{cost_at}
use Rattle.clu_reduce.proofs.Costs.{IsLeft, left_next, past_room, within_room, cost_at_least, no_room, refused, granted, at_in}
use Rattle.clu_reduce.proofs.condition.costs_fit.Goals as goal

pub returns-then-room-lt0 : goal.returns-then-room-lt0
returns-then-room-lt0 g c =
    let s = g.S.Situation.state c.args.state.now in
    let t = c.if-room-lt0.true in
    refused s c.args.kind c.args.a c.args.b c.args.room
    (no_room (cost_at s c.args.kind c.args.a c.args.b) s.members c.args.room (cost_at_least s c.args.kind c.args.a c.args.b) (omega (arith, ints, t)))

pub returns-then-cost-left : goal.returns-then-cost-left
returns-then-cost-left g c =
    let s = g.S.Situation.state c.args.state.now in
    let h = at_in c.members-x-items.result.now s.members c.loop-x.x-index c.x-item.result c.members-x-items.ensures.value c.loop-x-test.true c.x-item.is in
    let r : to_z w128 (of_z w128 c.args.room) ≡ c.args.room = omega (arith, ints) in
    let p : to_z w128 (of_z w128 c.cost_if_third-cost.result) ≡ c.cost_if_third-cost.result = omega (arith, ints) in
    let t = c.if-cost-left.true in
    refused s c.args.kind c.args.a c.args.b c.args.room
    (past_room (cost_at s c.args.kind c.args.a c.args.b) s.members c.args.room (to_z w128 c.loop-x.left-bits) (to_z w128 (of_z w128 c.cost_if_third-cost.result))
    c.loop-x.x-index c.x-item.result
    (subst (λ (z : ℤ). IsLeft (cost_at s c.args.kind c.args.a c.args.b) s.members z c.loop-x.x-index (to_z w128 c.loop-x.left-bits)) r c.loop-x.invariant)
    (cost_at_least s c.args.kind c.args.a c.args.b) h.0 h.1 (p ∙ c.cost_if_third-cost.ensures) (omega (arith, ints, t)))

pub loop-x-preserved : goal.loop-x-preserved
loop-x-preserved g c =
    let s = g.S.Situation.state c.args.state.now in
    let h = at_in c.members-x-items.result.now s.members c.loop-x.x-index c.x-item.result c.members-x-items.ensures.value c.loop-x-test.true c.x-item.is in
    let p : to_z w128 (of_z w128 c.cost_if_third-cost.result) ≡ c.cost_if_third-cost.result = omega (arith, ints) in
    let t = c.if-cost-left.false in
    let low = cost_at_least s c.args.kind c.args.a c.args.b c.x-item.result in
    let e = c.cost_if_third-cost.ensures in
    left_next (cost_at s c.args.kind c.args.a c.args.b) s.members (to_z w128 (of_z w128 c.args.room)) (to_z w128 c.loop-x.left-bits)
    (to_z w128 (of_z w128 c.cost_if_third-cost.result))
    (to_z w128 (of_z w128 (to_z w128 c.loop-x.left-bits -ℤ to_z w128 (of_z w128 c.cost_if_third-cost.result))))
    c.loop-x.x-index c.x-item.result c.loop-x.invariant (cost_at_least s c.args.kind c.args.a c.args.b) h.0 h.1 (p ∙ e)
    (omega (arith, ints, t)) (omega (arith, ints, t, low, e))

pub returns : goal.returns
returns g c =
    let s = g.S.Situation.state c.args.state.now in
    let r : to_z w128 (of_z w128 c.args.room) ≡ c.args.room = omega (arith, ints) in
    let end = c.loop-x-test.false in
    let n = ap length c.members-x-items.ensures.value in
    granted s c.args.kind c.args.a c.args.b c.args.room
    (within_room (cost_at s c.args.kind c.args.a c.args.b) s.members c.args.room (to_z w128 c.loop-x.left-bits) c.loop-x.x-index
    (subst (λ (z : ℤ). IsLeft (cost_at s c.args.kind c.args.a c.args.b) s.members z c.loop-x.x-index (to_z w128 c.loop-x.left-bits)) r c.loop-x.invariant)
    (omega (arith, end, n)))
