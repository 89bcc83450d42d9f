use Rattle.std.proofs.Common.{arith, ◌≡◌, ◌∙◌, ◌-ℤ◌, pos, FitsSigned, to_z, of_z}
use Rattle.std.specs.Int.{w128}
use Rattle.std.proofs.lemmas.Int.{ints, to_z-of_z}
use Rattle.clu_reduce.proofs.Sizes.{minus_fits}
use Rattle.clu_reduce.proofs.Meets.{light}
use Rattle.clu_reduce.proofs.condition.are_light.Goals as goal

pub overflow_sub-weight : goal.overflow_sub-weight
overflow_sub-weight g c =
    let p : to_z w128 (of_z w128 c.weight-weight.result) ≡ c.weight-weight.result = omega (arith, ints) in
    minus_fits (g.S.Situation.state c.args.state.now) c.members-members.ensures.valid c.args.a c.args.b (to_z w128 (of_z w128 c.weight-weight.result))
    c.requires.free.first c.requires.free.second c.requires.free.differ (p ∙ c.weight-weight.ensures)

pub returns-then-weight-lt0 : goal.returns-then-weight-lt0
returns-then-weight-lt0 g c =
    let s = g.S.Situation.state c.args.state.now in
    let p : to_z w128 (of_z w128 c.weight-weight.result) ≡ c.weight-weight.result = omega (arith, ints) in
    let t = c.if-weight-lt0.true in
    let f : FitsSigned w128 (pos 0 -ℤ to_z w128 (of_z w128 c.weight-weight.result)) =
    minus_fits s c.members-members.ensures.valid c.args.a c.args.b (to_z w128 (of_z w128 c.weight-weight.result))
    c.requires.free.first c.requires.free.second c.requires.free.differ (p ∙ c.weight-weight.ensures) in
    light s c.args.a c.args.b (to_z w128 (of_z w128 c.weight-weight.result))
    (to_z w128 (of_z w128 (pos 0 -ℤ to_z w128 (of_z w128 c.weight-weight.result)))) c.costs_fit.result (p ∙ c.weight-weight.ensures)
    (omega (arith, ints, t)) (to_z-of_z w128 (pos 0 -ℤ to_z w128 (of_z w128 c.weight-weight.result)) f) c.costs_fit.ensures
