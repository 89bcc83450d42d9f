use Rattle.std.proofs.Common.{arith, ◌≡◌, ◌+ℤ◌, ◌≤ℤ◌, ◌^◌, pos, sym, ◌∙◌, subst, to_z, of_z}
use Rattle.std.specs.Int.{w128}
use Rattle.std.proofs.lemmas.Int.{ints, to_z-of_z}
use Rattle.clu_reduce.specs.Tests.{cost_at}
use Rattle.clu_reduce.proofs.Costs.{cost_at_least, at_in}
use Rattle.clu_state.proofs.Bounds.{few_members}
use Rattle.clu_reduce.proofs.RowSums.{summed_next, summed_fits, cost_small, member_in, same_if}
use Rattle.clu_reduce.proofs.row.row_sum.Goals as goal

pub overflow_add-sum : goal.overflow_add-sum
overflow_add-sum g c =
    let s = g.S.Situation.state c.args.state.now in
    let h = at_in c.members-x-items.result.now s.members c.loop-x.x-index c.x-item.result c.members-x-items.ensures.value c.loop-x-test.true c.x-item.is in
    let p : to_z w128 (of_z w128 c.cost_if_third-sum.result) ≡ c.cost_if_third-sum.result = omega (arith, ints) in
    let few = few_members s c.members-x-items.ensures.valid in
    let l = h.0 in
    summed_fits (cost_at s c.row_kind-kind.result c.args.u c.args.u) s.members c.loop-x.x-index (to_z w128 c.loop-x.sum-bits) (to_z w128 (of_z w128 c.cost_if_third-sum.result))
    c.loop-x.invariant (omega (arith, few, l))
    (subst (λ z. pos 0 ≤ℤ z) (sym (p ∙ c.cost_if_third-sum.ensures)) (cost_at_least s c.row_kind-kind.result c.args.u c.args.u c.x-item.result))
    (subst (λ z. z ≤ℤ pos (2 ^ 90)) (sym (p ∙ c.cost_if_third-sum.ensures)) (cost_small s c.members-x-items.ensures.valid c.row_kind-kind.result c.args.u c.x-item.result
    c.requires (member_in s.members c.loop-x.x-index c.x-item.result h.0 h.1) (sym c.group_of.ensures.value ∙ same_if c.group_of.result c.args.u c.if-ne.ensures)))

pub loop-x-preserved : goal.loop-x-preserved
loop-x-preserved g c =
    let s = g.S.Situation.state c.args.state.now in
    let h = at_in c.members-x-items.result.now s.members c.loop-x.x-index c.x-item.result c.members-x-items.ensures.value c.loop-x-test.true c.x-item.is in
    let p : to_z w128 (of_z w128 c.cost_if_third-sum.result) ≡ c.cost_if_third-sum.result = omega (arith, ints) in
    let low = cost_at_least s c.row_kind-kind.result c.args.u c.args.u c.x-item.result in
    let high = cost_small s c.members-x-items.ensures.valid c.row_kind-kind.result c.args.u c.x-item.result
    c.requires (member_in s.members c.loop-x.x-index c.x-item.result h.0 h.1) (sym c.group_of.ensures.value ∙ same_if c.group_of.result c.args.u c.if-ne.ensures) in
    let few = few_members s c.members-x-items.ensures.valid in
    let l = h.0 in
    let fits = summed_fits (cost_at s c.row_kind-kind.result c.args.u c.args.u) s.members c.loop-x.x-index (to_z w128 c.loop-x.sum-bits) (to_z w128 (of_z w128 c.cost_if_third-sum.result))
    c.loop-x.invariant (omega (arith, few, l))
    (subst (λ z. pos 0 ≤ℤ z) (sym (p ∙ c.cost_if_third-sum.ensures)) low)
    (subst (λ z. z ≤ℤ pos (2 ^ 90)) (sym (p ∙ c.cost_if_third-sum.ensures)) high) in
    summed_next (cost_at s c.row_kind-kind.result c.args.u c.args.u) s.members c.loop-x.x-index c.x-item.result (to_z w128 c.loop-x.sum-bits)
    (to_z w128 (of_z w128 c.cost_if_third-sum.result)) (to_z w128 (of_z w128 (to_z w128 c.loop-x.sum-bits +ℤ to_z w128 (of_z w128 c.cost_if_third-sum.result))))
    c.loop-x.invariant h.0 h.1 (p ∙ c.cost_if_third-sum.ensures) low high
    (to_z-of_z w128 (to_z w128 c.loop-x.sum-bits +ℤ to_z w128 (of_z w128 c.cost_if_third-sum.result)) fits)
