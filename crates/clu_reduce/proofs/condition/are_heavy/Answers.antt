use Rattle.std.proofs.Common.{arith, subst, ◌≤ℤ◌, ◌≡◌, ◌∙◌, ℤ, to_z, of_z}
use Rattle.std.specs.Int.{w128}
use Rattle.std.proofs.lemmas.Int.{ints}
use Rattle.clu_partition.specs.Sums.{total}
use Rattle.clu_state.specs.State.{are_apart, group_weight, group_leaders}
use Rattle.clu_reduce.specs.Conditions.{stake, others}
use Rattle.clu_reduce.proofs.Meets.{heavy}
use Rattle.clu_reduce.proofs.condition.are_heavy.Goals as goal

pub returns-then-costs_fit : goal.returns-then-costs_fit
returns-then-costs_fit g c =
    let s = g.S.Situation.state c.args.state.now in
    let p : to_z w128 (of_z w128 c.weight.result) ≡ c.weight.result = omega (arith, ints) in
    heavy s c.args.a c.args.b c.all_follow.result
    (subst (λ (z : ℤ). total (stake (group_weight s) (are_apart s) c.args.a) (others (group_leaders s) c.args.a c.args.b) ≤ℤ z) (p ∙ c.weight.ensures)
    (c.costs_fit.ensures.0 c.if-costs_fit.true))
    c.all_follow.ensures
