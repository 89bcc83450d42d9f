use Rattle.std.proofs.Common.{◌≡◌, ◌∙◌, ◌*ℤ◌, ◌-ℤ◌, ℤ, pos, to_z, of_z, sym, ap, ap₂, arith, unsigned_abs}
use mir.Syntax.{w128}
use Rattle.std.proofs.lemmas.Int.{ints}
use Rattle.clu_partition.specs.Pairs.{weight_of}
use Rattle.clu_state.specs.State.{group_weight}
use Rattle.clu_rows.proofs.BoundLaws.{pair_weight, same_of, left_fits, uncovered_yes}
use Rattle.clu_rows.proofs.bound.uncovered.Goals as goal

pub overflow_mul-left : goal.overflow_mul-left
overflow_mul-left g c = (left_fits c.args.den c.weight.result (pos 0) c.requires.den (pair_weight (g.S.Situation.state c.args.state.now) c.requires.valid c.args.a c.args.b c.weight.result c.requires.first c.requires.second c.requires.differ c.requires.leads (sym c.group_of.ensures.value ∙ same_of c.group_of.result c.args.b c.ne.result c.if-ne.false c.ne.ensures) c.weight.ensures) (omega (arith, ints))).product

pub overflow_sub-left : goal.overflow_sub-left
overflow_sub-left g c = (left_fits c.args.den c.weight.result c.get.result c.requires.den (pair_weight (g.S.Situation.state c.args.state.now) c.requires.valid c.args.a c.args.b c.weight.result c.requires.first c.requires.second c.requires.differ c.requires.leads (sym c.group_of.ensures.value ∙ same_of c.group_of.result c.args.b c.ne.result c.if-ne.false c.ne.ensures) c.weight.ensures)
    (let q : c.get.result ≡ weight_of c.args.prices.now c.args.a c.args.b = c.get.ensures ∙ ap₂ (weight_of c.args.prices.now) c.place.ensures c.place-2.ensures in let k = ap unsigned_abs q in let m = c.requires.small in omega (arith, k, m))).difference

pub returns : goal.returns
returns g c = uncovered_yes (g.S.Situation.state c.args.state.now) c.args.den c.args.prices.now c.args.a c.args.b c.positive_part.result (to_z w128 (of_z w128 (to_z w128 (of_z w128 (to_z w128 c.args.den *ℤ to_z w128 (of_z w128 c.weight.result))) -ℤ to_z w128 (of_z w128 c.get.result))))
    (sym c.group_of.ensures.value ∙ same_of c.group_of.result c.args.b c.ne.result c.if-ne.false c.ne.ensures) (sym c.is_apart.ensures ∙ c.if-is_apart.false)
    ((left_fits c.args.den c.weight.result c.get.result c.requires.den (pair_weight (g.S.Situation.state c.args.state.now) c.requires.valid c.args.a c.args.b c.weight.result c.requires.first c.requires.second c.requires.differ c.requires.leads (sym c.group_of.ensures.value ∙ same_of c.group_of.result c.args.b c.ne.result c.if-ne.false c.ne.ensures) c.weight.ensures) (let q : c.get.result ≡ weight_of c.args.prices.now c.args.a c.args.b = c.get.ensures ∙ ap₂ (weight_of c.args.prices.now) c.place.ensures c.place-2.ensures in let k = ap unsigned_abs q in let m = c.requires.small in omega (arith, k, m))).value ∙ ap (λ (w : ℤ). pos c.args.den *ℤ w -ℤ c.get.result) c.weight.ensures ∙ ap (λ (q : ℤ). pos c.args.den *ℤ group_weight (g.S.Situation.state c.args.state.now) c.args.a c.args.b -ℤ q) (c.get.ensures ∙ ap₂ (weight_of c.args.prices.now) c.place.ensures c.place-2.ensures))
    c.positive_part.ensures
