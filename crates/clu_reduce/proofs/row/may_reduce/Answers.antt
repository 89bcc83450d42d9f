use Rattle.std.proofs.Common.{arith, ◌≡◌, ◌≤◌, ◌^◌, unsigned_abs, sym, ◌∙◌, subst, to_z, of_z}
use Rattle.std.specs.Int.{w128}
use Rattle.std.proofs.lemmas.Int.{ints}
use Rattle.clu_reduce.specs.Rows.{RowAllows}
use Rattle.clu_state.proofs.Bounds.{weight_small}
use Rattle.clu_reduce.proofs.RowSums.{allowed, leads_differ, differ_if}
use Rattle.clu_reduce.proofs.row.may_reduce.Goals as goal

pub allows-requires : goal.allows-requires
allows-requires g c =
    let s = g.S.Situation.state c.args.state.now in
    let p : to_z w128 (of_z w128 c.weight-weight.result) ≡ c.weight-weight.result = omega (arith, ints) in
    subst (λ z. unsigned_abs z ≤ 2 ^ 88) (sym (p ∙ c.weight-weight.ensures))
    (weight_small s c.members-members.ensures.valid c.args.step.now.u c.args.step.now.v c.requires.first c.requires.second
    (leads_differ s c.args.step.now.u c.args.step.now.v c.requires.first_least c.requires.second_least (differ_if c.args.step.now.u c.args.step.now.v c.if-eq.ensures)))

pub returns : goal.returns
returns g c = λ r.
    let s = g.S.Situation.state c.args.state.now in
    let p : to_z w128 (of_z w128 c.weight-weight.result) ≡ c.weight-weight.result = omega (arith, ints) in
    let q : to_z w128 (of_z w128 c.args.row) ≡ c.args.row = omega (arith, ints) in
    c.allows.ensures.1
    (subst (λ z. RowAllows c.args.step.now.kind z (to_z w128 (of_z w128 c.weight-weight.result))) (sym q)
    (subst (λ z. RowAllows c.args.step.now.kind c.args.row z) (sym (p ∙ c.weight-weight.ensures))
    (allowed s c.members-members.ensures.valid c.args.step.now.u c.args.step.now.v c.requires.first c.requires.second c.requires.first_least c.requires.second_least
    (differ_if c.args.step.now.u c.args.step.now.v c.if-eq.ensures) c.args.step.now.kind c.args.row c.requires.row r)))
