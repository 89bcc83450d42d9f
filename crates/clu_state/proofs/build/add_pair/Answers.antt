use Rattle.std.proofs.Common.{◌≡◌, ◌<◌, ◌∙◌, sym, arith, to_z, of_z, ◌+ℤ◌}
use mir.Syntax.{w128}
use Rattle.std.proofs.lemmas.Int.{ints}
use Rattle.std.proofs.lemmas.Bool.{eqb-true, eqb-false}
use Rattle.clu_state.specs.Building.{home}
use Rattle.clu_state.proofs.Building.{pair_added, pair_inside, pair_small}
use Rattle.clu_state.proofs.build.add_pair.Goals as goal

pub returns-then-eq-clause-sums : goal.returns-then-eq-clause-sums
returns-then-eq-clause-sums c = λ x z lx lz d.
    pair_inside c.args.pairs.now c.args.weights.now (home c.args.group.now c.args.place.now) c.args.u c.args.v x z
    (sym c.home-p.ensures ∙ eqb-true c.home-p.result c.home-q.result (sym c.eq.ensures ∙ c.if-eq.true) ∙ c.home-q.ensures) d

pub set_at-requires-clause-small : goal.set_at-requires-clause-small
set_at-requires-clause-small c =
    let w : to_z w128 (of_z w128 c.get-weight.result) ≡ c.get-weight.result = omega (arith, ints) in
    let d = eqb-false c.home-p.result c.home-q.result (sym c.eq.ensures ∙ c.if-eq.false) in
    let s = pair_small c.args.pairs.now c.args.weights.now c.args.u c.args.v c.home-p.result c.home-q.result c.get-weight.result c.requires.room
    (let l = c.requires.first.low in let e = c.home-p.ensures in omega (arith, l, e)) (let l = c.requires.second.low in let e = c.home-q.ensures in omega (arith, l, e)) d c.get-weight.ensures.value in
    let e = c.at.ensures.value in
    omega (arith, ints, s, e, w)

pub returns-clause-sums : goal.returns-clause-sums
returns-clause-sums c = λ x z lx lz d.
    let n = eqb-false c.home-p.result c.home-q.result (sym c.eq.ensures ∙ c.if-eq.false) in
    let lp : c.home-p.result < c.args.weights.now.n = (let l = c.requires.first.low in let e = c.home-p.ensures in omega (arith, l, e)) in
    let lq : c.home-q.result < c.args.weights.now.n = (let l = c.requires.second.low in let e = c.home-q.ensures in omega (arith, l, e)) in
    let s = pair_small c.args.pairs.now c.args.weights.now c.args.u c.args.v c.home-p.result c.home-q.result c.get-weight.result c.requires.room lp lq n c.get-weight.ensures.value in
    let e = c.at.ensures.value in
    pair_added c.args.pairs.now c.args.weights.now c.set_at.new.self (home c.args.group.now c.args.place.now) c.args.u c.args.v c.home-p.result c.home-q.result x z c.get-weight.result (to_z w128 (of_z w128 (to_z w128 (of_z w128 c.at.result) +ℤ to_z w128 (of_z w128 c.get-weight.result))))
    c.set_at.ensures.table.grid lp lq lx lz d c.home-p.ensures c.home-q.ensures c.get-weight.ensures.value (omega (arith, ints, s, e)) c.set_at.ensures.changed
