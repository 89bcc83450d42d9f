use Rattle.std.proofs.Common.{◌≡◌, arith, rules, to_z, of_z}
use mir.Syntax.{w128}
use Rattle.std.proofs.lemmas.Int.{ints}
use Rattle.clu_rows.proofs.Thirds.{settled_alike}
use Rattle.clu_rows.proofs.packing.Packing.visit_third.Goals as goal

pub returns-then-are_alike-clause-settled : goal.returns-then-are_alike-clause-settled
returns-then-are_alike-clause-settled g c =
    let w1 : to_z w128 (of_z w128 c.get-first.result) ≡ c.get-first.result = omega (arith, ints) in
    let w2 : to_z w128 (of_z w128 c.get-second.result) ≡ c.get-second.result = omega (arith, ints) in
    let e1 = c.get-first.ensures in
    let e2 = c.get-second.ensures in
    let h = c.if-are_alike.ensures.0 (search rules) in
    settled_alike _ c.args.groups.now c.args.self.now.left _ c.args.i c.args.j c.args.k c.requires.packed c.requires.ij c.requires.jk c.requires.k c.requires.allied
    (λ p. let q = h.0 (omega (arith, ints, w1, e1, p)) in omega (arith, ints, w2, e2, q), λ p. let q = h.1 (omega (arith, ints, w2, e2, p)) in omega (arith, ints, w1, e1, q))
