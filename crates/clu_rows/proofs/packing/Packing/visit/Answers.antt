use Rattle.std.proofs.Common.{arith}
use Rattle.std.proofs.lemmas.Int.{ints}
use Rattle.clu_rows.proofs.Thirds.{settled_full}
use Rattle.clu_rows.proofs.packing.Packing.visit.Goals as goal

pub returns-clause-settled : goal.returns-clause-settled
returns-clause-settled g c =
    let e1 = c.get.ensures in
    let e2 = c.get-2.ensures in
    let e3 = c.get-3.ensures in
    let f1 = c.if-get-le0.false in
    let f2 = c.if-get-le0-2.false in
    let f3 = c.if-get-le0-3.false in
    settled_full _ _ _ _ c.args.i c.args.j c.args.k c.requires.packed c.requires.ij c.requires.jk c.requires.k (omega (arith, ints, e1, f1)) (omega (arith, ints, e2, f2)) (omega (arith, ints, e3, f3))
