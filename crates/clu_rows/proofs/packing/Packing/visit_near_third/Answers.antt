use Rattle.std.proofs.Common.{arith}
use Rattle.std.proofs.lemmas.Int.{ints}
use Rattle.clu_rows.proofs.Thirds.{settled_idle}
use Rattle.clu_rows.proofs.packing.Packing.visit_near_third.Goals as goal

pub returns-then-get-le0-clause-settled : goal.returns-then-get-le0-clause-settled
returns-then-get-le0-clause-settled g c =
    let e = c.get.ensures in
    let f = c.if-get-le0.true in
    settled_idle _ _ c.args.self.now.left c.args.i c.args.j c.args.k c.requires.idle (omega (arith, ints, e, f))
