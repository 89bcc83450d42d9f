use Rattle.std.proofs.Common.{arith}
use Rattle.std.proofs.lemmas.Int.{ints}
use Rattle.clu_rows.proofs.Thirds.{allied}
use Rattle.clu_rows.proofs.packing.Packing.visit_pair.Goals as goal

pub visit_each_third-requires-clause-allied : goal.visit_each_third-requires-clause-allied
visit_each_third-requires-clause-allied g c =
    let e = c.get.ensures in
    let f = c.if-get-gt0.true in
    allied _ c.args.groups.now c.args.self.now.left _ c.args.i c.args.j c.requires.packed c.requires.ij c.requires.j (omega (arith, ints, e, f))
