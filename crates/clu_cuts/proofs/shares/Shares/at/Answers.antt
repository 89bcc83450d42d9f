use Rattle.std.proofs.Common.{◌≡◌, ◌∙◌, arith, to_z, of_z, slice_index}
use mir.Syntax.{w128}
use Rattle.std.proofs.lemmas.Int.{ints}
use Rattle.clu_cuts.proofs.Tests.{share_range, cell}
use Rattle.clu_cuts.proofs.shares.Shares.at.Goals as goal

pub returns : goal.returns
returns c =
    let w : to_z w128 (of_z w128 c.get.result) ≡ c.get.result = omega (arith, ints) in
    let e = cell c.args.self.now.groups.now c.args.self.now.point.now c.args.self.now.table c.args.i c.args.j c.get.result c.requires.shares.table c.requires.i c.requires.j c.get.ensures in
    let r = share_range c.requires.shares.some.0 c.args.self.now.point.now (slice_index c.args.self.now.groups.now c.args.i) (slice_index c.args.self.now.groups.now c.args.j) c.requires.shares.some.1 in
    let a = r.0 in
    let b = r.1 in
    record {
      value = w ∙ e;
      least = omega (arith, ints, w, e, a);
      most = omega (arith, ints, w, e, b);
    }
