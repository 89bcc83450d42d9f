use Rattle.std.proofs.Common.{◌≡◌, ◌∙◌, arith, slice_index, to_z, of_z}
use mir.Syntax.{w128}
use Rattle.std.proofs.lemmas.Int.{ints}
use Rattle.clu_cuts.proofs.Tests.{triangle_test}
use Rattle.clu_cuts.proofs.triangles.is_violated.Goals as goal

pub returns : goal.returns
returns c =
    let x = c.at-ab.ensures in let y = c.at-ac.ensures in let z = c.at-bc.ensures in
    let xl = x.least in let xm = x.most in let yl = y.least in let ym = y.most in
    let zl = z.least in let zm = z.most in
    let h = c.requires.shares.some.1.positive in let m = c.requires.shares.common in
    let d : to_z w128 (of_z w128 c.args.shares.now.point.now.den) ≡ c.args.shares.now.point.now.den = omega (arith, ints, h, m) in
    c.is_past.ensures ∙
    triangle_test c.args.shares.now.point.now (slice_index c.args.shares.now.groups.now c.args.a) (slice_index c.args.shares.now.groups.now c.args.b) (slice_index c.args.shares.now.groups.now c.args.c) _ _
    c.at-ab.result c.at-ac.result c.at-bc.result x.value y.value z.value d (omega (arith, ints, xl, xm, yl, ym, zl, zm, m))
