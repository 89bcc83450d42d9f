use mir.Syntax.{w128}
use Rattle.clu_partition.specs.Pairs.{Pairs, with_weight}
use Rattle.std.proofs.Common.{to_z, of_z, ◌-ℤ◌, ◌+ℤ◌, arith, ap, ◌∙◌}
use Rattle.std.proofs.lemmas.Int.{ints}
use Rattle.clu_rows.proofs.Steps.{changed_by}
use Rattle.clu_rows.proofs.packing.lower.Goals as goal

pub returns : goal.returns
returns c =
    let e1 = c.get.ensures in
    let e2 = c.get-2.ensures in
    let e3 = c.get-3.ensures in
    let one = c.set.ensures.changed in
    let two = c.set-2.ensures.changed in
    let three = c.set-3.ensures.changed in
    let p = to_z w128 (of_z w128 (to_z w128 (of_z w128 c.get.result) -ℤ to_z w128 (of_z w128 c.args.y))) in
    let q = to_z w128 (of_z w128 (to_z w128 (of_z w128 c.get-2.result) -ℤ to_z w128 (of_z w128 c.args.y))) in
    let r = to_z w128 (of_z w128 (to_z w128 (of_z w128 c.get-3.result) +ℤ to_z w128 (of_z w128 c.args.rise))) in
    changed_by c.args.left.now c.set-3.new.self c.args.a c.args.b c.args.c c.args.y c.args.rise (to_z w128 (of_z w128 (to_z w128 (of_z w128 c.get.result) -ℤ to_z w128 (of_z w128 c.args.y)))) (to_z w128 (of_z w128 (to_z w128 (of_z w128 c.get-2.result) -ℤ to_z w128 (of_z w128 c.args.y)))) (to_z w128 (of_z w128 (to_z w128 (of_z w128 c.get-3.result) +ℤ to_z w128 (of_z w128 c.args.rise)))) c.set.ensures.grid c.requires.a c.requires.b c.requires.c c.requires.ab c.requires.ac c.requires.bc
    (omega (arith, ints, e1)) (omega (arith, ints, e2)) (omega (arith, ints, e3))
    (three ∙ ap (λ (t : Pairs). with_weight t c.args.b c.args.c r) (two ∙ ap (λ (t : Pairs). with_weight t c.args.a c.args.c q) one))
