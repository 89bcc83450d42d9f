use Rattle.std.proofs.Common.{◌≡◌, ℤ, pos, ◌^◌, ap, ◌∙◌, arith, to_z, of_z}
use Rattle.std.specs.Int.{w128, int_min}
use Rattle.std.proofs.lemmas.Int.{ints}
use Rattle.clu_check.proofs.Summing.{printable}
use Rattle.clu_check.proofs.bounds.proved_bound.Goals as goal

pub printed-requires : goal.printed-requires
printed-requires c =
    let outer : to_z w128 (of_z w128 c.min.result) ≡ c.min.result = omega (arith, ints) in
    let inner : to_z w128 (of_z w128 c.in_ok-sum.sum) ≡ c.in_ok-sum.sum = omega (arith, ints) in
    printable c.args.problem.now c.args.start.now c.args.c.now c.in_ok-sum.sum _ c.requires.rules c.requires.parts c.in_ok-sum.ensures.ok
    (outer ∙ c.min.ensures.value ∙ ap (λ (z : ℤ). int_min z (pos (2 ^ 88))) inner)
