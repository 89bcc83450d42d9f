use Rattle.std.proofs.Common.{◌≡◌, ◌+ℤ◌, ◌*ℤ◌, subst, arith, to_z, of_z}
use Rattle.std.specs.Int.{w8, w128}
use Rattle.std.proofs.lemmas.Int.{ints}
use Rattle.clu_objective.proofs.Sizes.{factor_small, factor_least, printed_bits}
use Rattle.clu_objective.specs.Problem.{Posed, printed}
use Rattle.clu_objective.proofs.problem.Problem.printed.Goals as goal

pub returns : goal.returns
returns c =
    let i = c.self.inside in
    let least = factor_least i.objective i.factor c.self.invariant.factor in
    let b = c.self.invariant.base in
    let r = c.requires in
    let bits = printed_bits i.base i.factor c.args.v (to_z w128 (of_z w128 i.base)) (to_z w128 (of_z w128 (to_z w8 (of_z w8 i.factor)))) (to_z w128 (of_z w128 c.args.v))
    (omega (arith, ints, b)) (omega (arith, ints, least)) (omega (arith, ints, r)) (factor_small i.objective i.factor c.args.v c.self.invariant.factor c.requires) b in
    subst (λ (p : Posed). to_z w128 (of_z w128 (to_z w128 (of_z w128 i.base) +ℤ to_z w128 (of_z w128 (to_z w128 (of_z w128 (to_z w8 (of_z w8 i.factor))) *ℤ to_z w128 (of_z w128 c.args.v))))) ≡ printed p c.args.v) c.self.view_is bits
