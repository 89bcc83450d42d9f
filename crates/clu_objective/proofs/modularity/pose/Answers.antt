use Rattle.std.proofs.Common.{◌≡◌, ◌*ℤ◌, ℤ, pos, ◌∙◌, ap, arith, to_z, of_z}
use Rattle.std.specs.Int.{w128}
use Rattle.std.proofs.lemmas.Int.{ints}
use Rattle.clu_objective.proofs.ModularPosed.{poses, posed, scale_is}
use Rattle.clu_objective.proofs.ModularSizes.{all_is, none_below}
use Rattle.clu_objective.proofs.modularity.pose.Goals as goal

pub degrees-requires : goal.degrees-requires
degrees-requires c =
    let all = all_is c.args.network.now.lines (none_below c.args.network.now.lines c.requires.none) in
    let sum = c.requires.sum in
    let few = c.requires.few in
    omega (arith, ints, all, sum, few)

pub invariant_of-result : goal.invariant_of-result
invariant_of-result c =
    let pairs = c.in_ok-pairs.ensures in
    let same : to_z w128 (of_z w128 c.base-base.result) ≡ c.base-base.result = omega (arith, ints) in
    let sum = c.requires.sum in
    let few = c.requires.few in
    posed c.args.network.now c.in_ok-pairs.pairs _ _ pairs.table pairs.size pairs.weights (same ∙ c.base-base.ensures) c.requires.within c.requires.none (omega (arith, ints, sum, few))

pub returns : goal.returns
returns c =
    let pairs = c.in_ok-pairs.ensures in
    let same : to_z w128 (of_z w128 c.base-base.result) ≡ c.base-base.result = omega (arith, ints) in
    poses c.args.network.now c.in_ok-pairs.pairs _ _ pairs.table pairs.size pairs.weights (same ∙ c.base-base.ensures)
    (scale_is c.args.sum ∙ ap (λ (k : ℤ). pos 4 *ℤ k *ℤ k) c.requires.sum)
