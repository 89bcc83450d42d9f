use Rattle.std.proofs.Common.{◌≡◌, ◌*ℤ◌, ◌-ℤ◌, ℤ, pos, get_or, ◌∙◌, ap, arith, to_z, of_z}
use Rattle.std.specs.Int.{w128}
use Rattle.std.proofs.lemmas.Int.{ints}
use Rattle.clu_partition.specs.Pairs.{weight_of}
use Rattle.clu_objective.proofs.ModularPosed.{all_small, degrees_small, pairs_small, table_few, weights_are}
use Rattle.clu_objective.proofs.modularity.weights.Goals as goal

pub line_weights-requires : goal.line_weights-requires
line_weights-requires c = table_few c.args.network.now c.args.all c.args.degrees.now c.requires

pub weigh_pairs-requires-clause-size : goal.weigh_pairs-requires-clause-size
weigh_pairs-requires-clause-size c = omega (arith, c.requires.size, c.in_ok-pairs.ensures.size)

pub weigh_pairs-requires-clause-all_in : goal.weigh_pairs-requires-clause-all_in
weigh_pairs-requires-clause-all_in c =
    let h = all_small c.args.network.now c.args.all c.args.degrees.now c.requires in
    (omega (arith, ints, h.0, h.1), omega (arith, ints, h.0, h.1))

pub weigh_pairs-requires-clause-degrees_in : goal.weigh_pairs-requires-clause-degrees_in
weigh_pairs-requires-clause-degrees_in c = λ v l.
    degrees_small c.args.network.now c.args.all c.args.degrees.now c.requires v (omega (arith, l, c.in_ok-pairs.ensures.size))

pub weigh_pairs-requires-clause-weights_in : goal.weigh_pairs-requires-clause-weights_in
weigh_pairs-requires-clause-weights_in c = λ x z l h.
    pairs_small c.args.network.now c.args.all c.args.degrees.now c.requires c.in_ok-pairs.pairs c.in_ok-pairs.ensures.weights x z l (omega (arith, h, c.in_ok-pairs.ensures.size))

pub returns-clause-weights : goal.returns-clause-weights
returns-clause-weights c =
    let all : to_z w128 (of_z w128 c.args.all) ≡ c.args.all = omega (arith, ints) in
    weights_are c.args.network.now c.args.all c.args.degrees.now c.requires c.in_ok-pairs.pairs c.weigh_pairs.new.pairs c.in_ok-pairs.ensures.size c.in_ok-pairs.ensures.weights
    (λ x z l h. c.weigh_pairs.ensures.weights x z l h ∙ ap (λ (k : ℤ). pos 2 *ℤ k *ℤ weight_of c.in_ok-pairs.pairs x z -ℤ get_or c.args.degrees.now x (pos 0) *ℤ get_or c.args.degrees.now z (pos 0)) all)
