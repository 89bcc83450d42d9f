use mir.Syntax.{w128}
use Rattle.std.proofs.Common.{rules, ◌≡◌, ◌∙◌, length, arith, to_z, of_z}
use Rattle.std.proofs.lemmas.Int.{ints}
use Rattle.clu_partition.specs.Partition.{below}
use Rattle.clu_partition.specs.Sums.{pair_total}
use Rattle.clu_state.proofs.Bounds.{few_groups}
use Rattle.clu_rows.proofs.PackBound.{above, above_all, above_small}
use Rattle.clu_rows.proofs.packing.Packing.excess.Goals as goal

pub overflow_cast-groups : goal.overflow_cast-groups
overflow_cast-groups c = let h = few_groups c.requires.0 c.args.groups.now c.requires.1.state c.requires.1.groups_are in omega (arith, h)

pub pair_sum-requires-clause-few : goal.pair_sum-requires-clause-few
pair_sum-requires-clause-few c = few_groups c.requires.0 c.args.groups.now c.requires.1.state c.requires.1.groups_are

pub pair_sum-requires-clause-small : goal.pair_sum-requires-clause-small
pair_sum-requires-clause-small c = λ i j r p q e.
    above_small c.requires.0 c.args.groups.now c.args.self.now.left c.args.self.now.rows c.requires.1 i j r p q (search rules)

pub returns : goal.returns
returns c = λ s packed.
    let same : to_z w128 (of_z w128 c.pair_sum.result) ≡ c.pair_sum.result = omega (arith, ints) in
    let walked : c.pair_sum.result ≡ pair_total (above c.args.self.now.left) (below (length c.args.groups.now)) =
    c.pair_sum.ensures (above c.args.self.now.left) (λ i j r p q e. search rules) in
    same ∙ walked ∙ above_all s c.args.groups.now c.args.self.now.left c.args.self.now.rows packed
