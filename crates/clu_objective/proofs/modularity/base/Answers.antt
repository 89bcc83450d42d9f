use Rattle.std.proofs.Common.{◌≡◌, ◌==◌, ◌*ℤ◌, ◌-ℤ◌, ℤ, pos, ◌∙◌, ap, arith, to_z, of_z}
use Rattle.std.specs.Int.{w128}
use Rattle.std.proofs.lemmas.Int.{ints}
use Rattle.clu_partition.specs.Sums.{total, only_if}
use Rattle.clu_network.specs.declared.network.NetLine.{NetLine}
use Rattle.clu_objective.specs.Lines.{all_sizes}
use Rattle.clu_objective.proofs.ModularPosed.{all_small, base_is, loops_small, sizes_few, squares_small}
use Rattle.clu_objective.proofs.modularity.base.Goals as goal

pub loops-requires : goal.loops-requires
loops-requires c =
    let few = sizes_few c.args.network.now c.args.all c.args.degrees.now c.requires.totals in
    omega (arith, few, ap all_sizes c.lines.ensures.lines)

pub squares-requires-clause-small : goal.squares-requires-clause-small
squares-requires-clause-small c = squares_small c.args.network.now c.args.all c.args.degrees.now c.requires.totals

pub base_of-requires-clause-all_in : goal.base_of-requires-clause-all_in
base_of-requires-clause-all_in c =
    let h = all_small c.args.network.now c.args.all c.args.degrees.now c.requires.totals in
    (omega (arith, ints, h.0, h.1), omega (arith, ints, h.0, h.1))

pub base_of-requires-clause-loops_in : goal.base_of-requires-clause-loops_in
base_of-requires-clause-loops_in c =
    let same : to_z w128 (of_z w128 c.loops.result) ≡ c.loops.result = omega (arith, ints) in
    loops_small c.args.network.now c.args.all c.args.degrees.now c.requires.totals _
    (same ∙ c.loops.ensures ∙ ap (total (λ (l : NetLine). only_if (l.u == l.v) l.weight)) c.lines.ensures.lines)

pub returns : goal.returns
returns c =
    let all : to_z w128 (of_z w128 c.args.all) ≡ c.args.all = omega (arith, ints) in
    let loops : to_z w128 (of_z w128 c.loops.result) ≡ c.loops.result = omega (arith, ints) in
    let squares : to_z w128 (of_z w128 c.squares.result) ≡ c.squares.result = omega (arith, ints) in
    let base : to_z w128 (of_z w128 c.base_of.result) ≡ c.base_of.result = omega (arith, ints) in
    base_is c.args.network.now c.args.all c.args.degrees.now c.requires.totals _ (to_z w128 (of_z w128 c.loops.result)) (to_z w128 (of_z w128 c.squares.result))
    (base ∙ c.base_of.ensures ∙ ap (λ (k : ℤ). pos 4 *ℤ k *ℤ to_z w128 (of_z w128 c.loops.result) -ℤ to_z w128 (of_z w128 c.squares.result)) all)
    (loops ∙ c.loops.ensures ∙ ap (total (λ (l : NetLine). only_if (l.u == l.v) l.weight)) c.lines.ensures.lines)
    (squares ∙ c.squares.ensures.value)
