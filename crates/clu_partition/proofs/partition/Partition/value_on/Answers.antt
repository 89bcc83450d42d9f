use Rattle.std.proofs.Common.{rules, ◌≡◌, ℕ, ℤ, length, slice_index, ◌∙◌, ap, arith, to_z, of_z, ◌==◌}
use mir.Syntax.{w128}
use Rattle.std.proofs.lemmas.Int.{ints}
use Rattle.clu_partition.specs.Partition.{below}
use Rattle.clu_partition.specs.Pairs.{weight_of}
use Rattle.clu_partition.specs.Sums.{only_if, pair_total}
use Rattle.clu_partition.proofs.PlaceLaws.{value_of_places}
use Rattle.clu_partition.proofs.partition.Partition.value_on.Goals as goal

value : goal.returns-clause-value
value c =
    let same : to_z w128 (of_z w128 c.pair_sum.result) ≡ c.pair_sum.result = omega (arith, ints) in
    let weights : ℕ → ℕ → ℤ = λ i j. only_if (slice_index c.args.self.now i == slice_index c.args.self.now j) (weight_of c.args.pairs.now (slice_index c.args.members.now i) (slice_index c.args.members.now j)) in
    let walked : c.pair_sum.result ≡ pair_total weights (below c.len-n.result) = c.pair_sum.ensures weights (λ i j r p q e. search rules) in
    let view = ap length c.self.view_is in
    let all : c.len-n.result ≡ length c.args.members.now = omega (arith, c.len-n.ensures, c.self.inside.labels.ok.0, view, c.requires.one_each) in
    same ∙ walked ∙ ap (λ n. pair_total weights (below n)) all

pub returns-clause-value : goal.returns-clause-value
returns-clause-value c = value c

pub returns-clause-labelled : goal.returns-clause-labelled
returns-clause-labelled c = λ label is. value c ∙ value_of_places (weight_of c.args.pairs.now) label c.args.self.now c.args.members.now is
