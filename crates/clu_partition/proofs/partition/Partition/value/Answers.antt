use Rattle.std.proofs.Common.{rules, ◌≡◌, ℕ, ℤ, pos, ◌≤ℤ◌, length, slice_index, sym, ◌∙◌, ap, subst, arith, to_z, of_z, unsigned_abs, ◌==◌}
use mir.Syntax.{w128}
use Rattle.std.proofs.lemmas.Int.{ints}
use Rattle.clu_partition.specs.Partition.{below}
use Rattle.clu_partition.specs.Pairs.{weight_of, total_of}
use Rattle.clu_partition.specs.Sums.{only_if, pair_total}
use Rattle.clu_partition.proofs.ValueSizes.{value_size}
use Rattle.clu_partition.proofs.partition.Partition.value.Goals as goal

value : goal.returns-clause-value
value c =
    let same : to_z w128 (of_z w128 c.pair_sum.result) ≡ c.pair_sum.result = omega (arith, ints) in
    let weights : ℕ → ℕ → ℤ = λ i j. only_if (slice_index c.args.self.now i == slice_index c.args.self.now j) (weight_of c.args.pairs.now i j) in
    let walked : c.pair_sum.result ≡ pair_total weights (below c.len-n.result) = c.pair_sum.ensures weights (λ i j r p q e. search rules) in
    let view = ap length c.self.view_is in
    let all : c.len-n.result ≡ c.args.pairs.now.n = omega (arith, c.len-n.ensures, c.self.inside.labels.ok.0, view, c.requires) in
    same ∙ walked ∙ ap (λ n. pair_total weights (below n)) all

pub returns-clause-value : goal.returns-clause-value
returns-clause-value c = value c

pub returns-clause-small : goal.returns-clause-small
returns-clause-small c = subst (λ (v : ℤ). pos (unsigned_abs v) ≤ℤ total_of c.args.pairs.now) (sym (value c))
    (value_size (λ u v. slice_index c.args.self.now u == slice_index c.args.self.now v) (weight_of c.args.pairs.now) (below c.args.pairs.now.n))
