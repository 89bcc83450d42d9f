use Rattle.std.proofs.Common.{rules, ◌≡◌, ℕ, ℤ, pos, unsigned_abs, ◌∙◌, ap, arith, to_z, of_z}
use mir.Syntax.{w128}
use Rattle.std.proofs.lemmas.Int.{ints}
use Rattle.clu_partition.specs.Partition.{below}
use Rattle.clu_partition.specs.Pairs.{weight_of}
use Rattle.clu_partition.specs.Sums.{pair_total}
use Rattle.clu_partition.proofs.SumLaws.{size_of_counts}
use Rattle.clu_partition.proofs.table.PairTable.total_abs.Goals as goal

pub returns : goal.returns
returns c =
    let same : to_z w128 (of_z w128 c.pair_sum-total.result) ≡ c.pair_sum-total.result = omega (arith, ints) in
    let sizes : ℕ → ℕ → ℤ = λ u v. pos (unsigned_abs (weight_of c.args.self.now u v)) in
    let walked : c.pair_sum-total.result ≡ pair_total sizes (below c.n.result) = c.pair_sum-total.ensures sizes (λ i j r p q e. search rules) in
    size_of_counts (λ u v. unsigned_abs (weight_of c.args.self.now u v)) (below c.args.self.now.n) _ _ c.unsigned_abs.ensures.value
    (same ∙ walked ∙ ap (λ n. pair_total sizes (below n)) c.n.ensures.value)
