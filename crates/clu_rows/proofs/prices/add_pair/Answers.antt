use Rattle.std.proofs.Common.{◌∙◌, ap₂, arith, ℕ, to_z, of_z, ◌+ℤ◌}
use mir.Syntax.{w128}
use Rattle.std.proofs.lemmas.Int.{ints}
use Rattle.clu_partition.specs.Pairs.{with_weight, weight_of}
use Rattle.clu_rows.proofs.prices.add_pair.Goals as goal
use Rattle.clu_partition.proofs.PairLaws.{added}

pub returns-clause-sums : goal.returns-clause-sums
returns-clause-sums c = λ x z i j d.
    let e = c.get.ensures ∙ ap₂ (weight_of c.args.scratch.now) c.place-p.ensures c.place-q.ensures in
    let w = to_z w128 (of_z w128 (to_z w128 (of_z w128 c.get.result) +ℤ to_z w128 (of_z w128 c.args.k))) in
    let m = c.requires.small in
    added c.args.scratch.now c.set.new.self c.args.a c.args.b x z c.args.k (to_z w128 (of_z w128 (to_z w128 (of_z w128 c.get.result) +ℤ to_z w128 (of_z w128 c.args.k)))) c.set.ensures.grid c.requires.a c.requires.b i j d (omega (arith, ints, e, m))
    (c.set.ensures.changed ∙ ap₂ (λ (p q : ℕ). with_weight c.args.scratch.now p q w) c.place-p.ensures c.place-q.ensures)
