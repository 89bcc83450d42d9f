use Rattle.std.proofs.Common.{◌≡◌, ◌∙◌, ap, arith, to_z, of_z}
use Rattle.std.specs.Int.{w128}
use Rattle.std.proofs.lemmas.Int.{ints}
use Rattle.clu_objective.specs.Problem.{Posed, printed}
use Rattle.clu_check.proofs.SameValue.{printed_of}
use Rattle.clu_check.proofs.labels.value_of.Goals as goal

pub returns : goal.returns
returns c =
    let outer : to_z w128 (of_z w128 c.printed.result) ≡ c.printed.result = omega (arith, ints) in
    let inner : to_z w128 (of_z w128 c.value.result) ≡ c.value.result = omega (arith, ints) in
    printed_of c.args.problem.now c.problem.inside.pairs c.args.labels.now c.in_ok-partition.partition c.value.result _
    (ap (λ (p : Posed). p.pairs) c.problem.view_is) c.requires.one_each c.in_ok-partition.ensures.same c.value.ensures.value
    (outer ∙ c.printed.ensures ∙ ap (printed c.args.problem.now) inner)
