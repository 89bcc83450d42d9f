use Rattle.std.proofs.Common.{◌≡◌, ◌∙◌, length, ap, subst, sym, arith, to_z, of_z}
use Rattle.std.specs.Int.{w128}
use Rattle.std.proofs.lemmas.Int.{ints}
use Rattle.clu_partition.specs.Pairs.{Pairs}
use Rattle.clu_objective.specs.Problem.{Posed}
use Rattle.clu_search.specs.Incumbent.{IsIncumbent}
use Rattle.clu_search.proofs.Incumbents.{first_best}
use Rattle.clu_search.proofs.incumbent.Incumbent.first.Goals as goal

pub from_labels-requires : goal.from_labels-requires
from_labels-requires c = let few = c.in_ok-labels.ensures.few in let same = ap length c.deref.ensures.value in omega (arith, few, same)

pub returns-clause-known : goal.returns-clause-known
returns-clause-known c =
    let pairs : c.problem.inside.pairs ≡ c.args.problem.now.pairs = ap (λ (p : Posed). p.pairs) c.problem.view_is in
    let value : to_z w128 (of_z w128 c.value-value.result) ≡ c.value-value.result = omega (arith, ints) in
    subst (λ (ps : Pairs). IsIncumbent ps c.args.start.now (record { partition = c.in_ok-partition.partition; value = to_z w128 (of_z w128 c.value-value.result) })) pairs
    (first_best c.problem.inside.pairs c.args.start.now c.deref.result.now
    (record { partition = c.in_ok-partition.partition; value = to_z w128 (of_z w128 c.value-value.result) })
    c.in_ok-labels.ensures.closed (c.requires ∙ sym (ap (λ (t : Pairs). t.n) pairs)) (c.deref.ensures.value ∙ c.in_ok-labels.ensures.groups)
    c.in_ok-partition.ensures.partition c.in_ok-partition.ensures.same (value ∙ c.value-value.ensures.value))
