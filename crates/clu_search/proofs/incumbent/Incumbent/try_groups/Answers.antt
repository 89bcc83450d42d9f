use Rattle.std.proofs.Common.{◌≡◌, ◌∙◌, arith, to_z, of_z}
use Rattle.std.specs.Int.{w128}
use Rattle.std.proofs.lemmas.Int.{ints}
use Rattle.clu_search.proofs.Incumbents.{few_labels, groups_best}
use Rattle.clu_search.proofs.incumbent.Incumbent.try_groups.Goals as goal

pub from_labels-requires : goal.from_labels-requires
from_labels-requires g c = few_labels (g.S.Situation.state c.args.state.now) c.deref.result.now c.in_ok-labels.ensures.valid
    (c.deref.ensures.value ∙ c.in_ok-labels.ensures.value)

pub returns-in_ok-self-clause-known : goal.returns-in_ok-self-clause-known
returns-in_ok-self-clause-known g c =
    let value : to_z w128 (of_z w128 c.fixed_value-value.result) ≡ c.fixed_value-value.result = omega (arith, ints) in
    groups_best (g.S.Situation.state c.args.state.now) c.deref.result.now _ c.in_ok-labels.ensures.valid c.requires.all
    (c.deref.ensures.value ∙ c.in_ok-labels.ensures.value) c.in_ok-self.ensures.partition c.in_ok-self.ensures.same
    (value ∙ c.fixed_value-value.ensures)
