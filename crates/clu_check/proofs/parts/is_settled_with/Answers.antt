use Rattle.std.proofs.Common.{length, ◌∙◌}
use Rattle.clu_check.proofs.Membership.{below_at_place}
use Rattle.clu_check.proofs.parts.is_settled_with.Goals as goal

pub is_inside_or_settled-requires-clause-within : goal.is_inside_or_settled-requires-clause-within
is_inside_or_settled-requires-clause-within c =
    below_at_place c.members-v-items.result.now (length c.args.owner.now) c.loop-v.v-index c.v-item.result
    (c.members-v-items.ensures.value ∙ c.requires.members) c.loop-v-test.true c.v-item.is
