use Rattle.clu_reduce.proofs.FreeLaws.{free_least, least_of}
use Rattle.clu_reduce.proofs.condition.holds.Goals as goal

pub allows-requires-clause-free : goal.allows-requires-clause-free
allows-requires-clause-free g c =
    free_least (g.S.Situation.state c.args.state.now) c.args.step.now.u c.args.step.now.v c.group_of.result c.group_of-2.result
    c.members-members.ensures.valid (c.is_free.ensures.0 c.if-not-is_free.false) c.group_of.ensures.value c.group_of-2.ensures.value

pub allows-requires-clause-first_least : goal.allows-requires-clause-first_least
allows-requires-clause-first_least g c =
    least_of (g.S.Situation.state c.args.state.now) c.args.step.now.u c.group_of.result c.members-members.ensures.valid
    (c.is_free.ensures.0 c.if-not-is_free.false).first c.group_of.ensures.value

pub allows-requires-clause-second_least : goal.allows-requires-clause-second_least
allows-requires-clause-second_least g c =
    least_of (g.S.Situation.state c.args.state.now) c.args.step.now.v c.group_of-2.result c.members-members.ensures.valid
    (c.is_free.ensures.0 c.if-not-is_free.false).second c.group_of-2.ensures.value
