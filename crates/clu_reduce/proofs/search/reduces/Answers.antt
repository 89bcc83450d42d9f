use Rattle.std.proofs.Common.{Contains, sym, subst}
use Rattle.clu_state.proofs.GroupLaws.{state_groups}
use Rattle.clu_reduce.proofs.FreeLaws.{least_of}
use Rattle.clu_reduce.proofs.search.reduces.Goals as goal

pub serves-requires-clause-first : goal.serves-requires-clause-first
serves-requires-clause-first g c =
    let s = g.S.Situation.state c.args.state.now in
    let h = c.holds.ensures.0 c.if-not-holds.false in
    subst (Contains s.members) (sym c.group_of.ensures.value) ((state_groups s c.members-members.ensures.valid).into c.args.step.now.u h.free.first)

pub serves-requires-clause-second : goal.serves-requires-clause-second
serves-requires-clause-second g c =
    let s = g.S.Situation.state c.args.state.now in
    let h = c.holds.ensures.0 c.if-not-holds.false in
    subst (Contains s.members) (sym c.group_of-2.ensures.value) ((state_groups s c.members-members.ensures.valid).into c.args.step.now.v h.free.second)

pub serves-requires-clause-first_least : goal.serves-requires-clause-first_least
serves-requires-clause-first_least g c =
    let h = c.holds.ensures.0 c.if-not-holds.false in
    least_of (g.S.Situation.state c.args.state.now) c.args.step.now.u c.group_of.result c.members-members.ensures.valid h.free.first c.group_of.ensures.value

pub serves-requires-clause-second_least : goal.serves-requires-clause-second_least
serves-requires-clause-second_least g c =
    let h = c.holds.ensures.0 c.if-not-holds.false in
    least_of (g.S.Situation.state c.args.state.now) c.args.step.now.v c.group_of-2.result c.members-members.ensures.valid h.free.second c.group_of-2.ensures.value
