use Rattle.std.proofs.Common.{Contains, subst, sym}
use Rattle.clu_state.proofs.situation.push_free.Goals as goal

pub is_apart-requires-clause-second : goal.is_apart-requires-clause-second
is_apart-requires-clause-second g c = subst (Contains (g.S.Situation.state c.args.state.now).members) (sym c.b-item.is) (c.requires.members c.loop-b.b-index c.b-item.result c.loop-b-test.true)
