use Rattle.std.proofs.Common.{Contains, subst, sym}
use Rattle.clu_node.proofs.pair.Candidate.visit_with.Goals as goal

pub visit-requires-clause-second : goal.visit-requires-clause-second
visit-requires-clause-second g c = subst (Contains (g.S.Situation.state c.args.state.now).members) (sym c.b-item.is) (c.requires.later.members c.loop-b.b-index c.b-item.result c.loop-b-test.true)
