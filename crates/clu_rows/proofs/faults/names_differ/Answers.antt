use Rattle.std.proofs.Common.{◌∙◌, ◌+◌, ◌-◌, take, drop, length, sym, subst, All, Contains}
use Rattle.std.proofs.lemmas.List.Elements.{All-drop}
use Rattle.clu_state.specs.State.{leader}
use Rattle.clu_rows.proofs.FaultLaws.{all_at, once_next, once_at}
use Rattle.clu_rows.proofs.faults.names_differ.Goals as goal
use Rattle.clu_partition.proofs.ListLaws.{tail_is}

pub names_alone-requires-clause-member : goal.names_alone-requires-clause-member
names_alone-requires-clause-member g c = all_at (Contains (g.S.Situation.state c.args.state.now).members) c.loop-i.i c.index-list-i.result c.args.list.now c.loop-i-test.true c.index-list-i.is c.requires.list

pub names_alone-requires-clause-members : goal.names_alone-requires-clause-members
names_alone-requires-clause-members g c = subst (All (Contains (g.S.Situation.state c.args.state.now).members)) (sym (tail_is (c.loop-i.i + 1) c.args.list.now)) (All-drop (Contains (g.S.Situation.state c.args.state.now).members) (c.loop-i.i + 1) c.args.list.now c.requires.list)

pub names_alone-requires-in-loop-i-clause-member : goal.names_alone-requires-in-loop-i-clause-member
names_alone-requires-in-loop-i-clause-member g c = all_at (Contains (g.S.Situation.state c.args.state.now).members) c.loop-i.i c.index-list-i.result c.args.list.now c.loop-i-test.true c.index-list-i.is c.requires.list

pub returns-then-not-names_alone-clause-needed : goal.returns-then-not-names_alone-clause-needed
returns-then-not-names_alone-clause-needed g c = λ o.
    sym c.if-not-names_alone.true ∙ c.names_alone.ensures.1 (once_at (leader (g.S.Situation.state c.args.state.now)) c.loop-i.i c.index-list-i.result c.args.list.now (take (length c.args.list.now - (c.loop-i.i + 1)) (drop (c.loop-i.i + 1) c.args.list.now)) c.args.others.now c.loop-i-test.true c.index-list-i.is (tail_is (c.loop-i.i + 1) c.args.list.now) o).0

pub returns-then-not-names_alone-2-clause-needed : goal.returns-then-not-names_alone-2-clause-needed
returns-then-not-names_alone-2-clause-needed g c = λ o.
    sym c.if-not-names_alone-2.true ∙ c.names_alone-in-loop-i.ensures.1 (once_at (leader (g.S.Situation.state c.args.state.now)) c.loop-i.i c.index-list-i.result c.args.list.now (take (length c.args.list.now - (c.loop-i.i + 1)) (drop (c.loop-i.i + 1) c.args.list.now)) c.args.others.now c.loop-i-test.true c.index-list-i.is (tail_is (c.loop-i.i + 1) c.args.list.now) o).1

pub loop-i-preserved : goal.loop-i-preserved
loop-i-preserved g c = once_next (leader (g.S.Situation.state c.args.state.now)) c.loop-i.i c.index-list-i.result c.args.list.now (take (length c.args.list.now - (c.loop-i.i + 1)) (drop (c.loop-i.i + 1) c.args.list.now)) c.args.others.now c.loop-i-test.true c.index-list-i.is (tail_is (c.loop-i.i + 1) c.args.list.now)
    (c.names_alone.ensures.0 c.if-not-names_alone.false) (c.names_alone-in-loop-i.ensures.0 c.if-not-names_alone-2.false) c.loop-i.invariant
