use Rattle.std.proofs.Common.{◌≢◌, ◌+◌, ◌-◌, ◌^◌, ◌≤ℤ◌, pos, sym, subst, arith, take, drop, All, Contains, length, ℕ, List}
use Rattle.std.proofs.lemmas.List.Elements.{All-drop}
use Rattle.clu_rows.specs.Prices.{uncovered_all}
use Rattle.clu_rows.proofs.BoundLaws.{all_next, with_most, others_after, all_in}
use Rattle.clu_rows.proofs.bound.excess.Goals as goal
use Rattle.clu_partition.proofs.ListLaws.{tail_is}

pub uncovered_with-sum-requires-clause-later : goal.uncovered_with-sum-requires-clause-later
uncovered_with-sum-requires-clause-later g c = subst (All (Contains (g.S.Situation.state c.args.state.now).members)) (sym (tail_is (c.loop-i.i + 1) c.members-members.result.now)) (All-drop (Contains (g.S.Situation.state c.args.state.now).members) (c.loop-i.i + 1) c.members-members.result.now (subst (λ (m : List ℕ). All (Contains m) c.members-members.result.now) c.members-members.ensures.value (all_in c.members-members.result.now)))

pub uncovered_with-sum-requires-clause-differ : goal.uncovered_with-sum-requires-clause-differ
uncovered_with-sum-requires-clause-differ g c = subst (All (λ b. c.index-members-i.result ≢ b)) (sym (tail_is (c.loop-i.i + 1) c.members-members.result.now)) (others_after (g.S.Situation.state c.args.state.now) c.members-members.ensures.valid c.members-members.result.now c.loop-i.i c.index-members-i.result c.members-members.ensures.value c.loop-i-test.true c.index-members-i.is)

pub uncovered_with-sum-requires-clause-small : goal.uncovered_with-sum-requires-clause-small
uncovered_with-sum-requires-clause-small g c = with_most (g.S.Situation.state c.args.state.now) c.args.den c.args.prices.now c.loop-i.i c.index-members-i.result c.members-members.result.now (take (length c.members-members.result.now - (c.loop-i.i + 1)) (drop (c.loop-i.i + 1) c.members-members.result.now)) c.loop-i.sum c.loop-i-test.true c.index-members-i.is (tail_is (c.loop-i.i + 1) c.members-members.result.now) c.loop-i.invariant (subst (λ (m : List ℕ). uncovered_all (g.S.Situation.state c.args.state.now) c.args.den c.args.prices.now m ≤ℤ pos (2 ^ 121)) (sym c.members-members.ensures.value) c.requires.small)

pub overflow_add-sum : goal.overflow_add-sum
overflow_add-sum g c = let n = (all_next (g.S.Situation.state c.args.state.now) c.args.den c.args.prices.now c.loop-i.i c.index-members-i.result c.members-members.result.now (take (length c.members-members.result.now - (c.loop-i.i + 1)) (drop (c.loop-i.i + 1) c.members-members.result.now)) c.loop-i.sum c.uncovered_with-sum.result c.loop-i-test.true c.index-members-i.is (tail_is (c.loop-i.i + 1) c.members-members.result.now) c.uncovered_with-sum.ensures c.loop-i.invariant (subst (λ (m : List ℕ). uncovered_all (g.S.Situation.state c.args.state.now) c.args.den c.args.prices.now m ≤ℤ pos (2 ^ 121)) (sym c.members-members.ensures.value) c.requires.small)).small in omega (arith, n)

pub loop-i-preserved : goal.loop-i-preserved
loop-i-preserved g c = (all_next (g.S.Situation.state c.args.state.now) c.args.den c.args.prices.now c.loop-i.i c.index-members-i.result c.members-members.result.now (take (length c.members-members.result.now - (c.loop-i.i + 1)) (drop (c.loop-i.i + 1) c.members-members.result.now)) c.loop-i.sum c.uncovered_with-sum.result c.loop-i-test.true c.index-members-i.is (tail_is (c.loop-i.i + 1) c.members-members.result.now) c.uncovered_with-sum.ensures c.loop-i.invariant (subst (λ (m : List ℕ). uncovered_all (g.S.Situation.state c.args.state.now) c.args.den c.args.prices.now m ≤ℤ pos (2 ^ 121)) (sym c.members-members.ensures.value) c.requires.small)).next
