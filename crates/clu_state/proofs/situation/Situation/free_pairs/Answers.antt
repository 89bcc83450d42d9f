use Rattle.std.proofs.Common.{◌+◌, ◌∙◌}
use Rattle.clu_partition.proofs.ListLaws.{tail_is}
use Rattle.clu_state.proofs.FreePairs.{with_later, free_next, all_found}
use Rattle.clu_state.proofs.situation.Situation.free_pairs.Goals as goal

pub push_free-requires : goal.push_free-requires
push_free-requires g c =
    with_later (g.Self.Situation.state c.args.self.now) c.as_slice-groups.result.now _ c.loop-i.i c.index-groups-i.result c.in_ok-leaders.ensures.valid (c.as_slice-groups.ensures ∙ c.in_ok-leaders.ensures.value)
    c.loop-i-test.true c.index-groups-i.is (tail_is (c.loop-i.i + 1) c.as_slice-groups.result.now)

pub loop-i-preserved : goal.loop-i-preserved
loop-i-preserved g c =
    free_next (g.Self.Situation.state c.args.self.now) c.as_slice-groups.result.now c.loop-i.i c.index-groups-i.result c.loop-i.pairs.items c.push_free.new.pairs.items _ c.loop-i-test.true c.index-groups-i.is c.in_ok-push_free.ensures c.loop-i.invariant

pub returns-clause-free : goal.returns-clause-free
returns-clause-free g c =
    all_found (g.Self.Situation.state c.args.self.now) c.as_slice-groups.result.now c.loop-i.i c.loop-i.pairs.items c.in_ok-leaders.ensures.valid (c.as_slice-groups.ensures ∙ c.in_ok-leaders.ensures.value) c.loop-i-test.false c.loop-i.invariant
