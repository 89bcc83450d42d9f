use Rattle.std.proofs.Common.{◌+◌, None, ◌∙◌}
use Rattle.clu_partition.proofs.ListLaws.{tail_is}
use Rattle.clu_state.specs.State.{free_of}
use Rattle.clu_state.proofs.FreePairs.{with_later}
use Rattle.clu_node.specs.Heavier.{heaviest_of}
use Rattle.clu_node.proofs.Heaviest.{next_group, all_visited, has_pair, is_heaviest, none_found}
use Rattle.clu_node.proofs.pair.heaviest.Goals as goal

pub visit_with-requires-clause-later : goal.visit_with-requires-clause-later
visit_with-requires-clause-later g c =
    with_later (g.S.Situation.state c.args.state.now) c.as_slice-groups.result.now _ c.loop-i.i c.index-groups-i.result c.in_ok-leaders.ensures.valid (c.as_slice-groups.ensures ∙ c.in_ok-leaders.ensures.value)
    c.loop-i-test.true c.index-groups-i.is (tail_is (c.loop-i.i + 1) c.as_slice-groups.result.now)

pub loop-i-preserved : goal.loop-i-preserved
loop-i-preserved g c =
    let s = g.S.Situation.state c.args.state.now in
    record {
      sized = c.visit_with.ensures.sized;
      found = next_group s c.loop-i.candidate.pair c.visit_with.new.self.pair (heaviest_of s None (free_of s c.as_slice-groups.result.now)) c.index-groups-i.result c.loop-i.i c.as_slice-groups.result.now c.loop-i-test.true c.index-groups-i.is c.visit_with.ensures.pair c.loop-i.invariant.found;
    }

pub returns-clause-pair : goal.returns-clause-pair
returns-clause-pair g c =
    let s = g.S.Situation.state c.args.state.now in
    has_pair s c.loop-i.candidate.pair c.in_ok-leaders.ensures.valid
    (all_visited s c.loop-i.candidate.pair c.loop-i.i c.as_slice-groups.result.now (c.as_slice-groups.ensures ∙ c.in_ok-leaders.ensures.value) c.loop-i-test.false c.loop-i.invariant.found)

pub returns-clause-heaviest : goal.returns-clause-heaviest
returns-clause-heaviest g c =
    let s = g.S.Situation.state c.args.state.now in
    is_heaviest s c.loop-i.candidate.pair c.in_ok-leaders.ensures.valid
    (all_visited s c.loop-i.candidate.pair c.loop-i.i c.as_slice-groups.result.now (c.as_slice-groups.ensures ∙ c.in_ok-leaders.ensures.value) c.loop-i-test.false c.loop-i.invariant.found)

pub returns-clause-none : goal.returns-clause-none
returns-clause-none g c =
    let s = g.S.Situation.state c.args.state.now in
    none_found s c.loop-i.candidate.pair
    (all_visited s c.loop-i.candidate.pair c.loop-i.i c.as_slice-groups.result.now (c.as_slice-groups.ensures ∙ c.in_ok-leaders.ensures.value) c.loop-i-test.false c.loop-i.invariant.found)
