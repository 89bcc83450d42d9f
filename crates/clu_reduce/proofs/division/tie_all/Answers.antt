use Rattle.std.proofs.Common.{slice_index, sym, ◌∙◌}
use Rattle.clu_reduce.proofs.Labelled.{member_at, tied_more}
use Rattle.clu_reduce.proofs.division.tie_all.Goals as goal

pub tie-requires-clause-first : goal.tie-requires-clause-first
tie-requires-clause-first g c = member_at (g.S.Situation.state c.args.state.now) c.args.groups.now c.args.i c.index-groups-i.result c.requires.groups c.requires.at (sym c.index-groups-i.is)

pub tie-requires-clause-second : goal.tie-requires-clause-second
tie-requires-clause-second g c = member_at (g.S.Situation.state c.args.state.now) c.args.groups.now c.loop-j.j c.index-groups-j.result c.requires.groups c.loop-j-test.true (sym c.index-groups-j.is)

pub loop-j-preserved : goal.loop-j-preserved
loop-j-preserved g c = record {
  size = c.tie.ensures.size ∙ c.loop-j.invariant.size;
  labels = c.tie.ensures.labels;
  kept = λ u v cu cv e. c.tie.ensures.kept u v cu cv (c.loop-j.invariant.kept u v cu cv e);
  tied = tied_more (g.S.Situation.state c.args.state.now) c.args.groups.now (slice_index c.args.labels.now.items) (slice_index c.loop-j.labels.items)
      (slice_index c.tie.new.labels.items) c.args.i c.loop-j.j c.index-groups-i.result c.index-groups-j.result c.requires.groups c.requires.at
      c.loop-j-test.true (sym c.index-groups-i.is) (sym c.index-groups-j.is) c.tie.ensures.kept c.tie.ensures.tied c.loop-j.invariant.tied;
}
