use Rattle.std.proofs.Common.{length, slice_index, All, sym, ap, ◌∙◌, subst, arith, ◌<◌}
use Rattle.clu_reduce.proofs.Labelled.{groups_are_members, tied_next, stable_all}
use Rattle.clu_reduce.proofs.division.labels_of.Goals as goal

pub tie_all-requires-clause-groups : goal.tie_all-requires-clause-groups
tie_all-requires-clause-groups g c = groups_are_members (g.S.Situation.state c.args.state.now) c.as_slice.result.now (c.as_slice.ensures ∙ c.in_ok-groups.ensures.value)

pub loop-i-preserved : goal.loop-i-preserved
loop-i-preserved g c = record {
  size = subst (λ k. All (λ v. v < k) (g.S.Situation.state c.args.state.now).members) (sym c.tie_all.ensures.size) c.loop-i.invariant.size;
  labels = c.tie_all.ensures.labels;
  tied = tied_next (g.S.Situation.state c.args.state.now) c.as_slice.result.now (c.as_slice.ensures ∙ c.in_ok-groups.ensures.value)
      (slice_index c.loop-i.labels.items) (slice_index c.tie_all.new.labels.items) c.loop-i.i c.tie_all.ensures.kept c.loop-i.invariant.tied c.tie_all.ensures.tied;
}

pub returns-clause-stable : goal.returns-clause-stable
returns-clause-stable g c = stable_all (g.S.Situation.state c.args.state.now) c.leaders.ensures.valid (slice_index c.loop-i.labels.items)
    c.loop-i.invariant.labels c.loop-i.i
    (let e = ap length c.in_ok-groups.ensures.value in let l = c.len-i-end.ensures in let t = c.loop-i-test.false in omega (arith, e, l, t))
    c.loop-i.invariant.tied
