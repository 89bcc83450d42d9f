use Rattle.std.proofs.Common.{◌∙◌}
use Rattle.clu_reduce.proofs.Runs.{swept_then}
use Rattle.clu_reduce.proofs.Sweeps.{kind_next, same_place}
use Rattle.clu_reduce.proofs.sweep.sweep_kind.Goals as goal

pub loop-i-preserved : goal.loop-i-preserved
loop-i-preserved g c =
    let old = g.S.Situation.state c.args.state.now in
    let now = g.S.Situation.state c.loop-i.state in
    let h = same_place old now c.members.result.now c.members-i-end.result.now c.loop-i.i c.index-members-i.result c.loop-i.invariant.members
    c.members.ensures.value c.members-i-end.ensures.value c.loop-i-test.true c.index-members-i.is in
    record {
      swept = swept_then old now (g.S.Situation.state c.sweep_row.new.state) c.args.steps.now c.loop-i.steps c.sweep_row.new.steps
          c.loop-i.made c.in_ok-made.field-0 c.loop-i.invariant.swept c.in_ok-made.ensures.swept;
      members = c.in_ok-made.ensures.members ∙ c.loop-i.invariant.members;
      none = kind_next old now c.args.kind c.loop-i.i c.index-members-i.result c.loop-i.made c.in_ok-made.field-0 h.0 h.1
          c.loop-i.invariant.swept.idle c.loop-i.invariant.none c.in_ok-made.ensures.none;
    }
