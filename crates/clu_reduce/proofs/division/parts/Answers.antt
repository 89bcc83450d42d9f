use Rattle.std.proofs.Common.{slice_index, length, ap, arith}
use Rattle.clu_reduce.proofs.Labelled.{parts_done}
use Rattle.clu_reduce.proofs.division.parts.Goals as goal

pub returns : goal.returns
returns g c = parts_done (g.S.Situation.state c.args.state.now) c.members-v-items.ensures.valid (slice_index c.in_ok-labels.labels.items)
    c.in_ok-labels.ensures.labels c.in_ok-labels.ensures.stable c.loop-v.v-index
    (let e = ap length c.members-v-items.ensures.value in let t = c.loop-v-test.false in omega (arith, e, t))
    c.loop-v.parts c.loop-v.invariant
