use Rattle.std.proofs.Common.{arith, ◌∙◌}
use Rattle.clu_rows.proofs.NearLaws.{all_near_stay}
use Rattle.clu_rows.proofs.Walk.{more_first}
use Rattle.clu_rows.proofs.packing.Packing.visit_all.Goals as goal

pub loop-i-preserved : goal.loop-i-preserved
loop-i-preserved g c =
    let i = c.loop-i.invariant in
    let e = c.in_ok-visit_first.ensures in
    let step = e.step in
    record {
      room = c.visit_first.ensures.room ∙ i.room;
      packed = step.packed;
      near = all_near_stay c.loop-i.self.left c.visit_first.new.self.left _ c.args.near.now (let size = i.packed.size in size) step.nearer i.near;
      settled = more_first (g.S.Situation.state c.args.state.now) c.args.groups.now c.loop-i.self.left c.visit_first.new.self.left c.loop-i.self.rows c.visit_first.new.self.rows c.loop-i.i i.packed step.packed step.nearer (omega arith) i.settled e.settled;
    }

pub returns-clause-settled : goal.returns-clause-settled
returns-clause-settled g c = λ x y z p q r. c.loop-i.invariant.settled x y z (omega arith) p q r
