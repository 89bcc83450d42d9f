use Rattle.std.proofs.Common.{arith, ◌∙◌}
use Rattle.clu_rows.proofs.NearLaws.{all_near_stay}
use Rattle.clu_rows.proofs.Steps.{nearer_trans}
use Rattle.clu_rows.proofs.Walk.{more_second}
use Rattle.clu_rows.proofs.packing.Packing.visit_first.Goals as goal

pub loop-j-preserved : goal.loop-j-preserved
loop-j-preserved g c =
    let i = c.loop-j.invariant in
    let e = c.in_ok-visit_pair.ensures in
    let step = e.step in
    record {
      room = c.visit_pair.ensures.room ∙ i.room;
      packed = step.packed;
      nearer = nearer_trans c.args.self.now.left c.loop-j.self.left c.visit_pair.new.self.left i.room i.nearer step.nearer;
      near = all_near_stay c.loop-j.self.left c.visit_pair.new.self.left _ c.args.near.now (let size = i.packed.size in size) step.nearer i.near;
      settled = more_second (g.S.Situation.state c.args.state.now) c.args.groups.now c.loop-j.self.left c.visit_pair.new.self.left c.loop-j.self.rows c.visit_pair.new.self.rows c.args.i c.loop-j.j i.packed step.packed step.nearer (omega arith) (omega arith) i.settled e.settled;
    }

pub returns-clause-settled : goal.returns-clause-settled
returns-clause-settled g c = λ y z p q r. c.loop-j.invariant.settled y z p (omega arith) q r
