use Rattle.std.proofs.Common.{arith}
use Rattle.clu_rows.proofs.Steps.{nearer_trans}
use Rattle.std.proofs.Common.{◌∙◌}
use Rattle.clu_rows.proofs.Thirds.{allied_stays}
use Rattle.clu_rows.proofs.Walk.{more_third}
use Rattle.clu_rows.proofs.packing.Packing.visit_each_third.Goals as goal

pub loop-k-preserved : goal.loop-k-preserved
loop-k-preserved g c =
    let i = c.loop-k.invariant in
    let e = c.in_ok-visit_third.ensures in
    let step = e.step in
    record {
      room = c.visit_third.ensures.room ∙ i.room;
      packed = step.packed;
      nearer = nearer_trans c.args.self.now.left c.loop-k.self.left c.visit_third.new.self.left i.room i.nearer step.nearer;
      allied = allied_stays _ c.args.groups.now c.loop-k.self.left c.visit_third.new.self.left _ c.args.i c.args.j i.packed c.requires.ij c.requires.j step.nearer i.allied;
      settled = more_third (g.S.Situation.state c.args.state.now) c.args.groups.now c.loop-k.self.left c.visit_third.new.self.left c.loop-k.self.rows c.visit_third.new.self.rows c.args.i c.args.j c.loop-k.k i.packed step.packed step.nearer c.requires.ij (omega arith) (omega arith) i.settled e.settled;
    }

pub returns-clause-settled : goal.returns-clause-settled
returns-clause-settled g c = λ z p q. c.loop-k.invariant.settled z p (omega arith)
