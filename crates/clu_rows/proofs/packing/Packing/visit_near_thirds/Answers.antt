use Rattle.std.proofs.Common.{arith, get_or, refl, ◌∙◌}
use Rattle.clu_rows.proofs.Thirds.{near_settled, near_more, idle_stays}
use Rattle.clu_rows.proofs.NearLaws.{listed}
use Rattle.clu_rows.proofs.Steps.{nearer_trans}
use Rattle.clu_rows.proofs.packing.Packing.visit_near_thirds.Goals as goal

pub visit_near_third-requires-clause-jk : goal.visit_near_third-requires-clause-jk
visit_near_third-requires-clause-jk g c = ((listed _ _ c.args.j c.args.near.now _ c.requires.near c.requires.j c.of-thirds.ensures).within c.loop-k.k-index 0 c.loop-k-test.true).0

pub visit_near_third-requires-clause-k : goal.visit_near_third-requires-clause-k
visit_near_third-requires-clause-k g c = ((listed _ _ c.args.j c.args.near.now _ c.requires.near c.requires.j c.of-thirds.ensures).within c.loop-k.k-index 0 c.loop-k-test.true).1

pub loop-k-preserved : goal.loop-k-preserved
loop-k-preserved g c =
    let i = c.loop-k.invariant in
    let e = c.in_ok-visit_near_third.ensures in
    let step = e.step in
    let near = listed _ _ c.args.j c.args.near.now _ c.requires.near c.requires.j c.of-thirds.ensures in
    record {
      room = c.visit_near_third.ensures.room ∙ i.room;
      packed = step.packed;
      nearer = nearer_trans c.args.self.now.left c.loop-k.self.left c.visit_near_third.new.self.left i.room i.nearer step.nearer;
      idle = idle_stays _ _ c.loop-k.self.left c.visit_near_third.new.self.left _ c.args.i c.args.j i.packed c.requires.ij c.requires.j step.nearer i.idle;
      settled = near_more _ c.args.groups.now c.of-thirds.result.now c.loop-k.self.left c.visit_near_third.new.self.left _ _ c.args.i c.args.j c.loop-k.k-index (get_or c.of-thirds.result.now c.loop-k.k-index 0) i.packed step.packed step.nearer c.requires.ij c.requires.j near.within c.loop-k-test.true refl i.settled e.settled;
    }

pub returns-clause-settled : goal.returns-clause-settled
returns-clause-settled g c =
    let i = c.loop-k.invariant in
    near_settled _ _ c.of-thirds.result.now c.args.self.now.left c.loop-k.self.left _ c.args.i c.args.j c.loop-k.k-index c.requires.packed c.requires.ij c.requires.j (omega arith) i.idle (listed _ _ c.args.j c.args.near.now _ c.requires.near c.requires.j c.of-thirds.ensures) i.nearer i.settled
