use Rattle.std.proofs.Common.{refl, arith}
use Rattle.clu_rows.proofs.FaultLaws.{fault_at, rows_next, room_next}
use Rattle.clu_rows.proofs.faults.first_fault.Goals as goal

pub returns-in-None-clause-some : goal.returns-in-None-clause-some
returns-in-None-clause-some g c = fault_at (g.S.Situation.state c.args.state.now) c.loop-i.i c.row.result c.args.rows.now c.loop-i.room (let e = c.len-i-end.ensures in let l = c.loop-i-test.true in omega (arith, e, l)) (c.row.ensures c.row.result) c.loop-i.invariant.fits c.loop-i.invariant.rest (c.in-None.ensures.none refl)

pub loop-i-preserved : goal.loop-i-preserved
loop-i-preserved g c =
    let e = c.in-Some.ensures.some in
    record {
      fits = rows_next (g.S.Situation.state c.args.state.now) c.loop-i.i c.row.result c.args.rows.now (let e = c.len-i-end.ensures in let l = c.loop-i-test.true in omega (arith, e, l)) (c.row.ensures c.row.result) c.loop-i.invariant.fits e.0;
      rest = room_next c.loop-i.i c.row.result c.args.rows.now c.loop-i.room c.in-Some.left (let e = c.len-i-end.ensures in let l = c.loop-i-test.true in omega (arith, e, l)) (c.row.ensures c.row.result) e.1 c.loop-i.invariant.rest;
    }
