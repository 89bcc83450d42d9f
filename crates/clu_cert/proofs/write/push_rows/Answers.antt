use Rattle.std.proofs.Common.{arith}
use Rattle.clu_cert.proofs.Joins.{row_behind}
use Rattle.clu_cert.proofs.write.push_rows.Goals as goal

pub loop-i-preserved : goal.loop-i-preserved
loop-i-preserved c =
    let e = c.len-i-end.ensures in
    let l = c.loop-i-test.true in
    row_behind c.args.out.now.items c.loop-i.out.items c.push_row.new.out.items c.args.rows.now c.loop-i.i c.row.result (omega (arith, e, l)) (c.row.ensures c.row.result) c.loop-i.invariant c.in_ok-push_row.ensures
