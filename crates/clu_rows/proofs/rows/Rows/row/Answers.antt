use Rattle.std.proofs.Common.{ap, arith, length}
use Rattle.clu_rows.proofs.FlatLaws.{rows_count}
use Rattle.clu_rows.proofs.rows.Rows.row.Goals as goal

pub row_at-requires-clause-i : goal.row_at-requires-clause-i
row_at-requires-clause-i c =
    let n = rows_count c.self.inside.vertices.items 0 c.self.inside.ends.items in
    let v = ap length c.self.view_is in
    let e = ap length c.deref-2.ensures.value in
    let r = c.requires in
    omega (arith, n, v, e, r)
