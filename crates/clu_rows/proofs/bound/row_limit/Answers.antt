use Rattle.std.proofs.Common.{◌*◌, ap, arith}
use Rattle.clu_rows.specs.Rows.{TwoSet}
use Rattle.clu_rows.proofs.RowLaws.{NextLimit, limit_next}
use Rattle.clu_rows.proofs.bound.row_limit.Goals as goal

next : (c : goal.After-limit) → NextLimit c.loop-i.i c.args.rows.now c.loop-i.sum (c.row.inside.y * c.limit.result)
next c = limit_next c.loop-i.i c.row-row.result c.args.rows.now c.loop-i.sum c.row.inside.y c.limit.result (let e = c.len-i-end.ensures in let l = c.loop-i-test.true in omega (arith, e, l)) (c.row-row.ensures c.row-row.result) (ap (λ (r : TwoSet). r.y) c.row.view_is)
    c.limit.ensures.value c.requires c.loop-i.invariant

pub overflow_mul-sum : goal.overflow_mul-sum
overflow_mul-sum c = let n = (next c).small in omega (arith, n)

pub overflow_add-sum : goal.overflow_add-sum
overflow_add-sum c = let n = (next c).small in omega (arith, n)

pub loop-i-preserved : goal.loop-i-preserved
loop-i-preserved c = (next c).next
