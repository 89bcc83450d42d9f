use Rattle.std.proofs.Common.{◌≡◌, pos, take}
use Rattle.clu_rows.specs.Rows.{row_limit}
use Rattle.clu_rows.proofs.bound.row_limit.Given as goal

abbrev pub invariant-loop-i : goal.invariant-loop-i
invariant-loop-i l = pos l.sum ≡ row_limit (take l.i l.rows)
