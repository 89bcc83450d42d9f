use Rattle.std.proofs.Common.{◌≡◌, ◌++◌, take, map}
use Rattle.clu_cert.specs.Text.{text_of, row_line}
use Rattle.clu_cert.proofs.write.push_rows.Given as goal

abbrev pub invariant-loop-i : goal.invariant-loop-i
invariant-loop-i l = l.out.items ≡ l.fn.out.items ++ text_of (map row_line (take l.i l.rows))
