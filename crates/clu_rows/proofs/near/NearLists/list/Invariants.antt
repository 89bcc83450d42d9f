use Rattle.clu_rows.specs.Table.{AreNearBelow}
use Rattle.clu_rows.proofs.near.NearLists.list.Given as goal

abbrev pub invariant-loop-i : goal.invariant-loop-i
invariant-loop-i l = AreNearBelow l.left l.count l.i l.self
