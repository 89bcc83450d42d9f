use Rattle.std.proofs.Common.{◌≡◌, ◌+◌, ◌^◌, All, take}
use Rattle.clu_rows.specs.Faults.{IsRow, rows_mass}
use Rattle.clu_rows.proofs.faults.first_fault.Given as goal

abbrev pub invariant-loop-i : goal.invariant-loop-i
invariant-loop-i g l = record {
  fits : All (IsRow (g.S.Situation.state l.state)) (take l.i l.rows);
  rest : l.room + rows_mass (take l.i l.rows) ≡ 2 ^ 120;
}
