use Rattle.std.proofs.Common.{◌≡◌, ◌<◌, ℕ, length}
use Rattle.clu_rows.specs.Table.{IsLeftTable, AllStuck, AreAllNear}
use Rattle.clu_rows.proofs.packing.Packing.visit_all.Given as goal

abbrev pub invariant-loop-i : goal.invariant-loop-i
invariant-loop-i g l = record {
  room : l.self.left.n ≡ l.initial.self.left.n;
  packed : IsLeftTable (g.S.Situation.state l.state) l.groups l.self.left l.self.rows;
  near : AreAllNear l.self.left (length l.groups) l.near;
  settled : (x y z : ℕ) → x < l.i → x < y → y < z → z < length l.groups → AllStuck (g.S.Situation.state l.state) l.groups l.self.left x y z;
}
