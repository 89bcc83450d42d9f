use Rattle.std.proofs.Common.{◌≡◌, ◌<◌, ℕ, length}
use Rattle.clu_rows.specs.Table.{IsLeftTable, NearerZero, AllStuck, AreAllNear}
use Rattle.clu_rows.proofs.packing.Packing.visit_first.Given as goal

abbrev pub invariant-loop-j : goal.invariant-loop-j
invariant-loop-j g l = record {
  room : l.self.left.n ≡ l.initial.self.left.n;
  packed : IsLeftTable (g.S.Situation.state l.state) l.groups l.self.left l.self.rows;
  nearer : NearerZero l.initial.self.left l.self.left;
  near : AreAllNear l.self.left (length l.groups) l.near;
  settled : (y z : ℕ) → l.i < y → y < l.j → y < z → z < length l.groups → AllStuck (g.S.Situation.state l.state) l.groups l.self.left l.i y z;
}
