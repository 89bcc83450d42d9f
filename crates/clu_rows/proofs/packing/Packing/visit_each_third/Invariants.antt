use Rattle.std.proofs.Common.{◌≡◌, ◌<◌, ℕ}
use Rattle.clu_rows.specs.Table.{IsLeftTable, NearerZero, AllStuck, Allied}
use Rattle.clu_rows.proofs.packing.Packing.visit_each_third.Given as goal

abbrev pub invariant-loop-k : goal.invariant-loop-k
invariant-loop-k g l = record {
  room : l.self.left.n ≡ l.initial.self.left.n;
  packed : IsLeftTable (g.S.Situation.state l.state) l.groups l.self.left l.self.rows;
  nearer : NearerZero l.initial.self.left l.self.left;
  allied : Allied (g.S.Situation.state l.state) l.groups l.self.left l.i l.j;
  settled : (z : ℕ) → l.j < z → z < l.k → AllStuck (g.S.Situation.state l.state) l.groups l.self.left l.i l.j z;
}
