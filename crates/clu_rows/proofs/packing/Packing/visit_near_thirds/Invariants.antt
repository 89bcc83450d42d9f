use Rattle.std.proofs.Common.{◌≡◌, ◌<◌, ℕ, get_or, pos, ◌≤ℤ◌}
use Rattle.clu_partition.specs.Pairs.{weight_of}
use Rattle.clu_rows.specs.Table.{IsLeftTable, NearerZero, AllStuck}
use Rattle.clu_rows.proofs.packing.Packing.visit_near_thirds.Given as goal

abbrev pub invariant-loop-k : goal.invariant-loop-k
invariant-loop-k g l = record {
  room : l.self.left.n ≡ l.initial.self.left.n;
  packed : IsLeftTable (g.S.Situation.state l.state) l.groups l.self.left l.self.rows;
  nearer : NearerZero l.initial.self.left l.self.left;
  idle : weight_of l.self.left l.i l.j ≤ℤ pos 0;
  settled : (m : ℕ) → m < l.k-index → AllStuck (g.S.Situation.state l.state) l.groups l.self.left l.i l.j (get_or l.thirds m 0);
}
