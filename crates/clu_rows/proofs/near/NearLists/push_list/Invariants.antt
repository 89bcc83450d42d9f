use Rattle.std.proofs.Common.{◌≡◌}
use Rattle.clu_rows.proofs.NearLaws.{Appended}
use Rattle.clu_rows.proofs.near.NearLists.push_list.Given as goal

abbrev pub invariant-loop-z : goal.invariant-loop-z
invariant-loop-z l = record {
  more : Appended l.left l.z l.i l.initial.self.places.items l.self.places.items;
  bounds : l.self.bounds.items ≡ l.initial.self.bounds.items;
}
