use Rattle.std.proofs.Common.{◌≡◌, ◌≤◌, ◌<◌, ◌^◌, ◌-◌, length}
use Rattle.clu_outside.proofs.real_folder.RealFolderFolder.load.Given as goal

abbrev pub invariant-loop : goal.invariant-loop
invariant-loop g l = record {
  loads : l.self.loads ≡ l.initial.self.loads;
  stores : l.self.stores ≡ l.initial.self.stores;
  short : l.limit < 2 ^ 64 - 1 → length l.bytes.items ≤ l.limit;
}
