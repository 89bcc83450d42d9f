use Rattle.std.proofs.Common.{◌≡◌, ◌≤◌, ◌<◌, ◌-◌, ◌%◌, length, take}
use Rattle.clu_outside.specs.Folder.{IsStored, CallsLater, stores_of}
use Rattle.clu_outside.proofs.store.store_whole.Given as goal

abbrev pub invariant-loop-done : goal.invariant-loop-done
invariant-loop-done g l = record {
  within : l.done ≤ length l.bytes;
  full : l.done < length l.bytes → l.done % 4096 ≡ 0;
  store_faults : g.F.Folder.store_faults l.folder ≡ g.F.Folder.store_faults l.fn.folder;
  load_faults : g.F.Folder.load_faults l.folder ≡ g.F.Folder.load_faults l.fn.folder;
  stored : IsStored (g.F.Folder.told l.fn.folder) (g.F.Folder.told l.folder) l.name (take l.done l.bytes);
  calls : CallsLater (stores_of l.done) (g.F.Folder.told l.fn.folder) (g.F.Folder.told l.folder);
}

abbrev pub decreases-loop-done : goal.decreases-loop-done
decreases-loop-done g l = length l.bytes - l.done
