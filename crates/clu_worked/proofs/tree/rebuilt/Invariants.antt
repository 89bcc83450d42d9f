use Rattle.std.proofs.Common.{◌≡◌, take}
use Rattle.clu_worked.proofs.tree.rebuilt.Given as goal

abbrev pub invariant-loop-d : goal.invariant-loop-d
invariant-loop-d g l = l.state ≡ record { pairs = l.pairs; start = l.start; members = l.members; decisions = take l.d-index l.path }
