use Rattle.std.proofs.Common.{◌≡◌, take}
use Rattle.clu_state.proofs.build.groups.Given as goal

abbrev pub invariant-loop-v : goal.invariant-loop-v
invariant-loop-v l = l.list.items ≡ take l.v l.start.group
