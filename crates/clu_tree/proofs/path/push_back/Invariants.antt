use Rattle.std.proofs.Common.{◌≡◌, ◌++◌, reverse, take}
use Rattle.clu_tree.proofs.path.push_back.Given as goal

abbrev pub invariant-loop-i : goal.invariant-loop-i
invariant-loop-i l = l.path.items ++ reverse (take l.i l.decisions) ≡ l.initial.path.items ++ reverse l.decisions
