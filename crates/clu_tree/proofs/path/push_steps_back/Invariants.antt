use Rattle.std.proofs.Common.{◌≡◌, ◌++◌, map, reverse, take}
use Rattle.clu_reduce.specs.Reduction.{decision_of}
use Rattle.clu_tree.proofs.path.push_steps_back.Given as goal

abbrev pub invariant-loop-i : goal.invariant-loop-i
invariant-loop-i l = l.path.items ++ reverse (map decision_of (take l.i l.steps)) ≡ l.initial.path.items ++ reverse (map decision_of l.steps)
