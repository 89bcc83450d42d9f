use Rattle.std.proofs.Common.{◌≡◌, take}
use Rattle.clu_search.proofs.incumbent.groups_of_rules.Given as goal

abbrev pub invariant-loop-v : goal.invariant-loop-v
invariant-loop-v l = l.labels.items ≡ take l.v l.start.group
