use Rattle.std.proofs.Common.{◌≡◌, ◌++◌, reverse, length}
use Rattle.clu_tree.specs.Nodes.{HasKey, state_at}
use Rattle.clu_tree.proofs.tree.Tree.path.Given as goal

-- what is told, and then the way up from here
abbrev pub invariant-loop-path : goal.invariant-loop-path
invariant-loop-path l = record {
  key : HasKey l.at l.self.nodes;
  whole : (state_at l.self l.key).decisions ≡ (state_at l.self l.at).decisions ++ reverse l.path.items;
}

abbrev pub decreases-loop-path : goal.decreases-loop-path
decreases-loop-path l = length (state_at l.self l.at).decisions
