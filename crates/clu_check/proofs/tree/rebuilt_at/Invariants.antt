use Rattle.std.proofs.Common.{◌≡◌, drop}
use Rattle.clu_check.specs.Tree.{after, CanGo}
use Rattle.clu_state.specs.State.{undecided}
use Rattle.clu_check.proofs.tree.rebuilt_at.Given as goal

abbrev pub invariant-loop-choice : goal.invariant-loop-choice
invariant-loop-choice l = record {
  rest : CanGo l.state (drop l.choice-index l.path);
  whole : after l.state (drop l.choice-index l.path) ≡ after (undecided l.pairs l.start l.part) l.path;
}
