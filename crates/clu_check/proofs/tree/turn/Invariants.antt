use Rattle.std.proofs.Common.{◌≡◌, [], vec_len}
use Rattle.clu_state.specs.State.{State}
use Rattle.clu_check.specs.Tree.{waiting, CanGo}
use Rattle.clu_check.proofs.tree.turn.Given as goal

abbrev pub decreases-loop-choice : goal.decreases-loop-choice
decreases-loop-choice l = vec_len l.path

abbrev pub invariant-loop-choice : goal.invariant-loop-choice
invariant-loop-choice l = record {
  waits : (base : State) → waiting base [] l.fn.path.items ≡ waiting base [] l.path.items;
  path : (base : State) → CanGo base l.fn.path.items → CanGo base l.path.items;
}
