use Rattle.std.proofs.Common.{◌≡◌, ◌++◌, take, drop}
use Rattle.clu_state.specs.State.{CanDecideAll}
use Rattle.clu_search.proofs.states.follow.Given as goal

abbrev pub invariant-loop-decision : goal.invariant-loop-decision
invariant-loop-decision l =
    (l.state ≡ record l.initial.state { decisions = l.initial.state.decisions ++ take l.decision-index l.path }) × CanDecideAll l.state (drop l.decision-index l.path)
