use Rattle.std.proofs.Common.{◌≡◌, ◌++◌, drop}
use Rattle.clu_state.specs.State.{free_with}
use Rattle.clu_state.proofs.situation.push_free.Given as goal

abbrev pub invariant-loop-b : goal.invariant-loop-b
invariant-loop-b g l = l.pairs.items ++ free_with (g.S.Situation.state l.state) l.a (drop l.b-index l.later) ≡ l.initial.pairs.items ++ free_with (g.S.Situation.state l.state) l.a l.later
