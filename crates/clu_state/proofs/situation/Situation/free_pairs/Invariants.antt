use Rattle.std.proofs.Common.{◌≡◌, ◌++◌, drop}
use Rattle.clu_state.specs.State.{free_of}
use Rattle.clu_state.proofs.situation.Situation.free_pairs.Given as goal

abbrev pub invariant-loop-i : goal.invariant-loop-i
invariant-loop-i g l = l.pairs.items ++ free_of (g.Self.Situation.state l.self) (drop l.i l.groups) ≡ free_of (g.Self.Situation.state l.self) l.groups
