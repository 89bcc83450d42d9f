use Rattle.std.proofs.Common.{◌≡◌, drop}
use Rattle.clu_state.specs.State.{free_with}
use Rattle.clu_node.specs.Heavier.{IsSized, heaviest_of}
use Rattle.clu_node.proofs.pair.Candidate.visit_with.Given as goal

abbrev pub invariant-loop-b : goal.invariant-loop-b
invariant-loop-b g l = record {
  sized : IsSized (g.S.Situation.state l.state) l.self.pair l.self.size;
  found : heaviest_of (g.S.Situation.state l.state) l.self.pair (free_with (g.S.Situation.state l.state) l.a (drop l.b-index l.later)) ≡ heaviest_of (g.S.Situation.state l.state) l.initial.self.pair (free_with (g.S.Situation.state l.state) l.a l.later);
}
