use Rattle.std.proofs.Common.{◌≡◌, None, drop}
use Rattle.clu_state.specs.State.{free_of}
use Rattle.clu_node.specs.Heavier.{IsSized, heaviest_of}
use Rattle.clu_node.proofs.pair.heaviest.Given as goal

abbrev pub invariant-loop-i : goal.invariant-loop-i
invariant-loop-i g l = record {
  sized : IsSized (g.S.Situation.state l.state) l.candidate.pair l.candidate.size;
  found : heaviest_of (g.S.Situation.state l.state) l.candidate.pair (free_of (g.S.Situation.state l.state) (drop l.i l.groups)) ≡ heaviest_of (g.S.Situation.state l.state) None (free_of (g.S.Situation.state l.state) l.groups);
}
