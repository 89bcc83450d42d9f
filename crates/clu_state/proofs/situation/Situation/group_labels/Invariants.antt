use Rattle.std.proofs.Common.{◌≡◌, map, take}
use Rattle.clu_state.specs.State.{leader}
use Rattle.clu_state.proofs.situation.Situation.group_labels.Given as goal

abbrev pub invariant-loop-v : goal.invariant-loop-v
invariant-loop-v g l =
    (l.members ≡ (g.Self.Situation.state l.self).members) × (l.labels.items ≡ map (leader (g.Self.Situation.state l.self)) (take l.v-index l.members))
