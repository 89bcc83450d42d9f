use Rattle.std.proofs.Common.{◌≡◌, filter, take, ◌==◌}
use Rattle.clu_state.specs.State.{leader}
use Rattle.clu_state.proofs.situation.Situation.leaders.Given as goal

abbrev pub invariant-loop-v : goal.invariant-loop-v
invariant-loop-v g l =
    (l.v-items ≡ (g.Self.Situation.state l.self).members) × (l.found ≡ filter (λ u. leader (g.Self.Situation.state l.self) u == u) (take l.v-index l.v-items))
