use Rattle.std.proofs.Common.{◌≢◌, All, take}
use Rattle.clu_state.specs.State.{leader}
use Rattle.clu_rows.proofs.faults.names_alone.Given as goal

abbrev pub invariant-loop-w : goal.invariant-loop-w
invariant-loop-w g l = All (λ w. leader (g.S.Situation.state l.state) l.fn.v ≢ leader (g.S.Situation.state l.state) w) (take l.w-index l.others)
