use Rattle.std.proofs.Common.{◌++◌, drop}
use Rattle.clu_state.specs.State.{leader}
use Rattle.clu_partition.specs.Groups.{NamesOnce}
use Rattle.clu_rows.proofs.faults.names_differ.Given as goal

abbrev pub invariant-loop-i : goal.invariant-loop-i
invariant-loop-i g l = NamesOnce (leader (g.S.Situation.state l.state)) (drop l.i l.list ++ l.others) → NamesOnce (leader (g.S.Situation.state l.state)) (l.list ++ l.others)
