use Rattle.std.proofs.Common.{All, Contains, take}
use Rattle.clu_rows.proofs.faults.are_members.Given as goal

abbrev pub invariant-loop-v : goal.invariant-loop-v
invariant-loop-v g l = All (Contains (g.S.Situation.state l.state).members) (take l.v-index l.list)
