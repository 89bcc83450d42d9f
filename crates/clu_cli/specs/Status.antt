-- The exit statuses, and the lines on err.
use Rattle.std.specs.Prelude.{◌≡◌, ℕ, Bool, ◌||◌, ◌&&◌, List, ◌++◌, Option, Result, Ok, Err, codes, if◌then◌else◌, nat_le}
use Rattle.std.specs.Fmt.{decimal, signed_decimal}
use Rattle.clu_outside.specs.Sink.{TakesSome}
use Rattle.clu_pace.specs.declared.error.PaceError.{PaceError}
use Rattle.clu_pace.specs.declared.error.PaceError.TheVariants as pace
use Rattle.clu_network.specs.declared.error.NetError.{NetError}
use Rattle.clu_network.specs.declared.error.NetError.TheVariants as net
use Rattle.clu_objective.specs.declared.error.ObjError.{ObjError}
use Rattle.clu_objective.specs.declared.error.ObjError.TheVariants as obj
use Rattle.clu_rules.specs.declared.error.RuleError.{RuleError}
use Rattle.clu_rules.specs.declared.error.RuleError.TheVariants as rule
use Rattle.clu_check.specs.declared.reject.Reject.{Reject}
use Rattle.clu_check.specs.declared.reject.Reject.TheVariants as reject
use Rattle.clu_cli.specs.Lines.{line}
use Rattle.clu_cli.specs.declared.refusal.Refusal.{Refusal}
use Rattle.clu_cli.specs.declared.refusal.Refusal.TheVariants.{Graph, Network, Objective, Rules}
use Rattle.clu_cli.specs.declared.stop.NamedPair.{NamedPair}
use Rattle.clu_cli.specs.declared.stop.Stop.{Stop}
use Rattle.clu_cli.specs.declared.stop.Stop.TheVariants.{BadText, Broken, Contradiction, Rejected, Refused, Words, ReadFault, WriteFault, Memory, TooLong, NoFile}

-- ---- statuses
-- the exit status of each stop
abbrev pub stop_status : Stop → ℕ
stop_status (BadText line) = 3
stop_status (Rejected reject) = 3
stop_status (Broken pair) = 3
stop_status (Refused refusal) = 4
stop_status (Contradiction pair) = 5
stop_status Words = 6
stop_status ReadFault = 7
stop_status WriteFault = 8
stop_status Memory = 9
stop_status TooLong = 10
stop_status NoFile = 11

-- how the work ended: whether the answer is optimal, or why there is none
abbrev pub end_status : Result Bool Stop → ℕ
end_status (Ok optimal) = if optimal then 0 else 1
end_status (Err stop) = stop_status stop

-- the statuses of a run
abbrev pub is_status : ℕ → Bool
is_status n = nat_le n 1 || (nat_le 3 n && nat_le n 11)

-- ---- lines
-- words and a number
abbrev pub counted_line : List ℕ → ℕ → List ℕ
counted_line words number = line (words ++ decimal number)

-- why the graph of a file is refused, by the name of the cause and the number of the line
abbrev pub pace_line : PaceError → List ℕ
pace_line pace.NoHeader = line (codes "clu: graph NoHeader")
pace_line (pace.BadHeader at) = counted_line (codes "clu: graph BadHeader line ") at
pace_line (pace.BadLine at) = counted_line (codes "clu: graph BadLine line ") at
pace_line (pace.VertexOut at) = counted_line (codes "clu: graph VertexOut line ") at
pace_line (pace.Loop at) = counted_line (codes "clu: graph Loop line ") at
pace_line (pace.Repeated at) = counted_line (codes "clu: graph Repeated line ") at
pace_line (pace.EdgeCount stated found) = line (codes "clu: graph EdgeCount " ++ decimal stated ++ codes " " ++ decimal found)
pace_line (pace.TooManyVertices at) = counted_line (codes "clu: graph TooManyVertices line ") at
pace_line pace.Memory = line (codes "clu: memory")

-- the same of an edge list
abbrev pub network_line : NetError → List ℕ
network_line (net.TooManyFields at) = counted_line (codes "clu: graph TooManyFields line ") at
network_line (net.BadWeight at) = counted_line (codes "clu: graph BadWeight line ") at
network_line (net.TooManyVertices at) = counted_line (codes "clu: graph TooManyVertices line ") at
network_line net.TooManyLines = line (codes "clu: graph TooManyLines")
network_line (net.NotText at) = counted_line (codes "clu: graph NotText line ") at
network_line net.Memory = line (codes "clu: memory")

-- the same of what bars an objective
abbrev pub barred_line : ObjError → List ℕ
barred_line (obj.NegativeWeight at) = counted_line (codes "clu: graph NegativeWeight line ") at
barred_line obj.NoWeight = line (codes "clu: graph NoWeight")
barred_line (obj.TotalWeight sum) = counted_line (codes "clu: graph TotalWeight ") sum
barred_line obj.Memory = line (codes "clu: memory")

-- the same of a rules file
abbrev pub rules_line : RuleError → List ℕ
rules_line (rule.BadRule at) = counted_line (codes "clu: rules BadRule line ") at
rules_line (rule.UnknownVertex at) = counted_line (codes "clu: rules UnknownVertex line ") at
rules_line (rule.AttributeTwice at) = counted_line (codes "clu: rules AttributeTwice line ") at
rules_line rule.Memory = line (codes "clu: memory")

abbrev pub refusal_line : Refusal → List ℕ
refusal_line (Graph error) = pace_line error
refusal_line (Network error) = network_line error
refusal_line (Objective error) = barred_line error
refusal_line (Rules error) = rules_line error

-- words and the names of two vertices
abbrev pub named_line : List ℕ → NamedPair → List ℕ
named_line words pair = line (words ++ pair.first.items ++ codes " " ++ pair.second.items)

-- the number of the condition that fails, and its place; that of a broken rule is told with names
abbrev pub reject_line : Reject → List ℕ
reject_line reject.Shape = line (codes "clu: rejected 1")
reject_line reject.Blocks = line (codes "clu: rejected 2")
reject_line (reject.Rule u v) = line (codes "clu: rejected 3")
reject_line (reject.Value found) = line (codes "clu: rejected 4 " ++ signed_decimal found)
reject_line (reject.Step item) = counted_line (codes "clu: rejected 5 item ") item
reject_line (reject.Parts part) = counted_line (codes "clu: rejected 6 part ") part
reject_line (reject.Leaf item) = counted_line (codes "clu: rejected 7 item ") item
reject_line (reject.Unfinished part) = counted_line (codes "clu: rejected 8 part ") part
reject_line (reject.Bound found) = line (codes "clu: rejected 9 " ++ signed_decimal found)
reject_line reject.Memory = line (codes "clu: memory")

-- the line that is written to err
unfoldable pub stop_line : Stop → List ℕ
stop_line (BadText at) = counted_line (codes "clu: certificate line ") at
stop_line (Rejected reject) = reject_line reject
stop_line (Broken pair) = named_line (codes "clu: rejected 3 ") pair
stop_line (Refused refusal) = refusal_line refusal
stop_line (Contradiction pair) = named_line (codes "clu: contradiction ") pair
stop_line Words = line (codes "clu: words")
stop_line ReadFault = line (codes "clu: read fault")
stop_line WriteFault = line (codes "clu: write fault")
stop_line Memory = line (codes "clu: memory")
stop_line TooLong = line (codes "clu: too long")
stop_line NoFile = line (codes "clu: no file")

-- err has taken a prefix of the line of this status, perhaps none of it
pub record WritesLine (old new : Option (List ℕ)) (status : ℕ) : Type 0 where
  pub stop : Stop
  pub status_is : status ≡ stop_status stop
  pub taken : TakesSome old new (stop_line stop)
