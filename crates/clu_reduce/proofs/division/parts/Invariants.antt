use Rattle.std.proofs.Common.{◌≡◌, ◌++◌, drop, slice_index, map}
use Rattle.clu_partition.specs.Groups.{leaders, group_members}
use Rattle.clu_reduce.proofs.PartsBy.{parts_by}
use Rattle.clu_reduce.proofs.division.parts.Given as goal

-- the parts so far, and those of the labels that are still to come
abbrev pub invariant-loop-v : goal.invariant-loop-v
invariant-loop-v g l = l.parts ++ map (group_members (slice_index l.labels.items) (g.S.Situation.state l.state).members) (leaders (slice_index l.labels.items) (drop l.v-index (g.S.Situation.state l.state).members)) ≡ parts_by (slice_index l.labels.items) (g.S.Situation.state l.state).members
