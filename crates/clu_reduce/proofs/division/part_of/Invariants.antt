use Rattle.std.proofs.Common.{◌≡◌, ◌++◌, ◌==◌, drop, filter, slice_index}
use Rattle.clu_reduce.proofs.division.part_of.Given as goal

abbrev pub invariant-loop-v : goal.invariant-loop-v
invariant-loop-v l = l.part ++ filter (λ v. slice_index l.labels v == l.label) (drop l.v-index l.members) ≡ filter (λ v. slice_index l.labels v == l.label) l.members
