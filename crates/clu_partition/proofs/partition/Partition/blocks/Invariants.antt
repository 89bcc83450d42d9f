use Rattle.clu_partition.proofs.Blocks.{Divided}
use Rattle.clu_partition.proofs.partition.Partition.blocks.Given as goal

abbrev pub invariant-loop-v : goal.invariant-loop-v
invariant-loop-v l = Divided l.label-items l.v l.blocks.items
