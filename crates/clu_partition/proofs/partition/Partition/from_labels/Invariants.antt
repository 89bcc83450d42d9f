use Rattle.clu_partition.proofs.Numbering.{Numbering}
use Rattle.clu_partition.proofs.partition.Partition.from_labels.Given as goal

abbrev pub invariant-loop-label : goal.invariant-loop-label
invariant-loop-label l = Numbering l.labels l.label-index l.firsts.items l.numbered.items
