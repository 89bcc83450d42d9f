use Rattle.clu_partition.proofs.PairMerges.{MergedBelow}
use Rattle.clu_partition.proofs.pair_set.PairSet.merge.Given as goal

abbrev pub invariant-loop-j : goal.invariant-loop-j
invariant-loop-j l = MergedBelow l.initial.self l.self l.low l.high l.j
