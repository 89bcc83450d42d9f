use Rattle.std.proofs.Common.{arith}
use Rattle.clu_partition.proofs.PairMerges.{merged_next}
use Rattle.clu_partition.proofs.pair_set.PairSet.merge.Goals as goal

pub loop-j-preserved : goal.loop-j-preserved
loop-j-preserved c =
    let test = c.loop-j-test.true in
    let size = c.n-j-end.ensures.value in
    merged_next c.args.self.now c.loop-j.self c.copy.new.self c.args.low c.args.high c.loop-j.j c.requires.low c.requires.high (omega (arith, test, size)) c.requires.differ c.copy.ensures c.loop-j.invariant
