use Rattle.std.proofs.Common.{ap, arith, length}
use Rattle.std.proofs.lemmas.Int.{ints}
use Rattle.clu_objective.proofs.EditLaws.{prints_edits}
use Rattle.clu_objective.proofs.Poses.{poses, posed}
use Rattle.clu_objective.proofs.edits.pairs_of_graph.Goals as goal

pub invariant_of-result : goal.invariant_of-result
invariant_of-result c =
    let pairs = c.in_ok-pairs.ensures in
    posed _ _ _ pairs.table pairs.size pairs.weights (omega (arith, ints, c.count.ensures.small))

pub returns-clause-poses : goal.returns-clause-poses
returns-clause-poses c =
    let pairs = c.in_ok-pairs.ensures in
    let counted = c.count.ensures in
    poses _ _ _ pairs.table pairs.size pairs.weights (omega (arith, ints, counted.count, counted.small, ap length c.edges-edges.ensures.edges))

pub returns-clause-edits : goal.returns-clause-edits
returns-clause-edits c =
    let edges = c.edges-edges.ensures in
    prints_edits _ _ edges.within edges.once (returns-clause-poses c)
