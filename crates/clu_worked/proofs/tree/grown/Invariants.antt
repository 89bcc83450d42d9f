use Rattle.clu_worked.specs.Roots.{GrowsFrom}
use Rattle.clu_worked.proofs.tree.grown.Given as goal

abbrev pub invariant-loop : goal.invariant-loop
invariant-loop g l = GrowsFrom l.pairs l.start l.members l.tree
