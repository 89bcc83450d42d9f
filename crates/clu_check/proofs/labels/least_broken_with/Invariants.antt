use Rattle.clu_check.specs.Labels.{ObeyWith}
use Rattle.clu_check.proofs.labels.least_broken_with.Given as goal

abbrev pub invariant-loop-v : goal.invariant-loop-v
invariant-loop-v l = ObeyWith l.start l.labels l.fn.u l.v
