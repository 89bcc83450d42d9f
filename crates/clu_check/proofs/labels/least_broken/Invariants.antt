use Rattle.std.proofs.Common.{ℕ, ◌<◌, length}
use Rattle.clu_check.specs.Labels.{ObeyWith}
use Rattle.clu_check.proofs.labels.least_broken.Given as goal

abbrev pub invariant-loop-u : goal.invariant-loop-u
invariant-loop-u l = (x : ℕ) → x < l.u → ObeyWith l.start l.labels x (length l.labels)
