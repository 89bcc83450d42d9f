use Rattle.std.proofs.Common.{◌≡◌}
use Rattle.clu_check.proofs.Summing.{IsSummed}
use Rattle.clu_check.proofs.bounds.sum_of_uppers.Given as goal

abbrev pub invariant-loop-i : goal.invariant-loop-i
invariant-loop-i l = record {
  room : l.scratch.n ≡ l.fn.problem.pairs.n;
  summed : IsSummed l.fn.problem l.fn.start l.fn.c l.i l.sum l.earlier;
}
