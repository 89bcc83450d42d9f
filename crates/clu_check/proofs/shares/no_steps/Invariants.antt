use Rattle.std.proofs.Common.{◌≡◌, []}
use Rattle.std.specs.Prelude.{replicate}
use Rattle.clu_check.proofs.shares.no_steps.Given as goal

abbrev pub invariant-loop : goal.invariant-loop
invariant-loop l = l.shares.items ≡ replicate l.counter []
