use Rattle.std.proofs.Common.{take}
use Rattle.clu_check.proofs.Parting.{parts}
use Rattle.clu_check.proofs.Sharing.{AreShares}
use Rattle.clu_check.proofs.shares.steps_by_part.Given as goal

abbrev pub invariant-loop-step : goal.invariant-loop-step
invariant-loop-step l = AreShares (parts l.proofs) (take l.step-index l.steps) l.shares.items
