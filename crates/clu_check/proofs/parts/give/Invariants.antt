use Rattle.std.proofs.Common.{take}
use Rattle.clu_check.specs.Parts.{TakesNumber}
use Rattle.clu_check.proofs.parts.give.Given as goal

abbrev pub invariant-loop-v : goal.invariant-loop-v
invariant-loop-v l = TakesNumber (take l.v-index l.part) l.fn.number l.fn.owner l.owner
