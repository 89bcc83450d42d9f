use Rattle.std.proofs.Common.{ℕ, ◌<◌, get_or}
use Rattle.clu_check.specs.Parts.{GainNothingWith}
use Rattle.clu_check.proofs.parts.is_settled_part.Given as goal

abbrev pub invariant-loop-u : goal.invariant-loop-u
invariant-loop-u l = (k d : ℕ) → k < l.u-index → GainNothingWith l.state l.owner l.fn.number (get_or l.part k d)
