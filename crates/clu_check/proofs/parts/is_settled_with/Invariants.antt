use Rattle.std.proofs.Common.{◌≡◌, ◌⊎◌, ℕ, ◌<◌, get_or, slice_index}
use Rattle.clu_check.specs.Parts.{GainNothing}
use Rattle.clu_check.proofs.parts.is_settled_with.Given as goal

abbrev pub invariant-loop-v : goal.invariant-loop-v
invariant-loop-v l = (k d : ℕ) → k < l.v-index → (slice_index l.owner (get_or l.state.members k d) ≡ l.fn.number) ⊎ GainNothing l.state l.fn.u
    (get_or l.state.members k d)
