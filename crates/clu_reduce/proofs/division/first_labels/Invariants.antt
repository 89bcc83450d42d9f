use Rattle.std.proofs.Common.{◌≡◌, ℕ, ◌<◌, length, slice_index}
use Rattle.clu_state.specs.State.{leader}
use Rattle.clu_reduce.proofs.division.first_labels.Given as goal

abbrev pub invariant-loop-v : goal.invariant-loop-v
invariant-loop-v g l = record {
  size : length l.labels.items ≡ length l.initial.labels.items;
  done : (k : ℕ) → k < l.v-index → slice_index l.labels.items (slice_index l.members k) ≡ leader (g.S.Situation.state l.state) (slice_index l.members k);
}
