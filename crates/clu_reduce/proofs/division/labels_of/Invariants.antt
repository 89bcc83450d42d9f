use Rattle.std.proofs.Common.{◌≡◌, ℕ, ◌<◌, length, slice_index, All}
use Rattle.clu_state.specs.State.{group_leaders}
use Rattle.clu_reduce.specs.Components.{Attract, AreLabels}
use Rattle.clu_reduce.proofs.division.labels_of.Given as goal

abbrev pub invariant-loop-i : goal.invariant-loop-i
invariant-loop-i g l = record {
  size : All (λ v. v < length l.labels.items) (g.S.Situation.state l.state).members;
  labels : AreLabels (g.S.Situation.state l.state) (slice_index l.labels.items);
  tied : (p q : ℕ) → p < l.i → p < q → q < length (group_leaders (g.S.Situation.state l.state)) → Attract (g.S.Situation.state l.state) (slice_index (group_leaders (g.S.Situation.state l.state)) p) (slice_index (group_leaders (g.S.Situation.state l.state)) q)
      → slice_index l.labels.items (slice_index (group_leaders (g.S.Situation.state l.state)) p) ≡ slice_index l.labels.items (slice_index (group_leaders (g.S.Situation.state l.state)) q);
}
