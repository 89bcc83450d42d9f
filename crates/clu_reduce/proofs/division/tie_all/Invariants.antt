use Rattle.std.proofs.Common.{◌≡◌, ℕ, ◌<◌, length, slice_index}
use Rattle.clu_reduce.specs.Components.{Attract, AreLabels, StayTogether}
use Rattle.clu_reduce.proofs.division.tie_all.Given as goal

abbrev pub invariant-loop-j : goal.invariant-loop-j
invariant-loop-j g l = record {
  size : length l.labels.items ≡ length l.initial.labels.items;
  labels : AreLabels (g.S.Situation.state l.state) (slice_index l.labels.items);
  kept : StayTogether (g.S.Situation.state l.state) (slice_index l.initial.labels.items) (slice_index l.labels.items);
  tied : (q : ℕ) → l.i < q → q < l.j → Attract (g.S.Situation.state l.state) (slice_index l.groups l.i) (slice_index l.groups q)
      → slice_index l.labels.items (slice_index l.groups l.i) ≡ slice_index l.labels.items (slice_index l.groups q);
}
