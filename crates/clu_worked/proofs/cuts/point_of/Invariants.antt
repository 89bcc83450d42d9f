use Rattle.std.proofs.Common.{◌≡◌, ◌≤ℤ◌, pos, length, All}
use Rattle.clu_worked.proofs.cuts.point_of.Given as goal

abbrev pub invariant-loop-pair : goal.invariant-loop-pair
invariant-loop-pair g l = record {
  each : length l.x ≡ l.pair-index;
  range : All (λ x. (pos 0 ≤ℤ x) × (x ≤ℤ pos l.den)) l.x;
}
