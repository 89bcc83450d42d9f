use Rattle.std.proofs.Common.{◌≡◌, ℕ, ◌<◌, get_or, false}
use Rattle.clu_reduce.specs.Rows.{IsRowSum}
use Rattle.clu_reduce.specs.Sweep.{IsDue, Swept}
use Rattle.clu_reduce.proofs.sweep.sweep_row.Given as goal

abbrev pub invariant-loop-i : goal.invariant-loop-i
invariant-loop-i g l = record {
  swept : Swept (g.S.Situation.state l.fn.state) l.fn.steps (g.S.Situation.state l.state) l.steps l.made;
  members : (g.S.Situation.state l.state).members ≡ (g.S.Situation.state l.fn.state).members;
  row : IsRowSum (g.S.Situation.state l.state) l.fn.kind l.fn.u l.row;
  none : l.made ≡ false → (k d : ℕ) → k < l.i →
      IsDue (g.S.Situation.state l.fn.state) (record { kind = l.fn.kind; u = l.fn.u; v = get_or (g.S.Situation.state l.fn.state).members k d }) → ⊥;
}
