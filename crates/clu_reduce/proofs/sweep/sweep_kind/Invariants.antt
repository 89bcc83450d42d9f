use Rattle.std.proofs.Common.{◌≡◌, ℕ, ◌<◌, get_or, false, Contains}
use Rattle.clu_reduce.specs.Sweep.{IsDue, Swept}
use Rattle.clu_reduce.proofs.sweep.sweep_kind.Given as goal

abbrev pub invariant-loop-i : goal.invariant-loop-i
invariant-loop-i g l = record {
  swept : Swept (g.S.Situation.state l.fn.state) l.fn.steps (g.S.Situation.state l.state) l.steps l.made;
  members : (g.S.Situation.state l.state).members ≡ (g.S.Situation.state l.fn.state).members;
  none : l.made ≡ false → (k d : ℕ) → k < l.i → (v : ℕ) → Contains (g.S.Situation.state l.fn.state).members v →
      IsDue (g.S.Situation.state l.fn.state) (record { kind = l.fn.kind; u = get_or (g.S.Situation.state l.fn.state).members k d; v = v }) → ⊥;
}
