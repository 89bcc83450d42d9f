use Rattle.std.proofs.Common.{◌≡◌, ◌≢◌, ℕ, Contains, ◌+ℤ◌}
use Rattle.clu_partition.specs.Pairs.{weight_of}
use Rattle.clu_state.specs.State.{leader}
use Rattle.clu_rows.specs.Prices.{hit}
use Rattle.clu_rows.proofs.Adding.{part}
use Rattle.clu_rows.proofs.prices.add_inside.Given as goal

abbrev pub invariant-loop-i : goal.invariant-loop-i
invariant-loop-i g l = record {
  size : l.scratch.n ≡ l.initial.scratch.n;
  sums : (x z : ℕ) → Contains (g.S.Situation.state l.state).members x → Contains (g.S.Situation.state l.state).members z → x ≢ z → weight_of l.scratch x z ≡ weight_of l.initial.scratch x z +ℤ part (hit (leader (g.S.Situation.state l.state)) x z l.fn.k) l.i l.list;
}
