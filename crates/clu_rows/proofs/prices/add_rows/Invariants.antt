use Rattle.std.proofs.Common.{◌≡◌, ◌≢◌, ℕ, Contains, take}
use Rattle.clu_partition.specs.Pairs.{weight_of}
use Rattle.clu_state.specs.State.{leader}
use Rattle.clu_rows.specs.Rows.{priced}
use Rattle.clu_rows.proofs.prices.add_rows.Given as goal

abbrev pub invariant-loop-i : goal.invariant-loop-i
invariant-loop-i g l = record {
  size : l.scratch.n ≡ l.initial.scratch.n;
  sums : (x z : ℕ) → Contains (g.S.Situation.state l.state).members x → Contains (g.S.Situation.state l.state).members z → x ≢ z → weight_of l.scratch x z ≡ priced (leader (g.S.Situation.state l.state)) (take l.i l.rows) x z;
}
