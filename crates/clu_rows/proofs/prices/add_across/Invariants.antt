use Rattle.std.proofs.Common.{◌≡◌, ◌≢◌, ℕ, Contains, ◌+ℤ◌, take}
use Rattle.clu_partition.specs.Sums.{cross_total}
use Rattle.clu_partition.specs.Pairs.{weight_of}
use Rattle.clu_state.specs.State.{leader}
use Rattle.clu_rows.specs.Prices.{hit}
use Rattle.clu_rows.proofs.prices.add_across.Given as goal

abbrev pub invariant-loop-v : goal.invariant-loop-v
invariant-loop-v g l = record {
  size : l.scratch.n ≡ l.initial.scratch.n;
  sums : (x z : ℕ) → Contains (g.S.Situation.state l.state).members x → Contains (g.S.Situation.state l.state).members z → x ≢ z → weight_of l.scratch x z ≡ weight_of l.initial.scratch x z +ℤ cross_total (hit (leader (g.S.Situation.state l.state)) x z l.fn.k) (take l.v-index l.first) l.fn.second;
}
