use Rattle.std.proofs.Common.{◌≡◌, ◌≢◌, ℕ, Contains, ◌+ℤ◌, take}
use Rattle.clu_partition.specs.Sums.{total}
use Rattle.clu_partition.specs.Pairs.{weight_of}
use Rattle.clu_state.specs.State.{leader}
use Rattle.clu_rows.specs.Prices.{hit}
use Rattle.clu_rows.proofs.prices.add_with.Given as goal

abbrev pub invariant-loop-w : goal.invariant-loop-w
invariant-loop-w g l = record {
  size : l.scratch.n ≡ l.initial.scratch.n;
  sums : (x z : ℕ) → Contains (g.S.Situation.state l.state).members x → Contains (g.S.Situation.state l.state).members z → x ≢ z → weight_of l.scratch x z ≡ weight_of l.initial.scratch x z +ℤ total (hit (leader (g.S.Situation.state l.state)) x z l.fn.k l.fn.v) (take l.w-index l.others);
}
