use Rattle.std.proofs.Common.{◌≡◌, ◌<◌, ◌≤◌, ◌^◌, ℕ, ℤ, unsigned_abs, ◌+◌, ◌*◌, ◌+ℤ◌}
use Rattle.clu_partition.specs.Partition.{below}
use Rattle.clu_partition.specs.Sums.{pair_total}
use Rattle.clu_partition.proofs.PairWalk.{pairs_from, row_from}
use Rattle.clu_partition.proofs.sums.pair_sum.Given as goal

-- what is summed and what is left are the whole
abbrev pub invariant-loop-i : goal.invariant-loop-i
invariant-loop-i g l = record {
  sum : (f : ℕ → ℕ → ℤ) → ((i j : ℕ) (r : ℤ) → i < j → j < l.fn.n → goal.F-post g l.fn.number i j r → r ≡ f i j)
      → l.sum +ℤ pairs_from f l.fn.n l.i ≡ pair_total f (below l.fn.n);
  small : unsigned_abs l.sum ≤ 2 ^ 88 * (1000 * l.i);
}

abbrev pub invariant-loop-j : goal.invariant-loop-j
invariant-loop-j g l = record {
  sum : (f : ℕ → ℕ → ℤ) → ((i j : ℕ) (r : ℤ) → i < j → j < l.fn.n → goal.F-post g l.fn.number i j r → r ≡ f i j)
      → l.sum +ℤ (row_from f l.fn.n l.i l.j +ℤ pairs_from f l.fn.n (l.i + 1)) ≡ pair_total f (below l.fn.n);
  small : unsigned_abs l.sum ≤ 2 ^ 88 * (1000 * l.i + l.j);
}
