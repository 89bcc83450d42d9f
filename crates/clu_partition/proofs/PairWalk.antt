-- A sum over pairs as a walk over them.
use mir.Syntax.{w128}
use Rattle.std.proofs.Common.{FitsSigned, ◌^◌, unsigned_abs, ◌*◌, ◌≡◌, ℕ, ◌+◌, ◌-◌, ◌<◌, ◌≤◌, ℤ, pos, ◌+ℤ◌, ap, arith}
use Rattle.std.specs.List.{range_with_len}
use Rattle.std.proofs.lemmas.Int.{ints}
use Rattle.clu_partition.specs.Partition.{below}
use Rattle.clu_partition.specs.Sums.{total, pair_total}
use Rattle.clu_partition.proofs.Ranges.{range_first}

-- the pairs of which both are i or later
unfoldable pub pairs_from : (ℕ → ℕ → ℤ) → ℕ → ℕ → ℤ
pairs_from f n i = pair_total f (range_with_len i (n - i))

-- the pairs of i with j and those after it
unfoldable pub row_from : (ℕ → ℕ → ℤ) → ℕ → ℕ → ℕ → ℤ
row_from f n i j = total (f i) (range_with_len j (n - j))

pub pairs_all : (f : ℕ → ℕ → ℤ) (n : ℕ) → pairs_from f n 0 ≡ pair_total f (below n)
unfolding pairs_from
pairs_all f n = let all : n - 0 ≡ n = omega arith in ap (λ (k : ℕ). pair_total f (range_with_len 0 k)) all

pub next_row : (f : ℕ → ℕ → ℤ) (n i : ℕ) → i < n → pairs_from f n i ≡ row_from f n i (i + 1) +ℤ pairs_from f n (i + 1)
unfolding pairs_from row_from
next_row f n i at = ap (pair_total f) (range_first n i at)

pub next_pair : (f : ℕ → ℕ → ℤ) (n i j : ℕ) → j < n → row_from f n i j ≡ f i j +ℤ row_from f n i (j + 1)
unfolding row_from
next_pair f n i j at = ap (total (f i)) (range_first n j at)

pub row_end : (f : ℕ → ℕ → ℤ) (n i j : ℕ) → n ≤ j → row_from f n i j ≡ pos 0
unfolding row_from
row_end f n i j all = let none : n - j ≡ 0 = omega arith in ap (λ (k : ℕ). total (f i) (range_with_len j k)) none

pub pairs_end : (f : ℕ → ℕ → ℤ) (n i : ℕ) → n ≤ i → pairs_from f n i ≡ pos 0
unfolding pairs_from
pairs_end f n i all = let none : n - i ≡ 0 = omega arith in ap (λ (k : ℕ). pair_total f (range_with_len i k)) none

-- ---- the steps of a walk: the sum so far and what is left are t
pub enter_row : (f : ℕ → ℕ → ℤ) (n i : ℕ) (sum t : ℤ) → i < n → sum +ℤ pairs_from f n i ≡ t → sum +ℤ (row_from f n i (i + 1) +ℤ pairs_from f n (i + 1)) ≡ t
enter_row f n i sum t at is = let h = next_row f n i at in omega (arith, ints, h, is)

pub pass_pair : (f : ℕ → ℕ → ℤ) (n i j : ℕ) (sum x rest t : ℤ) → j < n → x ≡ f i j → sum +ℤ (row_from f n i j +ℤ rest) ≡ t → (sum +ℤ x) +ℤ (row_from f n i (j + 1) +ℤ rest) ≡ t
pass_pair f n i j sum x rest t at e is = let h = next_pair f n i j at in omega (arith, ints, h, e, is)

pub leave_row : (f : ℕ → ℕ → ℤ) (n i j : ℕ) (sum rest t : ℤ) → n ≤ j → sum +ℤ (row_from f n i j +ℤ rest) ≡ t → sum +ℤ rest ≡ t
leave_row f n i j sum rest t all is = let h = row_end f n i j all in omega (arith, ints, h, is)

pub finish_walk : (f : ℕ → ℕ → ℤ) (n i : ℕ) (sum t : ℤ) → n ≤ i → sum +ℤ pairs_from f n i ≡ t → sum ≡ t
finish_walk f n i sum t all is = let h = pairs_end f n i all in omega (arith, ints, h, is)

-- one number more, each of at most m in size
pub size_more : (sum x : ℤ) (m k : ℕ) → unsigned_abs sum ≤ m * k → unsigned_abs x ≤ m → unsigned_abs (sum +ℤ x) ≤ m * (k + 1)
size_more sum x m k h l = omega (arith, ints, h, l)

-- a sum of at most 2,000,000 such numbers is within 128 bits
pub fits_small : (z : ℤ) (k : ℕ) → unsigned_abs z ≤ 2 ^ 88 * k → k ≤ 2000000 → FitsSigned w128 z
fits_small z k h l = omega (arith, ints, h, l)
