-- No value passes the total of the absolute weights.
use Rattle.std.proofs.Common.{◌≤◌, ℕ, ℤ, pos, ◌≤ℤ◌, List, [], ◌∷◌, Bool, true, false, arith, unsigned_abs}
use Rattle.std.proofs.lemmas.Int.{ints}
use Rattle.clu_partition.specs.Sums.{total, pair_total, only_if}

pub only_size : (b : Bool) (z : ℤ) → unsigned_abs (only_if b z) ≤ unsigned_abs z
only_size true z = omega arith
only_size false z = omega (arith, ints)

total_size : (b : ℕ → Bool) (f : ℕ → ℤ) (xs : List ℕ) → pos (unsigned_abs (total (λ v. only_if (b v) (f v)) xs)) ≤ℤ total (λ v. pos (unsigned_abs (f v))) xs
total_size b f [] = omega (arith, ints)
total_size b f (x ∷ xs) = let h = total_size b f xs in let k = only_size (b x) (f x) in omega (arith, ints, h, k)

pub value_size : (b : ℕ → ℕ → Bool) (w : ℕ → ℕ → ℤ) (xs : List ℕ) → pos (unsigned_abs (pair_total (λ u v. only_if (b u v) (w u v)) xs)) ≤ℤ pair_total (λ u v. pos (unsigned_abs (w u v))) xs
value_size b w [] = omega (arith, ints)
value_size b w (x ∷ xs) = let h = value_size b w xs in let k = total_size (b x) (w x) xs in omega (arith, ints, h, k)
