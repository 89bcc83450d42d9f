-- How many groups a list of vertices names.
use Rattle.std.proofs.Common.{◌≡◌, ⊎_elim, ℕ, ℤ, pos, ◌+ℤ◌, ◌≤ℤ◌, ◌<◌, List, [], ◌∷◌, length, filter, cond, Bool, true, false, ◌||◌, ◌==◌, refl, ap, arith}
use Rattle.std.proofs.lemmas.Int.{ints}
use Rattle.std.proofs.lemmas.Bool.{eq-eqb, ne_eqb, cases_eq}
use Rattle.clu_partition.specs.Sums.{total, only_if}
use Rattle.clu_partition.proofs.SumLaws.{Each, Rising, total_le, total_add, total_zero, pick_none}
use Rattle.clu_partition.proofs.ListLaws.{every}
use Rattle.clu_rows.specs.Rows.{names_group}

at_most_one : (c : ℕ) (xs : List ℕ) → Rising xs → total (λ a. only_if (c == a) (pos 1)) xs ≤ℤ pos 1
at_most_one c [] r = omega (arith, ints)
at_most_one c (x ∷ xs) r = ⊎_elim
    (λ e.
    let above : Each (λ y. c < y) xs = rw e r.0 in
    let k : total (λ a. only_if (c == a) (pos 1)) xs ≡ pos 0 = pick_none c (λ _. pos 1) xs above in
    let l : only_if (c == x) (pos 1) ≡ pos 1 = ap (λ b. only_if b (pos 1)) (eq-eqb c x e) in
    at_most_head c x xs (omega (arith, ints, k, l)))
    (λ n.
    let l : only_if (c == x) (pos 1) ≡ pos 0 = ap (λ b. only_if b (pos 1)) (ne_eqb c x n) in
    let h = at_most_one c xs r.1 in
    at_most_head c x xs (omega (arith, ints, h, l)))
    (cases_eq c x)
  where
    at_most_head : (c x : ℕ) (xs : List ℕ) → (only_if (c == x) (pos 1) +ℤ total (λ a. only_if (c == a) (pos 1)) xs) ≤ℤ pos 1 → total (λ a. only_if (c == a) (pos 1)) (x ∷ xs) ≤ℤ pos 1
    at_most_head c x xs h = h

-- as many as one or the other counts at most
pub or_count : (p q : Bool) → only_if (p || q) (pos 1) ≤ℤ (only_if p (pos 1) +ℤ only_if q (pos 1))
or_count true true = omega (arith, ints)
or_count true false = omega (arith, ints)
or_count false true = omega (arith, ints)
or_count false false = omega (arith, ints)

-- a list names no more groups than it has elements
pub names_count : (group : ℕ → ℕ) (vs xs : List ℕ) → Rising xs → total (λ a. only_if (names_group group vs a) (pos 1)) xs ≤ℤ pos (length vs)
names_count group [] xs r = let z = total_zero xs in omega (arith, ints, z)
names_count group (v ∷ vs) xs r =
    let h = names_count group vs xs r in
    let k = at_most_one (group v) xs r in
    let l = total_le (λ a. only_if ((group v == a) || names_group group vs a) (pos 1)) (λ a. only_if (group v == a) (pos 1) +ℤ only_if (names_group group vs a) (pos 1)) (λ _. Unit {0}) xs (every xs) (λ a _. or_count (group v == a) (names_group group vs a)) in
    let e = total_add (λ a. only_if (group v == a) (pos 1)) (λ a. only_if (names_group group vs a) (pos 1)) xs in
    omega (arith, ints, h, k, l, e)

length_step : (b : Bool) (x : ℕ) (ys : List ℕ) (rest : ℤ) → rest ≡ pos (length ys) → only_if b (pos 1) +ℤ rest ≡ pos (length (cond b (x ∷ ys) ys))
length_step true x ys rest h = omega (arith, ints, h)
length_step false x ys rest h = omega (arith, ints, h)

-- those that pass a test, counted
pub length_is : (test : ℕ → Bool) (xs : List ℕ) → total (λ a. only_if (test a) (pos 1)) xs ≡ pos (length (filter test xs))
length_is test [] = refl
length_is test (x ∷ xs) = length_step (test x) x (filter test xs) _ (length_is test xs)
