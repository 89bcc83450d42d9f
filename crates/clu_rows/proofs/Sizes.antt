-- How large the rows' coefficients are together.
use Rattle.std.proofs.Common.{◌≡◌, ℕ, ◌≤◌, ◌+◌, ◌*◌, ℤ, pos, negsuc, ◌+ℤ◌, ◌-ℤ◌, ◌*ℤ◌, ◌≤ℤ◌, List, [], ◌∷◌, length, filter, Bool, true, false, not, ◌||◌, cond, sym, ap, ◌∙◌, arith, suc, unsigned_abs}
use Rattle.std.proofs.Math.Nat.{mul-le-mul_left}
use Rattle.std.proofs.lemmas.Int.{ints}
use Rattle.clu_partition.specs.Sums.{total, pair_total, only_if}
use Rattle.clu_partition.specs.Groups.{leaders, between}
use Rattle.clu_rows.specs.Rows.{TwoSet, sign, names_group, coefficient, priced, excess}
use Rattle.clu_partition.specs.Sums.{positive}
use Rattle.clu_partition.proofs.SumLaws.{Rising, total_le, total_add, pair_le, pair_add, pair_scale, pair_zero, scale_le}
use Rattle.clu_partition.proofs.ListLaws.{every}
use Rattle.clu_partition.proofs.Regroup.{only_if_total}
use Rattle.clu_rows.proofs.NameCounts.{or_count, names_count, length_is}

-- ---- how many groups a row names
either : (ℕ → ℕ) → TwoSet → ℕ → Bool
either group r a = names_group group r.s a || names_group group r.t a

named_count : (group : ℕ → ℕ) (r : TwoSet) (xs : List ℕ) → Rising xs → length (filter (either group r) xs) ≤ length r.s + length r.t
unfolding either
named_count group r xs up =
    let e = length_is (either group r) xs in
    let a = names_count group r.s xs up in
    let b = names_count group r.t xs up in
    let l = total_le (λ a. only_if (either group r a) (pos 1)) (λ a. only_if (names_group group r.s a) (pos 1) +ℤ only_if (names_group group r.t a) (pos 1)) (λ _. Unit {0}) xs (every xs) (λ a _. or_count (names_group group r.s a) (names_group group r.t a)) in
    let f = total_add (λ a. only_if (names_group group r.s a) (pos 1)) (λ a. only_if (names_group group r.t a) (pos 1)) xs in
    omega (arith, ints, e, a, b, l, f)

-- ---- pairs of a list that pass a test
pair_step : (b : Bool) (x : ℕ) (ys : List ℕ) (one rest : ℤ) → one ≡ only_if b (pos (length ys)) → rest ≤ℤ pos (length ys * length ys) → (one +ℤ rest) ≤ℤ pos (length (cond b (x ∷ ys) ys) * length (cond b (x ∷ ys) ys))
pair_step true x ys one rest e h = let k : suc (length ys) * suc (length ys) ≡ length ys * length ys + 2 * length ys + 1 = omega arith in omega (arith, ints, e, h, k)
pair_step false x ys one rest e h = omega (arith, ints, e, h)

square_count : (test : ℕ → Bool) (xs : List ℕ) → pair_total (λ a b. only_if (test a) (only_if (test b) (pos 1))) xs ≤ℤ pos (length (filter test xs) * length (filter test xs))
square_count test [] = omega (arith, ints)
square_count test (x ∷ xs) = pair_step (test x) x (filter test xs) _ _
    (sym (only_if_total (test x) (λ b. only_if (test b) (pos 1)) xs) ∙ ap (only_if (test x)) (length_is test xs))
    (square_count test xs)

pub sign_small : (sa ta sb tb : Bool) → pos (unsigned_abs (sign sa ta sb tb)) ≤ℤ only_if (sa || ta) (only_if (sb || tb) (pos 1))
sign_small true true true true = omega (arith, ints)
sign_small true true true false = omega (arith, ints)
sign_small true true false true = omega (arith, ints)
sign_small true true false false = omega (arith, ints)
sign_small true false true true = omega (arith, ints)
sign_small true false true false = omega (arith, ints)
sign_small true false false true = omega (arith, ints)
sign_small true false false false = omega (arith, ints)
sign_small false true true true = omega (arith, ints)
sign_small false true true false = omega (arith, ints)
sign_small false true false true = omega (arith, ints)
sign_small false true false false = omega (arith, ints)
sign_small false false sb tb = omega (arith, ints)

square_le : (a b : ℕ) → a ≤ b → a * a ≤ b * b
square_le a b h = let k = mul-le-mul_left a h in let l = mul-le-mul_left b h in omega (arith, k, l)

-- the coefficients of a row are together at most the square of its length
pub row_size : (group : ℕ → ℕ) (r : TwoSet) (xs : List ℕ) → Rising xs → pair_total (λ a b. pos (unsigned_abs (coefficient group r a b))) xs ≤ℤ pos ((length r.s + length r.t) * (length r.s + length r.t))
unfolding either
row_size group r xs up =
    let a = pair_le (λ a b. pos (unsigned_abs (coefficient group r a b))) (λ a b. only_if (either group r a) (only_if (either group r b) (pos 1))) (λ _. Unit {0}) xs (every xs) (λ a b _ _. sign_small (names_group group r.s a) (names_group group r.t a) (names_group group r.s b) (names_group group r.t b)) in
    let b = square_count (either group r) xs in
    let c = named_count group r xs up in
    let d = square_le (length (filter (either group r) xs)) (length r.s + length r.t) c in
    omega (arith, ints, a, b, d)

-- a row's worth in the limit
abbrev pub row_worth : TwoSet → ℤ
row_worth r = pos r.y *ℤ pos ((length r.s + length r.t) * (length r.s + length r.t))

abs_add : (a b : ℤ) → pos (unsigned_abs (a +ℤ b)) ≤ℤ (pos (unsigned_abs a) +ℤ pos (unsigned_abs b))
abs_add a b = omega (arith, ints)

pub abs_scale : (y : ℕ) (a : ℤ) → pos (unsigned_abs (pos y *ℤ a)) ≡ pos y *ℤ pos (unsigned_abs a)
abs_scale y (pos n) = omega (arith, ints)
abs_scale y (negsuc n) = omega (arith, ints)

pub priced_size : (group : ℕ → ℕ) (rows : List TwoSet) (xs : List ℕ) → Rising xs → pair_total (λ a b. pos (unsigned_abs (priced group rows a b))) xs ≤ℤ total row_worth rows
priced_size group [] xs up = let z = pair_zero xs in omega (arith, ints, z)
priced_size group (r ∷ rows) xs up =
    let h = priced_size group rows xs up in
    let a = pair_le (λ a b. pos (unsigned_abs (pos r.y *ℤ coefficient group r a b +ℤ priced group rows a b))) (λ a b. pos r.y *ℤ pos (unsigned_abs (coefficient group r a b)) +ℤ pos (unsigned_abs (priced group rows a b))) (λ _. Unit {0}) xs (every xs)
    (λ a b _ _. let k = abs_add (pos r.y *ℤ coefficient group r a b) (priced group rows a b) in let l = abs_scale r.y (coefficient group r a b) in omega (arith, ints, k, l)) in
    let b = pair_add (λ a b. pos r.y *ℤ pos (unsigned_abs (coefficient group r a b))) (λ a b. pos (unsigned_abs (priced group rows a b))) xs in
    let c = pair_scale r.y (λ a b. pos (unsigned_abs (coefficient group r a b))) xs in
    let d = scale_le r.y _ _ (row_size group r xs up) in
    omega (arith, ints, h, a, b, c, d)

positive_small : (apart : Bool) (d : ℕ) (w q : ℤ) → only_if (not apart) (pos (positive (pos d *ℤ w -ℤ q))) ≤ℤ (pos d *ℤ pos (unsigned_abs w) +ℤ pos (unsigned_abs q))
positive_small true d w q = let k = abs_scale d w in omega (arith, ints, k)
positive_small false d w q = let k = abs_scale d w in by_sign (pos d *ℤ w) (pos d *ℤ w -ℤ q) (pos d *ℤ pos (unsigned_abs w)) q (sym k) (omega (arith, ints))
  where
    by_sign : (dw z t q : ℤ) → t ≡ pos (unsigned_abs dw) → z ≡ dw -ℤ q → pos (positive z) ≤ℤ (t +ℤ pos (unsigned_abs q))
    by_sign dw (pos n) t q e f = omega (arith, ints, e, f)
    by_sign dw (negsuc n) t q e f = omega (arith, ints, e, f)

-- R is at most den times the weights and the rows' worth
pub excess_small : (w : ℕ → ℕ → ℤ) (group : ℕ → ℕ) (apart : ℕ → ℕ → Bool) (members : List ℕ) (den : ℕ) (rows : List TwoSet) → Rising (leaders group members) →
    excess w group apart members den rows ≤ℤ (pos den *ℤ pair_total (λ a b. pos (unsigned_abs (between w group members a b))) (leaders group members) +ℤ total row_worth rows)
excess_small w group apart members den rows up =
    let l = leaders group members in
    let a = pair_le (λ a b. only_if (not (apart a b)) (pos (positive (pos den *ℤ between w group members a b -ℤ priced group rows a b)))) (λ a b. pos den *ℤ pos (unsigned_abs (between w group members a b)) +ℤ pos (unsigned_abs (priced group rows a b))) (λ _. Unit {0}) (leaders group members) (every (leaders group members))
    (λ a b _ _. positive_small (apart a b) den (between w group members a b) (priced group rows a b)) in
    let b = pair_add (λ a b. pos den *ℤ pos (unsigned_abs (between w group members a b))) (λ a b. pos (unsigned_abs (priced group rows a b))) (leaders group members) in
    let c = pair_scale den (λ a b. pos (unsigned_abs (between w group members a b))) (leaders group members) in
    let d = priced_size group rows (leaders group members) up in
    omega (arith, ints, a, b, c, d)
