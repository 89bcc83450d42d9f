-- Laws of what holds of each element of a list, and of lists that rise.
use Rattle.std.proofs.Common.{◌≡◌, ℕ, zero, suc, ◌+◌, ◌-◌, ◌≤◌, ◌<◌, List, [], ◌∷◌, ◌++◌, length, get_or, take, drop, length-drop, inl, inr, refl, sym, ap, ◌∙◌, arith}
use Rattle.std.proofs.Math.Seq.{take-length}
use Rattle.clu_partition.proofs.SumLaws.{Each, Among, Rising}

-- ---- each element
pub every : {A : Type 0} (xs : List A) → Each (λ _. Unit {0}) xs
every [] = tt
every (x ∷ xs) = (tt, every xs)

pub each_map : {A : Type 0} (P Q : A → Type 0) (xs : List A) → ((x : A) → P x → Q x) → Each P xs → Each Q xs
each_map P Q [] f p = tt
each_map P Q (x ∷ xs) f p = (f x p.0, each_map P Q xs f p.1)

pub each_and : {A : Type 0} (P Q : A → Type 0) (xs : List A) → Each P xs → Each Q xs → Each (λ x. P x × Q x) xs
each_and P Q [] p q = tt
each_and P Q (x ∷ xs) p q = ((p.0, q.0), each_and P Q xs p.1 q.1)

pub each_append : {A : Type 0} (P : A → Type 0) (xs ys : List A) → Each P xs → Each P ys → Each P (xs ++ ys)
each_append P [] ys a b = b
each_append P (x ∷ xs) ys a b = (a.0, each_append P xs ys a.1 b)

pub each_at : {A : Type 0} (P : A → Type 0) (xs : List A) (k : ℕ) (d : A) → k < length xs → Each P xs → P (get_or xs k d)
each_at P [] k d l e = absurd (omega arith)
each_at P (x ∷ xs) zero d l e = e.0
each_at P (x ∷ xs) (suc k) d l e = each_at P xs k d (omega arith) e.1

pub each_among : (xs : List ℕ) → Each (λ x. Among x xs) xs
each_among [] = tt
each_among (x ∷ xs) = (inl refl, each_map (λ y. Among y xs) (λ y. Among y (x ∷ xs)) xs (λ y m. inr m) (each_among xs))

-- ---- lists that rise
pub rising_at : (xs : List ℕ) (i j : ℕ) → Rising xs → i < j → j < length xs → get_or xs i 0 < get_or xs j 0
rising_at [] i j r l m = absurd (omega arith)
rising_at (x ∷ xs) zero zero r l m = absurd (omega arith)
rising_at (x ∷ xs) zero (suc j) r l m = each_at (λ y. x < y) xs j 0 (omega arith) r.0
rising_at (x ∷ xs) (suc i) zero r l m = absurd (omega arith)
rising_at (x ∷ xs) (suc i) (suc j) r l m = rising_at xs i j r.1 (omega arith) (omega arith)

few_from : (xs : List ℕ) (a n : ℕ) → a ≤ n → Rising xs → Each (λ x. a ≤ x) xs → Each (λ x. x < n) xs → a + length xs ≤ n
few_from [] a n l r e b = omega (arith, l)
few_from (x ∷ xs) a n l r e b =
    let h = few_from xs (x + 1) n (omega (arith, b.0)) r.1 (each_map (λ y. x < y) (λ y. x + 1 ≤ y) xs (λ y l. omega (arith, l)) r.0) b.1 in
    omega (arith, h, e.0)

-- no more than n different numbers are below n
pub few_rising : (xs : List ℕ) (n : ℕ) → Rising xs → Each (λ x. x < n) xs → length xs ≤ n
few_rising xs n r b = let h = few_from xs 0 n (omega arith) r (each_map (λ x. x < n) (λ x. 0 ≤ x) xs (λ x l. omega arith) b) b in omega (arith, h)

-- ---- the end of a list
pub tail_is : {A : Type 0} (j : ℕ) (xs : List A) → take (length xs - j) (drop j xs) ≡ drop j xs
tail_is j xs = ap (λ n. take n (drop j xs)) (sym (length-drop j xs)) ∙ take-length (drop j xs)
