-- Counts as sums, and the sum over the pairs of a rising list that are one given pair.
use Rattle.std.proofs.Common.{◌≡◌, ◌≢◌, ⊎_elim, ℕ, ℤ, pos, ◌+◌, ◌<◌, ◌+ℤ◌, ◌&&◌, ◌==◌, Bool, true, false, List, [], ◌∷◌, refl, ◌∙◌, ap, arith, cond}
use Rattle.std.specs.Prelude.{count_by}
use Rattle.std.proofs.lemmas.Int.{ints}
use Rattle.std.proofs.lemmas.Bool.{eq-eqb, ne_eqb}
use Rattle.std.proofs.lemmas.List.Sums.{sum_by-cons}
use Rattle.clu_partition.specs.Sums.{total, pair_total, only_if}
use Rattle.clu_partition.proofs.SumLaws.{Each, Among, Rising, total_cong_on, total_zero, pick_one, below_later}
use Rattle.clu_partition.proofs.ListLaws.{each_and, each_map}
use Rattle.clu_objective.specs.Edits.{count_pairs}

-- ---- counts
one_more : (b : Bool) (k : ℕ) (z : ℤ) → pos k ≡ z → pos (cond b 1 0 + k) ≡ only_if b (pos 1) +ℤ z
one_more true k z e = omega (arith, ints, e)
one_more false k z e = omega (arith, ints, e)

pub count_total : {A : Type 0} (p : A → Bool) (xs : List A) → pos (count_by p xs) ≡ total (λ x. only_if (p x) (pos 1)) xs
count_total p [] = refl
count_total p (x ∷ xs) = ap pos (sum_by-cons (λ y. cond (p y) 1 0) x xs) ∙ one_more (p x) (count_by p xs) (total (λ y. only_if (p y) (pos 1)) xs) (count_total p xs)

pub pairs_total : (p : ℕ → ℕ → Bool) (xs : List ℕ) → pos (count_pairs p xs) ≡ pair_total (λ u v. only_if (p u v) (pos 1)) xs
pairs_total p [] = refl
pairs_total p (x ∷ xs) = let h = count_total (p x) xs in let k = pairs_total p xs in omega (arith, ints, h, k)

-- ---- sums over the pairs of a rising list
pub pair_cong_rising : (f g : ℕ → ℕ → ℤ) (P : ℕ → Type 0) (xs : List ℕ) → Rising xs → Each P xs → ((x y : ℕ) → P x → P y → x < y → f x y ≡ g x y) → pair_total f xs ≡ pair_total g xs
pair_cong_rising f g P [] up all e = refl
pair_cong_rising f g P (x ∷ xs) up all e =
    let h = pair_cong_rising f g P xs up.1 all.1 e in
    let k = total_cong_on (f x) (g x) (λ y. P y × (x < y)) xs (each_and P (λ y. x < y) xs all.1 up.0) (λ y p. e x y all.0 p.0 p.1) in
    omega (arith, ints, h, k)

-- the sum of z over the pairs that are c and d, in this order
abbrev pub picked : ℕ → ℕ → (ℕ → ℕ → ℤ) → ℕ → ℕ → ℤ
picked c d z u v = only_if (c == u && d == v) (z u v)

row_here : (c d x : ℕ) (z : ℕ → ℕ → ℤ) (xs : List ℕ) → c ≡ x → total (picked c d z x) xs ≡ total (λ v. only_if (d == v) (z x v)) xs
row_here c d x z xs e = ap (λ b. total (λ v. only_if (b && d == v) (z x v)) xs) (eq-eqb c x e)

row_there : (c d x : ℕ) (z : ℕ → ℕ → ℤ) (xs : List ℕ) → c ≢ x → total (picked c d z x) xs ≡ pos 0
row_there c d x z xs n = ap (λ b. total (λ v. only_if (b && d == v) (z x v)) xs) (ne_eqb c x n) ∙ total_zero xs

pick_none : (c d : ℕ) (z : ℕ → ℕ → ℤ) (xs : List ℕ) → Each (λ y. c < y) xs → pair_total (picked c d z) xs ≡ pos 0
pick_none c d z [] all = refl
pick_none c d z (x ∷ xs) all =
    let h = pick_none c d z xs all.1 in
    let k = row_there c d x z xs (λ e. omega (arith, e, all.0)) in
    omega (arith, ints, h, k)

after : (x d : ℕ) (xs : List ℕ) → x < d → Among d (x ∷ xs) → Among d xs
after x d xs l m = ⊎_elim (λ e. absurd (omega (arith, e, l))) (λ n. n) m

each_above : (c x : ℕ) (xs : List ℕ) → c ≡ x → Each (λ y. x < y) xs → Each (λ y. c < y) xs
each_above c x xs e all = each_map (λ y. x < y) (λ y. c < y) xs (λ y l. omega (arith, e, l)) all

pub pick_pair : (c d : ℕ) (z : ℕ → ℕ → ℤ) (xs : List ℕ) → Rising xs → c < d → Among c xs → Among d xs → pair_total (picked c d z) xs ≡ z c d
pick_pair c d z [] up l mc md = absurd mc
pick_pair c d z (x ∷ xs) up l mc md = ⊎_elim
    (λ e.
    let row = row_here c d x z xs e in
    let one = pick_one d (z x) xs up.1 (after x d xs (omega (arith, e, l)) md) in
    let rest = pick_none c d z xs (each_above c x xs e up.0) in
    let same : z c d ≡ z x d = ap (λ k. z k d) e in
    omega (arith, ints, row, one, rest, same))
    (λ n.
    let below = below_later c x xs up.0 n in
    let row = row_there c d x z xs (λ e. omega (arith, e, below)) in
    let rest = pick_pair c d z xs up.1 l n (after x d xs (omega (arith, below, l)) md) in
    omega (arith, ints, row, rest))
    mc
