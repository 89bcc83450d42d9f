-- Parts of a list: sums over the pairs within parts, and the place of the part that a number is in.
use Rattle.std.proofs.Common.{◌≡◌, ℕ, suc, ℤ, ◌+ℤ◌, ◌+◌, ◌*◌, ◌/◌, ◌<◌, ◌≤◌, ⊎_elim, inl, inr, List, [], ◌∷◌, length, get_or, Bool, true, false, ◌==◌, cond, filter, refl, sym, ap, ◌∙◌, arith}
use Rattle.std.specs.List.{range_with_len}
use Rattle.std.proofs.lemmas.Int.{ints}
use Rattle.std.proofs.lemmas.Nat.{div-mul-add}
use Rattle.std.proofs.lemmas.Bool.{cases_eq, eq-eqb, ne_eqb}
use Rattle.clu_partition.specs.Sums.{total, pair_total, only_if}
use Rattle.clu_partition.proofs.SumLaws.{Each, Among, Rising, total_add, total_cong, total_zero, pick_one, below_later}
use Rattle.clu_partition.proofs.Regroup.{filter_total}

-- ---- lists that rise
pub not_before : (x y : ℕ) (ys : List ℕ) → Each (λ z. y < z) ys → Among x (y ∷ ys) → y ≤ x
not_before x y ys up m = ⊎_elim (λ e. omega (arith, e)) (λ n. let l = below_later x y ys up n in omega (arith, l)) m

-- an element of a list that rises is its first one or among the rest
later_among : (x y : ℕ) (xs ys : List ℕ) → x ≡ y → Each (λ z. x < z) xs → ((c : ℕ) → Among c (x ∷ xs) → Among c (y ∷ ys)) → (c : ℕ) → Among c xs →
    Among c ys
later_among x y xs ys e up f c m = ⊎_elim (λ k. let l = below_later c x xs up m in absurd (omega (arith, e, k, l))) (λ n. n) (f c (inr m))

-- two lists that rise are one where they have the same elements
pub same_rising : (xs ys : List ℕ) → Rising xs → Rising ys → ((c : ℕ) → Among c xs → Among c ys) → ((c : ℕ) → Among c ys → Among c xs) → xs ≡ ys
same_rising [] [] p q f g = refl
same_rising [] (y ∷ ys) p q f g = absurd (g y (inl refl))
same_rising (x ∷ xs) [] p q f g = absurd (f x (inl refl))
same_rising (x ∷ xs) (y ∷ ys) p q f g =
    let a = not_before x y ys q.0 (f x (inl refl)) in
    let b = not_before y x xs p.0 (g y (inl refl)) in
    let e : x ≡ y = omega (arith, a, b) in
    let rest = same_rising xs ys p.1 q.1 (later_among x y xs ys e p.0 f) (later_among y x ys xs (sym e) q.0 g) in
    ap (λ z. z ∷ xs) e ∙ ap (λ zs. y ∷ zs) rest

-- ---- pairs within the parts
pub turned : (a b : ℕ) (z : ℤ) → only_if (a == b) z ≡ only_if (b == a) z
turned a b z = ⊎_elim
    (λ e. ap (λ t. only_if t z) (eq-eqb a b e) ∙ sym (ap (λ t. only_if t z) (eq-eqb b a (sym e))))
    (λ n. ap (λ t. only_if t z) (ne_eqb a b n) ∙ sym (ap (λ t. only_if t z) (ne_eqb b a (λ e. n (sym e)))))
    (cases_eq a b)

cond_pairs : (f : ℕ → ℕ → ℤ) (b : Bool) (x : ℕ) (ys : List ℕ) → pair_total f (cond b (x ∷ ys) ys) ≡ only_if b (total (f x) ys) +ℤ pair_total f ys
cond_pairs f true x ys = refl
cond_pairs f false x ys = omega (arith, ints)

-- a sum over the pairs of one part is the sum, over the parts, of the sums over the pairs of each
pub by_part : (f : ℕ → ℕ → ℤ) (part : ℕ → ℕ) (parts members : List ℕ) → Rising parts → Each (λ u. Among (part u) parts) members →
    pair_total (λ u v. only_if (part u == part v) (f u v)) members ≡ total (λ i. pair_total f (filter (λ u. part u == i) members)) parts
by_part f part parts [] up all = sym (total_zero parts)
by_part f part parts (x ∷ xs) up all =
    let h = by_part f part parts xs up all.1 in
    let a = total_cong (λ i. pair_total f (cond (part x == i) (x ∷ filter (λ u. part u == i) xs) (filter (λ u. part u == i) xs)))
    (λ i. only_if (part x == i) (total (f x) (filter (λ u. part u == i) xs)) +ℤ pair_total f (filter (λ u. part u == i) xs)) parts
    (λ i. cond_pairs f (part x == i) x (filter (λ u. part u == i) xs)) in
    let b = total_add (λ i. only_if (part x == i) (total (f x) (filter (λ u. part u == i) xs)))
    (λ i. pair_total f (filter (λ u. part u == i) xs)) parts in
    let c = pick_one (part x) (λ i. total (f x) (filter (λ u. part u == i) xs)) parts up all.0 in
    let d = filter_total (f x) (λ u. part u == part x) xs in
    let e = total_cong (λ v. only_if (part v == part x) (f x v)) (λ v. only_if (part x == part v) (f x v)) xs
    (λ v. turned (part v) (part x) (f x v)) in
    omega (arith, ints, h, a, b, c, d, e)

-- ---- a sum over places is one over a list
pub by_list : {A : Type 0} (f : A → ℤ) (d : A) (at' : ℕ → A) (xs : List A) (a : ℕ) → ((k : ℕ) → k < length xs → at' (a + k) ≡ get_or xs k d) →
    total (λ i. f (at' i)) (range_with_len a (length xs)) ≡ total f xs
by_list f d at' [] a e = refl
by_list f d at' (x ∷ xs) a e =
    let h = by_list f d at' xs (a + 1) (λ k l. ap at' (next a k) ∙ e (suc k) (omega arith)) in
    let g = ap f (ap at' (here a) ∙ e 0 (omega arith)) in
    omega (arith, ints, h, g)
  where
    next : (a k : ℕ) → a + 1 + k ≡ a + suc k
    next a k = omega arith

    here : (a : ℕ) → a ≡ a + 0
    here a = omega arith

-- ---- part and label in one number
pub top : (ℕ → ℕ) → List ℕ → ℕ
top label [] = 1
top label (x ∷ xs) = suc (label x) + top label xs

pub top_above : (label : ℕ → ℕ) (k : ℕ) (xs : List ℕ) → top label xs ≤ k → Each (λ x. label x < k) xs
unfolding top
top_above label k [] l = tt
top_above label k (x ∷ xs) l = (omega arith, top_above label k xs (omega arith))

abbrev pub both : ℕ → (ℕ → ℕ) → (ℕ → ℕ) → ℕ → ℕ
both m part label x = part x * m + label x

pub both_same : (m : ℕ) (part label : ℕ → ℕ) (a b : ℕ) → label a < m → label b < m → both m part label a ≡ both m part label b →
    (part a ≡ part b) × (label a ≡ label b)
both_same m part label a b la lb e =
    let p : part a ≡ part b = sym (div-mul-add (part a) m (label a) la) ∙ ap (λ k. k / m) e ∙ div-mul-add (part b) m (label b) lb in
    let q = ap (λ k. k * m) p in
    (p, omega (arith, e, q))

pub both_test : (m : ℕ) (part label : ℕ → ℕ) (a b : ℕ) (z : ℤ) → label a < m → label b < m →
    only_if (both m part label a == both m part label b) z ≡ only_if (part a == part b) (only_if (label a == label b) z)
both_test m part label a b z la lb = ⊎_elim
    (λ p. ⊎_elim
    (λ q. ap (λ t. only_if t z) (eq-eqb (both m part label a) (both m part label b) (let r = ap (λ k. k * m) p in omega (arith, r, q)))
    ∙ sym (ap (λ t. only_if t (only_if (label a == label b) z)) (eq-eqb (part a) (part b) p)
    ∙ ap (λ t. only_if t z) (eq-eqb (label a) (label b) q)))
    (λ n. ap (λ t. only_if t z) (ne_eqb (both m part label a) (both m part label b) (λ e. n (both_same m part label a b la lb e).1))
    ∙ sym (ap (λ t. only_if t (only_if (label a == label b) z)) (eq-eqb (part a) (part b) p)
    ∙ ap (λ t. only_if t z) (ne_eqb (label a) (label b) n)))
    (cases_eq (label a) (label b)))
    (λ n. ap (λ t. only_if t z) (ne_eqb (both m part label a) (both m part label b) (λ e. n (both_same m part label a b la lb e).0))
    ∙ sym (ap (λ t. only_if t (only_if (label a == label b) z)) (ne_eqb (part a) (part b) n)))
    (cases_eq (part a) (part b))
