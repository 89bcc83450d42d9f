-- When two numbers are two others, in either order, and what adding to a pair's weight does.
use Rattle.std.proofs.Common.{◌≡◌, ◌≢◌, ◌⊎◌, inl, inr, ⊎_elim, ℕ, ◌<◌, ℤ, pos, ◌+ℤ◌, min, max, Bool, true, false, ◌==◌, ◌&&◌, ◌||◌, sym, ap, ◌∙◌, subst, arith}
use Rattle.std.proofs.lemmas.Int.{ints}
use Rattle.std.proofs.lemmas.Bool.{eq-eqb, ne_eqb, cases_eq, and_from, or_left, or_right, or_from, cases_order}
use Rattle.clu_partition.specs.Sums.{only_if}
use Rattle.clu_partition.specs.Grids.{IsGrid}
use Rattle.clu_partition.specs.Pairs.{Pairs, are_pair, weight_of, with_weight}
use Rattle.clu_partition.proofs.TableLaws.{set_same, set_other, weight_sym}

-- ---- the test
pub is_pair : (a b x z : ℕ) → ((a ≡ x) × (b ≡ z)) ⊎ ((a ≡ z) × (b ≡ x)) → are_pair a b x z ≡ true
is_pair a b x z = ⊎_elim
    (λ h. or_left (a == x && b == z) (a == z && b == x) (and_from (a == x) (b == z) (eq-eqb a x h.0) (eq-eqb b z h.1)))
    (λ h. or_right (a == x && b == z) (a == z && b == x) (and_from (a == z) (b == x) (eq-eqb a z h.0) (eq-eqb b x h.1)))

pub no_and : (c d e f : ℕ) → ((c ≡ d) × (e ≡ f) → ⊥) → (c == d && e == f) ≡ false
no_and c d e f n = ⊎_elim (λ p. ap (λ k. k && e == f) (eq-eqb c d p) ∙ ne_eqb e f (λ q. n (p, q))) (λ p. ap (λ k. k && e == f) (ne_eqb c d p)) (cases_eq c d)

pub not_pair : (a b x z : ℕ) → ((a ≡ x) × (b ≡ z) → ⊥) → ((a ≡ z) × (b ≡ x) → ⊥) → are_pair a b x z ≡ false
not_pair a b x z m n = or_from (a == x && b == z) (a == z && b == x) (no_and a x b z m) (no_and a z b x n)

-- two numbers that differ stand in one order
pub one_less : (x y : ℕ) → x ≢ y → (x < y) ⊎ (y < x)
one_less x y d = ⊎_elim (λ e. absurd (d e)) (λ order. order) (cases_order x y)

-- two pairs with one least and one largest number
pub one_pair : (a b x z : ℕ) → (min a b ≡ min x z) × (max a b ≡ max x z) → ((a ≡ x) × (b ≡ z)) ⊎ ((a ≡ z) × (b ≡ x))
one_pair a b x z h = let p = h.0 in let q = h.1 in ⊎_elim (λ e. inl (e, omega (arith, e, p, q))) (λ n. inr (omega (arith, n, p, q), omega (arith, n, p, q))) (cases_eq a x)

-- a pair with low is none without it, nor one of low with another
pub pair_without : (low j i k : ℕ) → i ≢ low → k ≢ low → (min low j ≡ min i k) × (max low j ≡ max i k) → ⊥
pair_without low j i k p q e = let a = e.0 in let b = e.1 in omega (arith, a, b, p, q)

pub pair_other : (low j k : ℕ) → k ≢ j → (min low j ≡ min low k) × (max low j ≡ max low k) → ⊥
pair_other low j k p e = let a = e.0 in let b = e.1 in omega (arith, a, b, p)

pub pair_cases : (a b x z : ℕ) →
    ((are_pair a b x z ≡ true) × (((a ≡ x) × (b ≡ z)) ⊎ ((a ≡ z) × (b ≡ x)))) ⊎ ((are_pair a b x z ≡ false) × ((min a b ≡ min x z) × (max a b ≡ max x z) → ⊥))
pair_cases a b x z = ⊎_elim
    (λ h. inl (is_pair a b x z (inl h), inl h))
    (λ m. ⊎_elim
    (λ h. inl (is_pair a b x z (inr h), inr h))
    (λ n. inr (not_pair a b x z m n, λ h. ⊎_elim m n (one_pair a b x z h)))
    (both a z b x))
    (both a x b z)
  where
    both : (c d e f : ℕ) → ((c ≡ d) × (e ≡ f)) ⊎ ((c ≡ d) × (e ≡ f) → ⊥)
    both c d e f = ⊎_elim (λ p. ⊎_elim (λ q. inl (p, q)) (λ n. inr (λ h. n h.1)) (cases_eq e f)) (λ n. inr (λ h. n h.0)) (cases_eq c d)

-- the two orders do not both fit, so the number is counted once
pub pair_split : (p q r t : Bool) (k : ℤ) → (p && r) ≡ false → only_if ((p && q) || (r && t)) k ≡ only_if p (only_if q k) +ℤ only_if r (only_if t k)
pair_split true q true t k d = absurd (cc)
pair_split true true false t k d = omega (arith, ints)
pair_split true false false t k d = omega (arith, ints)
pair_split false q true t k d = omega (arith, ints)
pair_split false q false t k d = omega (arith, ints)

-- ---- one weight k more at a and b
pub added : (old new : Pairs) (a b x z : ℕ) (k w : ℤ) → IsGrid old → a < old.n → b < old.n → x < old.n → z < old.n → x ≢ z → w ≡ weight_of old a b +ℤ k → new ≡ with_weight old a b w →
    weight_of new x z ≡ weight_of old x z +ℤ only_if (are_pair a b x z) k
added old new a b x z k w p la lb lx lz d e f = subst (λ (t : Pairs). weight_of t x z ≡ weight_of old x z +ℤ only_if (are_pair a b x z) k) (sym f) (⊎_elim
    (λ h. ⊎_elim (λ q. straight q.0 q.1) (λ q. turned q.0 q.1) h.1 ∙ ap (λ c. weight_of old x z +ℤ only_if c k) (sym h.0))
    (λ h. set_other old a b x z w la lb lx lz h.1 ∙ nothing (weight_of old x z) ∙ ap (λ c. weight_of old x z +ℤ only_if c k) (sym h.0))
    (pair_cases a b x z))
  where
    nothing : (t : ℤ) → t ≡ t +ℤ pos 0
    nothing t = omega (arith, ints)

    straight : a ≡ x → b ≡ z → weight_of (with_weight old a b w) x z ≡ weight_of old x z +ℤ k
    straight q r = subst (λ x. weight_of (with_weight old a b w) x z ≡ weight_of old x z +ℤ k) q (subst (λ z. weight_of (with_weight old a b w) a z ≡ weight_of old a z +ℤ k) r (set_same old a b w la lb (λ i. d (sym q ∙ i ∙ r)) p ∙ e))

    turned : a ≡ z → b ≡ x → weight_of (with_weight old a b w) x z ≡ weight_of old x z +ℤ k
    turned q r = weight_sym (with_weight old a b w) x z ∙ subst (λ x. weight_of (with_weight old a b w) z x ≡ weight_of old x z +ℤ k) r (subst (λ z. weight_of (with_weight old a b w) z b ≡ weight_of old b z +ℤ k) q (set_same old a b w la lb (λ i. d (sym r ∙ sym i ∙ q)) p ∙ e ∙ ap (λ t. t +ℤ k) (weight_sym old a b)))
