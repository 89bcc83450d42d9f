-- A search for a pair of groups among the forbidden ones.
use Rattle.std.proofs.Common.{◌≡◌, ℕ, zero, suc, ◌<◌, ◌≤◌, ◌⊎◌, inl, inr, ⊎_elim, min, max, List, [], ◌∷◌, length, get_or, slice_index, Bool, false, ◌==◌, ◌&&◌, ◌||◌, refl, sym, ap, ◌∙◌, arith, Ok, Err, Result}
use Rattle.std.specs.Ordering.{nat_cmp, ordering_then, ordering_index}
use Rattle.std.specs.Cmp.{nat_cmp_is}
use Rattle.std.specs.Result.{is_ok}
use Rattle.std.specs.List.Sorted.{IsBinarySearchResult, IsSearchInRange}
use Rattle.std.specs.declared.cmp.Ordering.{Ordering}
use Rattle.std.specs.declared.cmp.Ordering.TheVariants.{Less, Equal, Greater}
use Rattle.std.proofs.lemmas.Bool.{cases_order, cases_lt, cases_eq, eq-eqb, ne_eqb}
use Rattle.clu_partition.specs.Closed.{Closed, IsClosed, Precedes, AreRising, joins}
use Rattle.clu_partition.proofs.JoinLaws.{joins_listed, joins_same, joins_turn}

-- ---- the order of pairs
pub irreflexive : (p : ℕ × ℕ) → Precedes p p → ⊥
irreflexive p h = ⊎_elim (λ i. omega (arith, i)) (λ i. let j = i.1 in omega (arith, j)) h

pub asymmetric : (p q : ℕ × ℕ) → Precedes p q → Precedes q p → ⊥
asymmetric p q h k = ⊎_elim
    (λ i. ⊎_elim (λ j. omega (arith, i, j)) (λ j. let e = j.0 in omega (arith, i, e)) k)
    (λ i. let e = i.0 in let l = i.1 in ⊎_elim (λ j. omega (arith, j, e)) (λ j. let r = j.1 in omega (arith, l, r)) k)
    h

abbrev pub pair_order : ℕ × ℕ → ℕ × ℕ → Ordering
pair_order y x = ordering_then (nat_cmp y.0 x.0) (nat_cmp y.1 x.1)

is_less : (y x : ℕ × ℕ) → Precedes y x → pair_order y x ≡ Less
is_less y x before = ⊎_elim
    (λ h. ap (λ o. ordering_then o (nat_cmp y.1 x.1)) (sym (nat_cmp_is y.0 x.0 Less h)))
    (λ h. ap (λ o. ordering_then o (nat_cmp y.1 x.1)) (sym (nat_cmp_is y.0 x.0 Equal h.0)) ∙ sym (nat_cmp_is y.1 x.1 Less h.1))
    before

is_greater : (y x : ℕ × ℕ) → Precedes x y → pair_order y x ≡ Greater
is_greater y x after = ⊎_elim
    (λ h. ap (λ o. ordering_then o (nat_cmp y.1 x.1)) (sym (nat_cmp_is y.0 x.0 Greater h)))
    (λ h. ap (λ o. ordering_then o (nat_cmp y.1 x.1)) (sym (nat_cmp_is y.0 x.0 Equal (sym h.0))) ∙ sym (nat_cmp_is y.1 x.1 Greater h.1))
    after

is_equal : (y x : ℕ × ℕ) → y.0 ≡ x.0 → y.1 ≡ x.1 → pair_order y x ≡ Equal
is_equal y x e f = ap (λ o. ordering_then o (nat_cmp y.1 x.1)) (sym (nat_cmp_is y.0 x.0 Equal e)) ∙ sym (nat_cmp_is y.1 x.1 Equal f)

trichotomy : (y x : ℕ × ℕ) → Precedes y x ⊎ (((y.0 ≡ x.0) × (y.1 ≡ x.1)) ⊎ Precedes x y)
trichotomy y x = ⊎_elim
    (λ e. ⊎_elim (λ f. inr (inl (e, f))) (λ o. ⊎_elim (λ l. inl (inr (e, l))) (λ g. inr (inr (inr (sym e, g)))) o) (cases_order y.1 x.1))
    (λ o. ⊎_elim (λ l. inl (inl l)) (λ g. inr (inr (inl g))) o)
    (cases_order y.0 x.0)

equal_pair : (y x : ℕ × ℕ) → pair_order y x ≡ Equal → (y.0 ≡ x.0) × (y.1 ≡ x.1)
equal_pair y x e = ⊎_elim
    (λ l. absurd (let h = ap ordering_index (sym (is_less y x l) ∙ e) in omega (arith, h)))
    (λ o. ⊎_elim (λ p. p) (λ g. absurd (let h = ap ordering_index (sym (is_greater y x g) ∙ e) in omega (arith, h))) o)
    (trichotomy y x)

precedes_on : (x p q : ℕ × ℕ) → (((p.0 ≡ x.0) × (p.1 ≡ x.1)) ⊎ Precedes x p) → Precedes p q → Precedes x q
precedes_on x p q o h = ⊎_elim
    (λ l. ⊎_elim
    (λ e. inl (omega (arith, e.0, l)))
    (λ g. ⊎_elim (λ m. inl (omega (arith, m, l))) (λ m. inl (omega (arith, m.0, l))) g)
    o)
    (λ l. ⊎_elim
    (λ e. inr (sym e.0 ∙ l.0, omega (arith, e.1, l.1)))
    (λ g. ⊎_elim (λ m. inl (omega (arith, m, l.0))) (λ m. inr (m.0 ∙ l.0, omega (arith, m.1, l.1))) g)
    o)
    h

index_small : (o : Ordering) → ordering_index o ≤ 2
index_small Less = omega arith
index_small Equal = omega arith
index_small Greater = omega arith

rank_rises : (x p q : ℕ × ℕ) → Precedes p q → ordering_index (pair_order p x) ≤ ordering_index (pair_order q x)
rank_rises x p q h = ⊎_elim
    (λ l. let e = ap ordering_index (is_less p x l) in omega (arith, e))
    (λ o.
    let e = ap ordering_index (is_greater q x (precedes_on x p q o h)) in
    let s = index_small (pair_order p x) in
    omega (arith, e, s))
    (trichotomy p x)

pub rising_at : (ps : List (ℕ × ℕ)) → AreRising ps → (i j : ℕ) (d : ℕ × ℕ) → i < j → j < length ps → Precedes (get_or ps i d) (get_or ps j d)
rising_at [] up i j d l at = absurd (omega arith)
rising_at (p ∷ ps) up i zero d l at = absurd (omega arith)
rising_at (p ∷ ps) up zero (suc j) d l at = up.0 j d (omega arith)
rising_at (p ∷ ps) up (suc i) (suc j) d l at = rising_at ps up.1 i j d (omega arith) (omega arith)

ranks_rise : (ps : List (ℕ × ℕ)) → AreRising ps → (x : ℕ × ℕ) (i j : ℕ) (d : ℕ × ℕ) → i ≤ j → j < length ps → ordering_index (pair_order (get_or ps i d) x) ≤ ordering_index (pair_order (get_or ps j d) x)
ranks_rise ps up x i j d l at = ⊎_elim
    (λ e. let h = ap (λ k. ordering_index (pair_order (get_or ps k d) x)) e in omega (arith, h))
    (λ o. ⊎_elim (λ m. rank_rises x (get_or ps i d) (get_or ps j d) (rising_at ps up i j d m at)) (λ m. absurd (omega (arith, m, l))) o)
    (cases_order i j)

any_default : (ps : List (ℕ × ℕ)) (i : ℕ) (d e : ℕ × ℕ) → i < length ps → get_or ps i d ≡ get_or ps i e
any_default [] i d e at = absurd (omega arith)
any_default (p ∷ ps) zero d e at = refl
any_default (p ∷ ps) (suc i) d e at = any_default ps i d e (omega arith)

neither : (x y : Bool) → x ≡ false → y ≡ false → (x || y) ≡ false
neither x y e f = ap (λ k. k || y) e ∙ f

not_both : (a b c d : ℕ) → (a ≡ c → b ≡ d → ⊥) → (a == c && b == d) ≡ false
not_both a b c d n = ⊎_elim
    (λ e. ap (λ k. k && b == d) (eq-eqb a c e) ∙ ne_eqb b d (n e))
    (λ m. ap (λ k. k && b == d) (ne_eqb a c m))
    (cases_eq a c)

-- the pair does not tie the groups of u and v
record TiesNot (group : ℕ → ℕ) (u v : ℕ) (p : ℕ × ℕ) : Type 0 where
  forth : group p.0 ≡ group u → group p.1 ≡ group v → ⊥
  back : group p.0 ≡ group v → group p.1 ≡ group u → ⊥

joins_none : (group : ℕ → ℕ) (ps : List (ℕ × ℕ)) (u v : ℕ) → ((k : ℕ) (d : ℕ × ℕ) → k < length ps → TiesNot group u v (get_or ps k d)) → joins group ps u v ≡ false
joins_none group [] u v none = refl
joins_none group (p ∷ ps) u v none =
    let here = none 0 p (omega arith) in
    neither _ _
    (neither _ _ (not_both (group p.0) (group p.1) (group u) (group v) here.forth) (not_both (group p.0) (group p.1) (group v) (group u) here.back))
    (joins_none group ps u v (λ k d at. none (suc k) d (omega arith)))

pub search_joins : (c : Closed) → IsClosed c → (u v a b : ℕ) → a ≡ slice_index c.group u → b ≡ slice_index c.group v
    → (r : Result ℕ ℕ) → IsSearchInRange r (length c.forbidden) → IsBinarySearchResult (λ y. pair_order y (min a b, max a b)) c.forbidden r
    → is_ok r ≡ joins (slice_index c.group) c.forbidden u v
search_joins c closed u v a b au bv (Ok i) at is =
    let p : ℕ × ℕ = get_or c.forbidden i (0, 0) in
    let e = equal_pair p (min a b, max a b) (is (0, 0)) in
    let l = closed.least_pairs i (0, 0) at in
    let listed = joins_listed (slice_index c.group) c.forbidden p (i, at, any_default c.forbidden i p (0, 0) at) in
    ⊎_elim
    (λ m. sym (sym (joins_same (slice_index c.group) c.forbidden p.0 p.1 u v (omega (arith, m, au, bv, l.0, e.0)) (omega (arith, m, au, bv, l.1, e.1))) ∙ listed))
    (λ m. sym (joins_turn (slice_index c.group) c.forbidden u v ∙ sym (joins_same (slice_index c.group) c.forbidden p.0 p.1 v u (omega (arith, m, au, bv, l.0, e.0)) (omega (arith, m, au, bv, l.1, e.1))) ∙ listed))
    (cases_lt a b)
search_joins c closed u v a b au bv (Err i) at is =
    let found = is (ranks_rise c.forbidden closed.rising (min a b, max a b)) in
    let differs : (k : ℕ) (d : ℕ × ℕ) → k < length c.forbidden → pair_order (get_or c.forbidden k d) (min a b, max a b) ≡ Equal → ⊥ = λ k d in' e. ⊎_elim
    (λ m. let h = ap ordering_index (sym (found.0 k d (omega arith) m) ∙ e) in omega (arith, h))
    (λ m. let h = ap ordering_index (sym (found.1 k d m in') ∙ e) in omega (arith, h))
    (cases_lt k i) in
    sym (joins_none (slice_index c.group) c.forbidden u v (λ k d in'.
    let l = closed.least_pairs k d in' in
    let o = closed.ordered k d in' in
    record {
      forth = λ e f. differs k d in' (is_equal (get_or c.forbidden k d) (min a b, max a b) (omega (arith, au, bv, l.0, l.1, o, e, f)) (omega (arith, au, bv, l.0, l.1, o, e, f)));
      back = λ e f. differs k d in' (is_equal (get_or c.forbidden k d) (min a b, max a b) (omega (arith, au, bv, l.0, l.1, o, e, f)) (omega (arith, au, bv, l.0, l.1, o, e, f)));
    }))
