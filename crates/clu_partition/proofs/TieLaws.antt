-- Laws of tied vertices.
use Rattle.std.proofs.Common.{◌≡◌, ◌≢◌, ◌⊎◌, inl, inr, ⊎_elim, ℕ, ◌+◌, ◌<◌, ◌≤◌, min, max, List, length, slice_index, slice_set, get_or, Contains, Bool, true, false, refl, sym, ap, ◌∙◌, subst, arith, ◌==◌, if◌then◌else◌, get_or-set_same, get_or-set_other}
use Rattle.std.proofs.Math.ListN.{length-set}
use Rattle.std.proofs.lemmas.Bool.{cases_eq, eq-eqb, ne_eqb}
use Rattle.std.proofs.lemmas.List.{get_or_default}
use Rattle.std.proofs.lemmas.List.Elements.{All-contains}
use Rattle.clu_partition.specs.Partition.{below}
use Rattle.clu_partition.specs.Ties.{Tied, same, pair, back, chain, AreBelow}
use Rattle.clu_partition.specs.Groups.{merged}
use Rattle.clu_partition.specs.Tying.{AreTied}
use Rattle.clu_partition.proofs.Ranges.{below_at, below_size}

-- ---- relabelling
-- `low` for `high`, and other groups as they are
abbrev pub over : ℕ → ℕ → ℕ → ℕ
over low high g = if g == high then low else g

-- the vertices below v have gone over
pub record OverBelow (n : ℕ) (old now : List ℕ) (low high v : ℕ) : Type 0 where
  pub size : length now ≡ n
  pub done : (x : ℕ) → x < v → x < n → slice_index now x ≡ over low high (slice_index old x)
  pub left : (x : ℕ) → v ≤ x → slice_index now x ≡ slice_index old x

either_next : (b : Bool) (n : ℕ) (old now : List ℕ) (low high v : ℕ) → (slice_index now v == high) ≡ b → v < n
    → OverBelow n old now low high v → OverBelow n old (if b then slice_set now v low else now) low high (v + 1)
either_next true n old now low high v e l m = record {
  size = length-set now v low ∙ m.size;
  done = λ x i j. ⊎_elim
      (λ f. subst (λ y. slice_index (slice_set now v low) y ≡ over low high (slice_index old y)) (sym f)
      (here ∙ sym (ap (λ (b : Bool). if b then low else slice_index old v) (sym (ap (λ (g : ℕ). g == high) (m.left v (omega arith))) ∙ e))))
      (λ d. get_or-set_other now v x low 0 d ∙ m.done x (omega (arith, i, d)) j)
      (cases_eq x v);
  left = λ x i. let d : x ≢ v = omega (arith, i) in get_or-set_other now v x low 0 d ∙ m.left x (omega (arith, i));
}
  where
    here : slice_index (slice_set now v low) v ≡ low
    here = let i : v < length now = let s = m.size in omega (arith, s, l) in rw get_or-set_same refl
either_next false n old now low high v e l m = record {
  size = m.size;
  done = λ x i j. ⊎_elim
      (λ f. subst (λ y. slice_index now y ≡ over low high (slice_index old y)) (sym f)
      (m.left v (omega arith) ∙ sym (ap (λ (b : Bool). if b then low else slice_index old v) (sym (ap (λ (g : ℕ). g == high) (m.left v (omega arith))) ∙ e))))
      (λ d. m.done x (omega (arith, i, d)) j)
      (cases_eq x v);
  left = λ x i. m.left x (omega (arith, i));
}

pub over_next : (n : ℕ) (old now new : List ℕ) (low high v : ℕ) → v < n → new ≡ (if slice_index now v == high then slice_set now v low else now)
    → OverBelow n old now low high v → OverBelow n old new low high (v + 1)
over_next n old now new low high v l e m =
    subst (λ (g : List ℕ). OverBelow n old g low high (v + 1)) (sym e) (either_next (slice_index now v == high) n old now low high v refl l m)

-- ---- tying two groups
pub merged_high : (group : ℕ → ℕ) (u v x : ℕ) → group x ≡ max (group u) (group v) → merged group u v x ≡ min (group u) (group v)
merged_high group u v x e = ap (λ (b : Bool). if b then min (group u) (group v) else group x) (eq-eqb (group x) (max (group u) (group v)) e)

pub merged_other : (group : ℕ → ℕ) (u v x : ℕ) → group x ≢ max (group u) (group v) → merged group u v x ≡ group x
merged_other group u v x n = ap (λ (b : Bool). if b then min (group u) (group v) else group x) (ne_eqb (group x) (max (group u) (group v)) n)

-- each vertex goes to the least of the two groups or stays
pub merged_cases : (group : ℕ → ℕ) (u v x : ℕ) → ((group x ≡ max (group u) (group v)) × (merged group u v x ≡ min (group u) (group v))) ⊎ ((group x ≢ max (group u) (group v)) × (merged group u v x ≡ group x))
merged_cases group u v x = ⊎_elim
    (λ e. inl (e, merged_high group u v x e))
    (λ n. inr (n, merged_other group u v x n))
    (cases_eq (group x) (max (group u) (group v)))

-- equal groups stay equal
pub merged_keeps : (group : ℕ → ℕ) (u v x y : ℕ) → group x ≡ group y → merged group u v x ≡ merged group u v y
merged_keeps group u v x y e = ap (λ (k : ℕ). if k == max (group u) (group v) then min (group u) (group v) else k) e

pub merged_equal : (group : ℕ → ℕ) (u v : ℕ) → merged group u v u ≡ merged group u v v
merged_equal group u v = to_min u (first (group u) (group v)) ∙ sym (to_min v (second (group u) (group v)))
  where
    first : (a b : ℕ) → (a ≡ max a b) ⊎ (a ≡ min a b)
    first a b = grind arith

    second : (a b : ℕ) → (b ≡ max a b) ⊎ (b ≡ min a b)
    second a b = grind arith

    to_min : (x : ℕ) → (group x ≡ max (group u) (group v)) ⊎ (group x ≡ min (group u) (group v)) → merged group u v x ≡ min (group u) (group v)
    to_min x p = ⊎_elim (λ e. merged_high group u v x e)
        (λ e. ⊎_elim (λ f. merged_high group u v x f) (λ n. merged_other group u v x n ∙ e) (cases_eq (group x) (max (group u) (group v)))) p

-- a relation that goes both ways and on: where it ties u to v, and each vertex to its group, it ties each vertex to its merged group
pub merged_ties : (T : ℕ → ℕ → Type 0) → ((x y : ℕ) → T x y → T y x) → ((x y z : ℕ) → T x y → T y z → T x z) → (n : ℕ) (group : ℕ → ℕ) (u v : ℕ) → T u v
    → ((x : ℕ) → x < n → T (group x) x) → u < n → v < n → (x : ℕ) → x < n → T (merged group u v x) x
merged_ties T turn on n group u v t f lu lv x lx = ⊎_elim
    (λ e. subst (λ y. T y x) (sym (merged_high group u v x e)) (on (min (group u) (group v)) (group x) x (low e) (f x lx)))
    (λ d. subst (λ y. T y x) (sym (merged_other group u v x d)) (f x lx))
    (cases_eq (group x) (max (group u) (group v)))
  where
    pick : (a b : ℕ) → ((min a b ≡ a) × (max a b ≡ b)) ⊎ ((min a b ≡ b) × (max a b ≡ a))
    pick a b = grind arith

    across : T (group u) (group v)
    across = on (group u) u (group v) (f u lu) (on u v (group v) t (turn (group v) v (f v lv)))

    low : group x ≡ max (group u) (group v) → T (min (group u) (group v)) (group x)
    low e = ⊎_elim
        (λ p. subst (λ y. T y (group x)) (sym p.0) (subst (λ y. T (group u) y) (sym (e ∙ p.1)) across))
        (λ p. subst (λ y. T y (group x)) (sym p.0) (subst (λ y. T (group v) y) (sym (e ∙ p.1)) (turn (group u) (group v) across)))
        (pick (group u) (group v))

-- each vertex in a group of its own
pub tied_alone : (n : ℕ) (required : List (ℕ × ℕ)) (group : List ℕ) → group ≡ below n → AreTied n required 0 group
tied_alone n required group e = record {
  size = ap length e ∙ below_size n;
  below = λ v l. omega (arith, at v l);
  least = λ v l. ap (slice_index group) (at v l);
  tied = λ v l. subst (λ y. Tied required y v) (sym (at v l)) same;
  joined = λ j d l. absurd (omega (arith, l));
}
  where
    at : (v : ℕ) → v < n → slice_index group v ≡ v
    at v l = ap (λ (g : List ℕ). slice_index g v) e ∙ below_at n v 0 l

-- one pair more
pub tied_next : (n : ℕ) (required : List (ℕ × ℕ)) (k : ℕ) (old new : List ℕ) (p : ℕ × ℕ) → AreBelow n required → k < length required → p ≡ get_or required k p
    → length new ≡ n → ((x : ℕ) → x < n → slice_index new x ≡ merged (slice_index old) p.0 p.1 x)
    → AreTied n required k old → AreTied n required (k + 1) new
tied_next n required k old new p all l there size now m = record {
  size = size;
  below = λ v i. ⊎_elim (λ h. omega (arith, h.0, h.1, now v i, m.below v i)) (λ h. omega (arith, h.1, now v i, m.below v i)) (merged_cases g p.0 p.1 v);
  least = λ v i. ap (slice_index new) (now v i) ∙ ⊎_elim
      (λ h. ap (slice_index new) h.1 ∙ to_low ∙ sym (now v i ∙ h.1))
      (λ h. ap (slice_index new) h.1 ∙ now (g v) (omega (arith, m.below v i, i)) ∙ merged_keeps g p.0 p.1 (g v) v (m.least v i) ∙ sym (now v i))
      (merged_cases g p.0 p.1 v);
  tied = λ v i. subst (λ y. Tied required y v) (sym (now v i)) (merged_ties (Tied required) (λ _ _. back) (λ _ _ _. chain) n g p.0 p.1 (pair listed) m.tied first second v i);
  joined = λ j d i. ⊎_elim
      (λ e. subst (λ q. slice_index new q.0 ≡ slice_index new q.1) (at_k j d e) (now p.0 first ∙ merged_equal g p.0 p.1 ∙ sym (now p.1 second)))
      (λ e. let h : j < k = omega (arith, i, e) in
      let b = all j d (omega (arith, h, l)) in
      now _ b.0 ∙ merged_keeps g p.0 p.1 _ _ (m.joined j d h) ∙ sym (now _ b.1))
      (cases_eq j k);
}
  where
    g : ℕ → ℕ
    g = slice_index old

    listed : Contains required (p.0, p.1)
    listed = (k, l, sym there)

    first : p.0 < n
    first = (All-contains (λ q. (q.0 < n) × (q.1 < n)) required p all (k, l, sym there)).0

    second : p.1 < n
    second = (All-contains (λ q. (q.0 < n) × (q.1 < n)) required p all (k, l, sym there)).1

    at_k : (j : ℕ) (d : ℕ × ℕ) → j ≡ k → p ≡ get_or required j d
    at_k j d e = there ∙ get_or_default required k p d l ∙ ap (λ (i : ℕ). get_or required i d) (sym e)

    to_low : slice_index new (min (g p.0) (g p.1)) ≡ min (g p.0) (g p.1)
    to_low = now low small ∙ ⊎_elim (λ h. h.1) (λ h. h.1 ∙ own) (merged_cases g p.0 p.1 low)
      where
        low : ℕ
        low = min (g p.0) (g p.1)

        pick : (a b : ℕ) → (min a b ≡ a) ⊎ (min a b ≡ b)
        pick a b = grind arith

        small : low < n
        small = let a = m.below p.0 first in let b : low ≤ g p.0 = omega arith in omega (arith, a, b, first)

        own : g low ≡ low
        own = ⊎_elim (λ e. ap g e ∙ m.least p.0 first ∙ sym e) (λ e. ap g e ∙ m.least p.1 second ∙ sym e) (pick (g p.0) (g p.1))
