-- The best entry, and what a push and a pop of it leave.
use Rattle.std.proofs.Common.{◌≡◌, ℕ, ℤ, ◌≤ℤ◌, ◌≤◌, ◌<◌, List, ◌∷◌, length, Contains, refl, sym, ap, subst, arith, ◌⊎◌, inl, inr, ⊎_elim}
use Rattle.std.proofs.lemmas.Int.{ints}
use Rattle.std.proofs.lemmas.List.Elements.{All-contains}
use Rattle.std.proofs.lemmas.List.Sorted.{Contains-permutation, IsPermutation-sym}
use Rattle.std.specs.List.Sorted.{IsPermutation}
use Rattle.std.specs.declared.cmp.Reverse.{Reverse}
use Rattle.slab.proofs.SlabLemmas.{Contains-cons, Contains-cons_cases}
use Rattle.clu_tree.specs.Queue.{queue_entry, IsBest}

pub same_key : (b c : ℤ) (j k : ℕ) → queue_entry b j ≡ queue_entry c k → j ≡ k
same_key b c j k e = ap (λ (x : ℤ × Reverse ℕ). x.1.0) e

pub same_bound : (b c : ℤ) (j k : ℕ) → queue_entry b j ≡ queue_entry c k → b ≡ c
same_bound b c j k e = ap (λ (x : ℤ × Reverse ℕ). x.0) e

-- there is one best entry
pub best_once : (es : List (ℤ × Reverse ℕ)) (b c : ℤ) (j k : ℕ) → IsBest es b j → IsBest es c k → (b ≡ c) × (j ≡ k)
best_once es b c j k p q =
    let h = All-contains (λ (e : ℤ × Reverse ℕ). e.0 ≤ℤ c) es (queue_entry b j) q.greatest p.there in
    let i = All-contains (λ (e : ℤ × Reverse ℕ). e.0 ≤ℤ b) es (queue_entry c k) p.greatest q.there in
    let same : b ≡ c = omega (arith, ints, h, i) in
    let l = All-contains (λ (e : ℤ × Reverse ℕ). e.0 ≡ c → k ≤ e.1.0) es (queue_entry b j) q.least p.there same in
    let m = All-contains (λ (e : ℤ × Reverse ℕ). e.0 ≡ b → j ≤ e.1.0) es (queue_entry c k) p.least q.there (sym same) in
    (same, omega (arith, l, m))

-- the other entries against the best
pub best_order : (es : List (ℤ × Reverse ℕ)) (b c : ℤ) (j k : ℕ) → IsBest es c j → Contains es (queue_entry b k) → (b ≤ℤ c) × (b ≡ c → j ≤ k)
best_order es b c j k t h = (
  All-contains (λ (e : ℤ × Reverse ℕ). e.0 ≤ℤ c) es (queue_entry b k) t.greatest h,
  All-contains (λ (e : ℤ × Reverse ℕ). e.0 ≡ c → j ≤ e.1.0) es (queue_entry b k) t.least h,
)

pub no_best : (es : List (ℤ × Reverse ℕ)) (b : ℤ) (k : ℕ) → IsBest es b k → 0 < length es
no_best es b k t = let h = t.there.1 in omega (arith, h)

-- ---- a pop
pub popped_less : (old new : List (ℤ × Reverse ℕ)) (b c : ℤ) (k j : ℕ) → IsPermutation old (queue_entry b k ∷ new) → Contains new (queue_entry c j)
    → Contains old (queue_entry c j)
popped_less old new b c k j p h =
    Contains-permutation (queue_entry b k ∷ new) old (queue_entry c j) (IsPermutation-sym old (queue_entry b k ∷ new) p) (Contains-cons (queue_entry b k) (queue_entry c j) new h)

pub popped_keeps : (old new : List (ℤ × Reverse ℕ)) (b c : ℤ) (k j : ℕ) → IsPermutation old (queue_entry b k ∷ new) → Contains old (queue_entry c j)
    → (k ≡ j → ⊥) → Contains new (queue_entry c j)
popped_keeps old new b c k j p h n = ⊎_elim
    (λ e. absurd (n (same_key b c k j e)))
    (λ m. m)
    (Contains-cons_cases (queue_entry b k) (queue_entry c j) new (Contains-permutation old (queue_entry b k ∷ new) (queue_entry c j) p h))

-- ---- a push
pub pushed_in : (old new : List (ℤ × Reverse ℕ)) (x : ℤ × Reverse ℕ) → IsPermutation (x ∷ old) new → Contains new x
pushed_in old new x p = Contains-permutation (x ∷ old) new x p (0, omega arith, refl)

pub pushed_keeps : (old new : List (ℤ × Reverse ℕ)) (x y : ℤ × Reverse ℕ) → IsPermutation (x ∷ old) new → Contains old y → Contains new y
pushed_keeps old new x y p h = Contains-permutation (x ∷ old) new y p (Contains-cons x y old h)

pub pushed_was : (old new : List (ℤ × Reverse ℕ)) (x y : ℤ × Reverse ℕ) → IsPermutation (x ∷ old) new → Contains new y → (x ≡ y) ⊎ Contains old y
pushed_was old new x y p h = Contains-cons_cases x y old (Contains-permutation new (x ∷ old) y (IsPermutation-sym (x ∷ old) new p) h)

-- the queue with two more entries
pub record Pushed (old new : List (ℤ × Reverse ℕ)) (b c : ℤ) (p q : ℕ) : Type 0 where
  pub first : Contains new (queue_entry b p)
  pub second : Contains new (queue_entry c q)
  pub keeps : (d : ℤ) (k : ℕ) → Contains old (queue_entry d k) → Contains new (queue_entry d k)
  pub was : (d : ℤ) (k : ℕ) → Contains new (queue_entry d k) → (((d ≡ b) × (k ≡ p)) ⊎ ((d ≡ c) × (k ≡ q))) ⊎ Contains old (queue_entry d k)

pub two_pushed : (old now one two : List (ℤ × Reverse ℕ)) (b c : ℤ) (p q : ℕ) → now ≡ old → IsPermutation (queue_entry b p ∷ now) one
    → IsPermutation (queue_entry c q ∷ one) two → Pushed old two b c p q
two_pushed old now one two b c p q s f g = record {
  first = pushed_keeps one two (queue_entry c q) (queue_entry b p) g (pushed_in now one (queue_entry b p) f);
  second = pushed_in one two (queue_entry c q) g;
  keeps = λ d k h. pushed_keeps one two (queue_entry c q) (queue_entry d k) g (pushed_keeps now one (queue_entry b p) (queue_entry d k) f
      (subst (λ es. Contains es (queue_entry d k)) (sym s) h));
  was = λ d k h. ⊎_elim
      (λ e. inl (inr (sym (same_bound c d q k e), sym (same_key c d q k e))))
      (λ i. ⊎_elim
      (λ e. inl (inl (sym (same_bound b d p k e), sym (same_key b d p k e))))
      (λ j. inr (subst (λ es. Contains es (queue_entry d k)) s j))
      (pushed_was now one (queue_entry b p) (queue_entry d k) f i))
      (pushed_was one two (queue_entry c q) (queue_entry d k) g h);
}
