-- Looking for a number in a list that rises.
use Rattle.std.proofs.Common.{◌≡◌, ◌⊎◌, inl, inr, ⊎_elim, ℕ, zero, suc, ◌<◌, ◌≤◌, List, length, get_or, slice_index, Contains, nat_cmp, IsTrue, Result, refl, sym, ap, ◌∙◌, arith}
use Rattle.std.specs.Prelude.{Ok, Err, is_ok}
use Rattle.std.specs.List.Sorted.{IsBinarySearchResult}
use Rattle.std.proofs.lemmas.List.Sorted.{searched}
use Rattle.std.proofs.lemmas.Grind.{get_or_default_zero}
use Rattle.std.proofs.lemmas.Bool.{cases_eq, false≢true}

pub no_less : (members : List ℕ) → ((i j : ℕ) → i < j → j < length members → slice_index members i < slice_index members j) → (i j : ℕ) → i ≤ j → j < length members → get_or members i 0 ≤ get_or members j 0
no_less members up i j le l = ⊎_elim (λ e. omega (arith, ap (λ k. get_or members k 0) e)) (λ n. omega (arith, up i j (omega (arith, le, n)) l)) (cases_eq i j)

side : (k i : ℕ) → (k < i) ⊎ (i ≤ k)
side k zero = inr (omega arith)
side zero (suc i) = inl (omega arith)
side (suc k) (suc i) = ⊎_elim (λ l. inl (omega (arith, l))) (λ l. inr (omega (arith, l))) (side k i)

pub is_found : (members : List ℕ) (v : ℕ) (r : Result ℕ ℕ) → ((i j : ℕ) → i < j → j < length members → slice_index members i < slice_index members j) → IsBinarySearchResult (λ y. nat_cmp y v) members r →
    (IsTrue (is_ok r) → Contains members v) × (Contains members v → IsTrue (is_ok r))
is_found members v (Ok i) up h =
    let f = searched members v (Ok i) h (no_less members up) in
    ((λ _. (i, f.0, get_or_default_zero members i v f.0 ∙ f.1)), λ _. refl)
is_found members v (Err i) up h =
    let f = searched members v (Err i) h (no_less members up) in
    ((λ e. absurd (false≢true e)), λ c. absurd (no f c))
  where
    no : (i ≤ length members) × ((k : ℕ) → k < i → get_or members k 0 < v) × ((k : ℕ) → i ≤ k → k < length members → v < get_or members k 0) → Contains members v → ⊥
    no f c =
        let e : get_or members c.0 0 ≡ v = sym (get_or_default_zero members c.0 v c.1) ∙ c.2 in
        ⊎_elim (λ l. omega (arith, f.1 c.0 l, e)) (λ l. omega (arith, f.2 c.0 l c.1, e)) (side c.0 i)
