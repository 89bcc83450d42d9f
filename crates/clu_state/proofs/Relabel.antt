-- The loop that takes the members of a group over to another one.
use Rattle.std.proofs.Common.{◌≡◌, ◌≢◌, ◌⊎◌, inl, inr, ⊎_elim, ℕ, ◌+◌, ◌<◌, List, length, slice_index, get_or, set, Contains, All, EachIndex, Bool, true, false, refl, sym, ap, ◌∙◌, subst, arith, ◌==◌, if◌then◌else◌, get_or-set_same, get_or-set_other}
use Rattle.std.proofs.Math.ListN.{length-set}
use Rattle.std.proofs.lemmas.Bool.{cases_eq, eq-eqb, ne_eqb, eqb-true, eqb-false}
use Rattle.std.proofs.lemmas.List.Elements.{All-contains}
use Rattle.std.proofs.lemmas.Grind.{get_or_default_zero}
use Rattle.clu_partition.proofs.TieLaws.{over}

-- the first j members have gone over
pub record OverBelow (members old now : List ℕ) (low high j : ℕ) : Type 0 where
  pub size : length now ≡ length old
  pub done : (k : ℕ) → k < j → slice_index now (slice_index members k) ≡ over low high (slice_index old (slice_index members k))
  pub either : (x : ℕ) → (slice_index now x ≡ over low high (slice_index old x)) ⊎ (slice_index now x ≡ slice_index old x)

goes : (low high g : ℕ) → g ≡ high → over low high g ≡ low
goes low high g e = ap (λ b. if b then low else g) (eq-eqb g high e)

remains : (low high g : ℕ) → g ≢ high → over low high g ≡ g
remains low high g n = ap (λ b. if b then low else g) (ne_eqb g high n)

pub over_next : (members old now : List ℕ) (low high j : ℕ) → slice_index members j < length old → slice_index now (slice_index members j) ≡ high →
    OverBelow members old now low high j → OverBelow members old (set now (slice_index members j) low) low high (j + 1)
over_next members old now low high j l e m = record {
  size = length-set now (slice_index members j) low ∙ m.size;
  done = λ k i. ⊎_elim
      (λ f. subst (λ x. slice_index (set now (slice_index members j) low) x ≡ over low high (slice_index old x)) (sym f) (here ∙ sym at_v))
      (λ d. there (slice_index members k) d ∙ m.done k (let n : k ≢ j = λ f. d (ap (slice_index members) f) in omega (arith, i, n)))
      (cases_eq (slice_index members k) (slice_index members j));
  either = λ x. ⊎_elim
      (λ f. inl (subst (λ y. slice_index (set now (slice_index members j) low) y ≡ over low high (slice_index old y)) (sym f) (here ∙ sym at_v)))
      (λ d. ⊎_elim (λ f. inl (there x d ∙ f)) (λ f. inr (there x d ∙ f)) (m.either x))
      (cases_eq x (slice_index members j));
}
  where
    here : slice_index (set now (slice_index members j) low) (slice_index members j) ≡ low
    here = let i : slice_index members j < length now = let s = m.size in omega (arith, s, l) in rw get_or-set_same refl

    there : (x : ℕ) → x ≢ slice_index members j → slice_index (set now (slice_index members j) low) x ≡ slice_index now x
    there x d = rw get_or-set_other refl

    at_v : over low high (slice_index old (slice_index members j)) ≡ low
    at_v = ⊎_elim
        (λ f. goes low high (slice_index old (slice_index members j)) f)
        (λ d. absurd (⊎_elim
        (λ h. d (sym (remains low high (slice_index old (slice_index members j)) d) ∙ sym h ∙ e))
        (λ h. d (sym h ∙ e))
        (m.either (slice_index members j))))
        (cases_eq (slice_index old (slice_index members j)) high)

pub stay_next : (members old now : List ℕ) (low high j : ℕ) → slice_index now (slice_index members j) ≢ high →
    OverBelow members old now low high j → OverBelow members old now low high (j + 1)
stay_next members old now low high j n m = record {
  size = m.size;
  done = λ k i. ⊎_elim
      (λ f. subst (λ x. slice_index now (slice_index members x) ≡ over low high (slice_index old (slice_index members x))) (sym f)
      (⊎_elim (λ h. h) (λ h. h ∙ sym (remains low high (slice_index old (slice_index members j)) (λ g. n (h ∙ g)))) (m.either (slice_index members j))))
      (λ d. m.done k (omega (arith, i, d)))
      (cases_eq k j);
  either = m.either;
}

pub over_all : (members old now : List ℕ) (low high : ℕ) → ((v : ℕ) → v < length old → slice_index old v ≡ high → Contains members v) →
    OverBelow members old now low high (length members) → EachIndex now (λ k. slice_index now k ≡ over low high (slice_index old k))
over_all members old now low high whole m = λ k i. ⊎_elim
    (λ e.
    let c = whole k (let s = m.size in omega (arith, s, i)) e in
    let f : slice_index members c.0 ≡ k = sym (get_or_default_zero members c.0 k c.1) ∙ c.2 in
    subst (λ x. slice_index now x ≡ over low high (slice_index old x)) f (m.done c.0 c.1))
    (λ d. ⊎_elim (λ h. h) (λ h. h ∙ sym (remains low high (slice_index old k) d)) (m.either k))
    (cases_eq (slice_index old k) high)

either_next : (b : Bool) (members old now : List ℕ) (low high j : ℕ) → (slice_index now (slice_index members j) == high) ≡ b → slice_index members j < length old →
    OverBelow members old now low high j → OverBelow members old (if b then set now (slice_index members j) low else now) low high (j + 1)
either_next true members old now low high j e l m = over_next members old now low high j l (eqb-true (slice_index now (slice_index members j)) high e) m
either_next false members old now low high j e l m = stay_next members old now low high j (eqb-false (slice_index now (slice_index members j)) high e) m

pub relabel_next : (members old now new : List ℕ) (low high j v : ℕ) → All (λ x. x < length old) members → j < length members → v ≡ get_or members j v →
    new ≡ (if slice_index now v == high then set now v low else now) → OverBelow members old now low high j → OverBelow members old new low high (j + 1)
relabel_next members old now new low high j v all l at' e m =
    let f : v ≡ slice_index members j = at' ∙ get_or_default_zero members j v l in
    subst (λ x. OverBelow members old x low high (j + 1))
    (sym (e ∙ ap (λ x. if slice_index now x == high then set now x low else now) f))
    (either_next (slice_index now (slice_index members j) == high) members old now low high j refl (All-contains (λ x. x < length old) members (slice_index members j) all (j, l, get_or_default_zero members j (slice_index members j) l)) m)
