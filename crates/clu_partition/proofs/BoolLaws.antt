-- Laws of tests.
use Rattle.std.proofs.Common.{◌≡◌, ◌≢◌, ℕ, ⊎_elim, Bool, true, false, ◌==◌, ◌&&◌, ◌||◌, refl, sym, ap, ◌∙◌}
use Rattle.std.proofs.lemmas.Bool.{eq-eqb, ne_eqb, cases_eq}

pub or_turn : (x y : Bool) → (x || y) ≡ (y || x)
or_turn true true = refl
or_turn true false = refl
or_turn false true = refl
or_turn false false = refl

pub or_false : (x : Bool) → (x || false) ≡ x
or_false true = refl
or_false false = refl

-- a number is at most one of two that differ
pub not_both : (a x z : ℕ) → x ≢ z → ((a == x) && (a == z)) ≡ false
not_both a x z d = ⊎_elim
    (λ e. ap (λ k. k && (a == z)) (eq-eqb a x e) ∙ ne_eqb a z (λ f. d (sym e ∙ f)))
    (λ n. ap (λ k. k && (a == z)) (ne_eqb a x n))
    (cases_eq a x)
