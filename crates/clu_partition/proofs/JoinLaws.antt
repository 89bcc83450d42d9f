-- Laws of the pairs that join groups.
use Rattle.std.proofs.Common.{◌≡◌, ℕ, ◌<◌, ◌⊎◌, inl, inr, ⊎_elim, List, [], ◌∷◌, get_or, Contains, refl, ap, ◌∙◌, subst, arith, zero, suc, true, ◌==◌, ◌&&◌, ◌||◌}
use Rattle.std.proofs.lemmas.Bool.{eq-eqb, and_from, or_left, or_right}
use Rattle.std.proofs.lemmas.List.Elements.{Contains-append_cases}
use Rattle.clu_partition.specs.Closed.{joins}
use Rattle.clu_partition.proofs.BoolLaws.{or_turn}

one_is : {A : Type 0} (x y : A) (k : ℕ) → k < 1 → get_or (x ∷ []) k y ≡ y → x ≡ y
one_is x y zero l e = e
one_is x y (suc k) l e = absurd (omega arith)

pub front_or_rest : {A : Type 0} (x : A) (xs : List A) (y : A) → Contains (x ∷ xs) y → (x ≡ y) ⊎ Contains xs y
front_or_rest x xs y c = ⊎_elim (λ h. inl (one_is x y h.0 h.1 h.2)) (λ r. inr r) (Contains-append_cases (x ∷ []) xs y c)

joins_front : (group : ℕ → ℕ) (p : ℕ × ℕ) (ps : List (ℕ × ℕ)) → joins group (p ∷ ps) p.0 p.1 ≡ true
joins_front group p ps = or_left _ _ (or_left _ _ (and_from _ _ (eq-eqb (group p.0) (group p.0) refl) (eq-eqb (group p.1) (group p.1) refl)))

pub joins_listed : (group : ℕ → ℕ) (ps : List (ℕ × ℕ)) (p : ℕ × ℕ) → Contains ps p → joins group ps p.0 p.1 ≡ true
joins_listed group [] p c = absurd (omega (arith, c.1))
joins_listed group (q ∷ ps) p c = ⊎_elim
    (λ e. subst (λ r. joins group (q ∷ ps) r.0 r.1 ≡ true) e (joins_front group q ps))
    (λ r. or_right _ _ (joins_listed group ps p r))
    (front_or_rest q ps p c)

pub joins_same : (group : ℕ → ℕ) (ps : List (ℕ × ℕ)) (a b x y : ℕ) → group a ≡ group x → group b ≡ group y → joins group ps a b ≡ joins group ps x y
joins_same group [] a b x y e f = refl
joins_same group (p ∷ ps) a b x y e f =
    ap (λ k. group p.0 == k && group p.1 == group b || group p.0 == group b && group p.1 == k || joins group ps a b) e ∙
    ap (λ k. group p.0 == group x && group p.1 == k || group p.0 == k && group p.1 == group x || joins group ps a b) f ∙
    ap (λ k. group p.0 == group x && group p.1 == group y || group p.0 == group y && group p.1 == group x || k) (joins_same group ps a b x y e f)

pub joins_turn : (group : ℕ → ℕ) (ps : List (ℕ × ℕ)) (a b : ℕ) → joins group ps a b ≡ joins group ps b a
joins_turn group [] a b = refl
joins_turn group (p ∷ ps) a b =
    ap (λ k. k || joins group ps a b) (or_turn (group p.0 == group a && group p.1 == group b) (group p.0 == group b && group p.1 == group a)) ∙
    ap (λ k. (group p.0 == group b && group p.1 == group a || group p.0 == group a && group p.1 == group b) || k) (joins_turn group ps a b)
