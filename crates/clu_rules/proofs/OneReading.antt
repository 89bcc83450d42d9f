-- Bytes give one pair of lists.
use Rattle.std.proofs.Common.{◌≡◌, ⊎_elim, ℕ, ◌<◌, ◌≤◌, List, [], ◌∷◌, ◌++◌, Contains, refl, sym, ap, ◌∙◌, subst, arith}
use Rattle.std.proofs.lemmas.Bool.{true≢false}
use Rattle.std.proofs.lemmas.List.Elements.{All-contains, Contains-append_right}
use Rattle.std.specs.List.{enumerate_from}
use Rattle.clu_text.specs.Lines.{lines_of}
use Rattle.clu_partition.specs.Closed.{Precedes, AreRising}
use Rattle.clu_partition.proofs.JoinLaws.{front_or_rest}
use Rattle.clu_partition.proofs.SearchLaws.{irreflexive, asymmetric}
use Rattle.clu_rules.specs.Lines.{Rule}
use Rattle.clu_rules.specs.Reading.{ReadsRules, AreRules}
use Rattle.clu_rules.specs.Rules.{IsListOf, Requires, Forbids}
use Rattle.clu_rules.proofs.FormLaws.{adds_once}

-- two rising lists with the same pairs are one
pub rising_same : (xs ys : List (ℕ × ℕ)) → AreRising xs → AreRising ys → ((p : ℕ × ℕ) → Contains xs p → Contains ys p) → ((p : ℕ × ℕ) → Contains ys p → Contains xs p) → xs ≡ ys
rising_same [] [] r s f g = refl
rising_same [] (y ∷ ys) r s f g = let c = g y (0, omega arith, refl) in let l = c.1 in absurd (omega (arith, l))
rising_same (x ∷ xs) [] r s f g = let c = f x (0, omega arith, refl) in let l = c.1 in absurd (omega (arith, l))
rising_same (x ∷ xs) (y ∷ ys) r s f g = ap (λ (p : ℕ × ℕ). p ∷ xs) heads ∙ ap (λ (ps : List (ℕ × ℕ)). y ∷ ps) (rising_same xs ys r.1 s.1 forth back')
  where
    heads : x ≡ y
    heads = ⊎_elim (λ e. sym e)
        (λ c. ⊎_elim (λ e. e) (λ d. absurd (asymmetric x y (All-contains (Precedes x) xs y r.0 d) (All-contains (Precedes y) ys x s.0 c))) (front_or_rest x xs y (g y (0, omega arith, refl))))
        (front_or_rest y ys x (f x (0, omega arith, refl)))

    forth : (p : ℕ × ℕ) → Contains xs p → Contains ys p
    forth p c = ⊎_elim (λ e. absurd (irreflexive p (subst (λ k. Precedes k p) (heads ∙ e) (All-contains (Precedes x) xs p r.0 c)))) (λ d. d) (front_or_rest y ys p (f p (Contains-append_right (x ∷ []) xs p c)))

    back' : (p : ℕ × ℕ) → Contains ys p → Contains xs p
    back' p c = ⊎_elim (λ e. absurd (irreflexive p (subst (λ k. Precedes k p) (sym heads ∙ e) (All-contains (Precedes y) ys p s.0 c)))) (λ d. d) (front_or_rest x xs p (g p (Contains-append_right (y ∷ []) ys p c)))

pub list_once : (n : ℕ) (R : ℕ → ℕ → Type 0) (xs ys : List (ℕ × ℕ)) → IsListOf n R xs → IsListOf n R ys → xs ≡ ys
list_once n R xs ys a b = rising_same xs ys a.listed.rising b.listed.rising
    (λ p c. b.each p.0 p.1 (All-contains (λ q. (q.0 ≤ q.1) × (q.1 < n)) xs p a.listed.ordered c).0 (a.only p.0 p.1 c))
    (λ p c. a.each p.0 p.1 (All-contains (λ q. (q.0 ≤ q.1) × (q.1 < n)) ys p b.listed.ordered c).0 (b.only p.0 p.1 c))

module _ (named : List ℕ → ℕ → Type 0) (one : (name : List ℕ) (u v : ℕ) → named name u → named name v → u ≡ v) where
  pub reads_once : (lines : List (ℕ × List ℕ)) (earlier rules others : List Rule) → ReadsRules named lines earlier rules → ReadsRules named lines earlier others → rules ≡ others
  reads_once [] earlier rules others r s = sym r ∙ s
  reads_once (line ∷ lines) earlier rules others r s = ⊎_elim
      (λ p. ⊎_elim
      (λ q. reads_once lines earlier rules others p.1 q.1)
      (λ q. absurd (true≢false (sym q.1.kept ∙ p.0))) s)
      (λ p. ⊎_elim
      (λ q. absurd (true≢false (sym p.1.kept ∙ q.0)))
      (λ q. reads_once lines (earlier ++ p.0 ∷ []) rules others p.2
      (subst (λ (x : Rule). ReadsRules named lines (earlier ++ x ∷ []) others) (adds_once named one earlier line.1 q.0 p.0 q.1 p.1) q.2)) s)
      r

  pub one_reading : (n : ℕ) (bytes : List ℕ) (required forbidden required' forbidden' : List (ℕ × ℕ)) → AreRules n named bytes required forbidden → AreRules n named bytes required' forbidden'
      → (required' ≡ required) × (forbidden' ≡ forbidden)
  one_reading n bytes required forbidden required' forbidden' a b =
      let e = reads_once (enumerate_from 1 (lines_of bytes)) [] b.rules a.rules b.reads a.reads in (
        list_once n (Requires a.rules) required' required (subst (λ (rs : List Rule). IsListOf n (Requires rs) required') e b.required_are) a.required_are,
        list_once n (Forbids a.rules) forbidden' forbidden (subst (λ (rs : List Rule). IsListOf n (Forbids rs) forbidden') e b.forbidden_are) a.forbidden_are,
      )
