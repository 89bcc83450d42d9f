-- For every partition the pairs across two lists of groups exceed those inside them by at most the shorter length.
use Rattle.std.proofs.Common.{◌≡◌, ℕ, pos, ◌≢◌, ◌⊎◌, inl, inr, ⊎_elim, ◌+ℤ◌, ◌≤ℤ◌, List, [], ◌∷◌, length, min, Bool, true, false, sym, ap, ◌∙◌, arith, ◌==◌}
use Rattle.std.proofs.lemmas.Int.{ints}
use Rattle.std.proofs.lemmas.Bool.{eq-eqb, ne_eqb, cases_eq}
use Rattle.clu_partition.specs.Sums.{total, pair_total, cross_total, only_if}
use Rattle.clu_rows.specs.Rows.{indicator, TwoSetHolds}
use Rattle.clu_partition.proofs.TakeOut.{Splice, here, there, splice_length, splice_total, splice_pairs}
use Rattle.clu_partition.proofs.SumLaws.{Each, total_cong, total_add, total_zero, total_cong_on}

-- one of the list with the label c, or none
Mate : (ℕ → ℕ) → ℕ → List ℕ → Type 0
Mate label c l = (t : ℕ) × (r : List ℕ) × Splice t r l × (c ≡ label t)

mate : (label : ℕ → ℕ) (c : ℕ) (l : List ℕ) → Mate label c l ⊎ Each (λ t. c ≢ label t) l
unfolding Mate
mate label c [] = inr tt
mate label c (x ∷ xs) = ⊎_elim
    (λ e. inl (x, xs, here, e))
    (λ n. ⊎_elim (λ m. inl (m.0, (x ∷ m.1), there m.2, m.3)) (λ all. inr (n, all)) (mate label c xs))
    (cases_eq c (label x))

same_one : (label : ℕ → ℕ) (a b : ℕ) → label a ≡ label b → indicator label a b ≡ pos 1
same_one label a b e = ap (λ t. only_if t (pos 1)) (eq-eqb (label a) (label b) e)

differ_none : (label : ℕ → ℕ) (a b : ℕ) → label a ≢ label b → indicator label a b ≡ pos 0
differ_none label a b n = ap (λ t. only_if t (pos 1)) (ne_eqb (label a) (label b) n)

pub joined_sym : (label : ℕ → ℕ) (a b : ℕ) → indicator label a b ≡ indicator label b a
joined_sym label a b = ⊎_elim
    (λ e. same_one label a b e ∙ sym (same_one label b a (sym e)))
    (λ n. differ_none label a b n ∙ sym (differ_none label b a (λ e. n (sym e))))
    (cases_eq (label a) (label b))

joined_like : (label : ℕ → ℕ) (a b x : ℕ) → label a ≡ label b → indicator label a x ≡ indicator label b x
joined_like label a b x e = ap (λ c. only_if (c == label x) (pos 1)) e

only_if_least : (b : Bool) → pos 0 ≤ℤ only_if b (pos 1)
only_if_least true = omega (arith, ints)
only_if_least false = omega (arith, ints)

joined_total_least : (label : ℕ → ℕ) (a : ℕ) (xs : List ℕ) → pos 0 ≤ℤ total (indicator label a) xs
joined_total_least label a [] = omega (arith, ints)
joined_total_least label a (x ∷ xs) =
    let h = joined_total_least label a xs in
    let k = only_if_least (label a == label x) in
    omega (arith, ints, h, k)

unfoldable pub TwoSets : (ℕ → ℕ) → List ℕ → List ℕ → Type 0
TwoSets label s t = cross_total (indicator label) s t ≤ℤ (pair_total (indicator label) s +ℤ pair_total (indicator label) t +ℤ pos (min (length s) (length t)))

pairs_least : (label : ℕ → ℕ) (xs : List ℕ) → pos 0 ≤ℤ pair_total (indicator label) xs
pairs_least label [] = omega (arith, ints)
pairs_least label (x ∷ xs) =
    let h = pairs_least label xs in
    let k = joined_total_least label x xs in
    omega (arith, ints, h, k)

with_mate : (label : ℕ → ℕ) (s : ℕ) (ss ts : List ℕ) (t : ℕ) (r : List ℕ) → Splice t r ts → label s ≡ label t → TwoSets label ss r → TwoSets label (s ∷ ss) ts
unfolding TwoSets
with_mate label s ss ts t r sp e h =
    let f = indicator label in
    let one = same_one label s t e in
    let row = splice_total (indicator label s) sp in
    let cross = total_cong (λ x. total (indicator label x) ts) (λ x. indicator label x t +ℤ total (indicator label x) r) ss (λ x. splice_total (indicator label x) sp) in
    let split = total_add (λ x. indicator label x t) (λ x. total (indicator label x) r) ss in
    let col = total_cong (λ x. indicator label x t) (indicator label s) ss (λ x. joined_sym label x t ∙ sym (joined_like label s t x e)) in
    let rest = total_cong (indicator label s) (indicator label t) r (λ x. joined_like label s t x e) in
    let pairs = splice_pairs (indicator label) (joined_sym label) t sp in
    let len = splice_length sp in
    omega (arith, ints, one, row, cross, split, col, rest, pairs, len, h)

no_mate : (label : ℕ → ℕ) (s : ℕ) (ss ts : List ℕ) → Each (λ t. label s ≢ label t) ts → TwoSets label ss ts → TwoSets label (s ∷ ss) ts
unfolding TwoSets
no_mate label s ss ts all h =
    let row = total_cong_on (indicator label s) (λ _. pos 0) (λ t. label s ≢ label t) ts all (λ t n. differ_none label s t n) in
    let z = total_zero ts in
    let k = joined_total_least label s ss in
    omega (arith, ints, row, z, k, h)

pub two_sets : (label : ℕ → ℕ) (s t : List ℕ) → TwoSets label s t
unfolding TwoSets Mate
two_sets label [] t = let h = pairs_least label t in omega (arith, ints, h)
two_sets label (s ∷ ss) t = ⊎_elim
    (λ m. with_mate label s ss t m.0 m.1 m.2 m.3 (two_sets label ss m.1))
    (λ all. no_mate label s ss t all (two_sets label ss t))
    (mate label (label s) t)

pub two_sets_hold : (label : ℕ → ℕ) (s t : List ℕ) → TwoSetHolds label s t
unfolding TwoSets
two_sets_hold label s t = two_sets label s t
