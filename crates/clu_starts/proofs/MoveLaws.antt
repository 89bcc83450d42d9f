-- What moving a set of vertices is worth.
use Rattle.std.proofs.Common.{◌≡◌, ℕ, ℤ, pos, ◌+ℤ◌, List, Bool, true, false, not, refl, sym, ap, ◌∙◌, arith, ◌==◌, if◌then◌else◌}
use Rattle.std.proofs.lemmas.Int.{ints}
use Rattle.std.proofs.lemmas.Bool.{eqb-true}
use Rattle.clu_partition.specs.Sums.{total, pair_total, cross_total, only_if}
use Rattle.clu_partition.specs.Values.{value_on}
use Rattle.clu_partition.proofs.SumLaws.{Each, total_cong, total_add, total_swap, total_zero, pair_add, pair_cong_on, square_is, only_same}
use Rattle.clu_partition.proofs.PartLaws.{turned}
use Rattle.clu_starts.specs.Settled.{moved}
use Rattle.clu_starts.specs.Row.{beyond, weights_from, row_weight}

-- the weight of u and v where u is in the set, and v outside it with the label c
abbrev pub leaves : (ℕ → ℕ → ℤ) → (ℕ → ℕ) → ℕ → (ℕ → ℕ) → ℕ → ℕ → ℕ → ℤ
leaves w key a label c u v = only_if (key u == a) (beyond w key a label c u v)

-- the same, by the tests
abbrev out : Bool → Bool → ℕ → ℕ → ℤ → ℤ
out p q lv c z = only_if p (only_if (not q) (only_if (lv == c) z))

point : (p q : Bool) (lu lv b c : ℕ) (z y : ℤ) → y ≡ z → (p ≡ true → lu ≡ b) → (q ≡ true → lv ≡ b) →
    only_if ((if p then c else lu) == (if q then c else lv)) z +ℤ (out p q lv b z +ℤ out q p lu b y)
    ≡ only_if (lu == lv) z +ℤ (out p q lv c z +ℤ out q p lu c y)
point true true lu lv b c z y e f g =
    let h = only_same c c z refl in
    let k = only_same lu lv z (f refl ∙ sym (g refl)) in
    omega (arith, ints, h, k)
point true false lu lv b c z y e f g =
    let h = turned c lv z in
    let k = ap (λ t. only_if (t == lv) z) (f refl) ∙ turned b lv z in
    omega (arith, ints, h, k)
point false true lu lv b c z y e f g =
    let k = ap (λ t. only_if (lu == t) z) (g refl) in
    let m = ap (λ t. only_if (lu == b) t) e in
    let n = ap (λ t. only_if (lu == c) t) e in
    omega (arith, ints, k, m, n)
point false false lu lv b c z y e f g = refl

-- the sum over pairs of what leaves in either direction is the row
none_alone : (w : ℕ → ℕ → ℤ) (key : ℕ → ℕ) (a : ℕ) (label : ℕ → ℕ) (c u : ℕ) → leaves w key a label c u u ≡ pos 0
none_alone w key a label c u = by (key u == a) (only_if (label u == c) (w u u))
  where
    by : (p : Bool) (z : ℤ) → only_if p (only_if (not p) z) ≡ pos 0
    by true z = refl
    by false z = refl

only_total : (b : Bool) (f : ℕ → ℤ) (xs : List ℕ) → total (λ x. only_if b (f x)) xs ≡ only_if b (total f xs)
only_total true f xs = refl
only_total false f xs = total_zero xs

row_is : (w : ℕ → ℕ → ℤ) (key : ℕ → ℕ) (a : ℕ) (label : ℕ → ℕ) (c : ℕ) (vs : List ℕ) →
    cross_total (leaves w key a label c) vs vs ≡ row_weight w key a label c vs
row_is w key a label c vs = total_cong (λ u. total (leaves w key a label c u) vs) (weights_from w key a label c vs) vs
    (λ u. only_total (key u == a) (beyond w key a label c u) vs)

pub both_ways : (w : ℕ → ℕ → ℤ) (key : ℕ → ℕ) (a : ℕ) (label : ℕ → ℕ) (c : ℕ) (vs : List ℕ) →
    pair_total (λ u v. leaves w key a label c u v +ℤ leaves w key a label c v u) vs ≡ row_weight w key a label c vs
both_ways w key a label c vs =
    let f : (ℕ → ℕ → ℤ) = leaves w key a label c in
    let s = square_is (λ u v. f u v +ℤ f v u) (λ u v. let i = f u v in let j = f v u in omega (arith, ints)) vs in
    let d = total_cong (λ u. f u u +ℤ f u u) (λ _. pos 0) vs (λ u. let h = none_alone w key a label c u in omega (arith, ints, h)) in
    let z = total_zero {A = ℕ} vs in
    let x = total_cong (λ u. total (λ v. f u v +ℤ f v u) vs) (λ u. total (f u) vs +ℤ total (λ v. f v u) vs) vs (λ u. total_add (f u) (λ v. f v u) vs) in
    let y = total_add (λ u. total (f u) vs) (λ u. total (λ v. f v u) vs) vs in
    let t = total_swap f vs vs in
    let r = row_is w key a label c vs in
    omega (arith, ints, s, d, z, x, y, t, r)

-- what a move is worth: the weights at the new label less those at the old one
pub move_worth : (w : ℕ → ℕ → ℤ) → ((u v : ℕ) → w u v ≡ w v u) → (key : ℕ → ℕ) (a : ℕ) (label : ℕ → ℕ) (b c : ℕ) (P : ℕ → Type 0) (vs : List ℕ) →
    Each P vs → ((u : ℕ) → P u → key u ≡ a → label u ≡ b) →
    value_on w (moved key a c label) vs +ℤ row_weight w key a label b vs ≡ value_on w label vs +ℤ row_weight w key a label c vs
move_worth w sy key a label b c P vs all one =
    let f : (ℕ → ℕ → ℤ) = λ u v. only_if (moved key a c label u == moved key a c label v) (w u v) in
    let g : (ℕ → ℕ → ℤ) = λ u v. only_if (label u == label v) (w u v) in
    let x : ((c u v : ℕ) → ℤ) = λ c u v. leaves w key a label c u v +ℤ leaves w key a label c v u in
    let e = pair_cong_on (λ u v. f u v +ℤ x b u v) (λ u v. g u v +ℤ x c u v) P vs all
    (λ u v p q. point (key u == a) (key v == a) (label u) (label v) b c (w u v) (w v u) (sy v u) (λ t. one u p (eqb-true (key u) a t)) (λ t. one v q (eqb-true (key v) a t))) in
    let i = pair_add f (x b) vs in
    let j = pair_add g (x c) vs in
    let k = both_ways w key a label b vs in
    let l = both_ways w key a label c vs in
    omega (arith, ints, e, i, j, k, l)
