-- Weak duality: no partition that divides no group and joins no apart pair has a value above the leaf bound.
use Rattle.std.proofs.Common.{◌≡◌, ℕ, ℤ, pos, negsuc, ◌*◌, ◌/◌, ◌≤◌, ◌<◌, ◌+ℤ◌, ◌-ℤ◌, ◌*ℤ◌, ◌≤ℤ◌, List, [], ◌∷◌, length, filter, cond, min, Bool, true, false, not, ◌&&◌, refl, ◌∙◌, arith, suc, ◌==◌, le-div_iff_mul-le, div-lt_iff_lt-mul}
use Rattle.std.proofs.lemmas.Int.{ints}
use Rattle.std.proofs.lemmas.Bool.{ne_eqb, true≢false}
use Rattle.clu_partition.specs.Sums.{total, pair_total, cross_total, only_if, positive}
use Rattle.clu_partition.specs.Values.{value_on}
use Rattle.clu_partition.specs.Groups.{leaders, between}
use Rattle.clu_rows.specs.Rows.{indicator, TwoSet, names_group, sign, coefficient, priced, row_limit, excess, floor_div, bound_of_rows}
use Rattle.clu_partition.proofs.SumLaws.{Each, Among, Rising, total_cong, total_le, total_add, total_zero, pair_cong_on, pair_le, pair_add, pair_scale, pair_swap, scale_le}
use Rattle.clu_rows.proofs.TwoSets.{TwoSets, two_sets, joined_sym}
use Rattle.clu_state.proofs.Class.{Respects}
use Rattle.clu_partition.proofs.Regroup.{AreGroups, value_split, leaders_rising, only_if_total}
use Rattle.clu_partition.proofs.ListLaws.{every, each_among}
use Rattle.clu_rows.proofs.NameCounts.{names_count, length_is}

-- ---- the sum of a row's coefficients over the pairs that share a block
in_s : (f : ℕ → ℤ) (x : ℕ) (ss ts : List ℕ) (e s t : Bool) (rest : ℤ) → f x ≡ only_if e (pos 1) → (s && t) ≡ false → rest +ℤ total f ss ≡ total f ts →
    (only_if e (sign true false s t) +ℤ rest) +ℤ total f (cond s (x ∷ ss) ss) ≡ total f (cond t (x ∷ ts) ts)
in_s f x ss ts e true true rest k d h = absurd (cc)
in_s f x ss ts true true false rest k d h = omega (arith, ints, k, h)
in_s f x ss ts false true false rest k d h = omega (arith, ints, k, h)
in_s f x ss ts true false true rest k d h = omega (arith, ints, k, h)
in_s f x ss ts false false true rest k d h = omega (arith, ints, k, h)
in_s f x ss ts true false false rest k d h = omega (arith, ints, k, h)
in_s f x ss ts false false false rest k d h = omega (arith, ints, k, h)

in_t : (f : ℕ → ℤ) (x : ℕ) (ss ts : List ℕ) (e s t : Bool) (rest : ℤ) → f x ≡ only_if e (pos 1) → (s && t) ≡ false → rest +ℤ total f ts ≡ total f ss →
    (only_if e (sign false true s t) +ℤ rest) +ℤ total f (cond t (x ∷ ts) ts) ≡ total f (cond s (x ∷ ss) ss)
in_t f x ss ts e true true rest k d h = absurd (cc)
in_t f x ss ts true true false rest k d h = omega (arith, ints, k, h)
in_t f x ss ts false true false rest k d h = omega (arith, ints, k, h)
in_t f x ss ts true false true rest k d h = omega (arith, ints, k, h)
in_t f x ss ts false false true rest k d h = omega (arith, ints, k, h)
in_t f x ss ts true false false rest k d h = omega (arith, ints, k, h)
in_t f x ss ts false false false rest k d h = omega (arith, ints, k, h)

only_if_zero : (b : Bool) → only_if b (pos 0) ≡ pos 0
only_if_zero true = refl
only_if_zero false = refl

-- one pair's part in the sum of a row over a partition
abbrev signed : (ℕ → ℕ) → (ℕ → Bool) → (ℕ → Bool) → ℕ → ℕ → ℤ
signed label s t a b = only_if (label a == label b) (sign (s a) (t a) (s b) (t b))

row_in_s : (label : ℕ → ℕ) (s t : ℕ → Bool) (a : ℕ) (xs : List ℕ) → Each (λ x. (s x && t x) ≡ false) xs →
    total (λ b. only_if (label a == label b) (sign true false (s b) (t b))) xs +ℤ total (indicator label a) (filter s xs) ≡ total (indicator label a) (filter t xs)
row_in_s label s t a [] d = refl
row_in_s label s t a (x ∷ xs) d = in_s (indicator label a) x (filter s xs) (filter t xs) (label a == label x) (s x) (t x) _ refl d.0 (row_in_s label s t a xs d.1)

row_in_t : (label : ℕ → ℕ) (s t : ℕ → Bool) (a : ℕ) (xs : List ℕ) → Each (λ x. (s x && t x) ≡ false) xs →
    total (λ b. only_if (label a == label b) (sign false true (s b) (t b))) xs +ℤ total (indicator label a) (filter t xs) ≡ total (indicator label a) (filter s xs)
row_in_t label s t a [] d = refl
row_in_t label s t a (x ∷ xs) d = in_t (indicator label a) x (filter s xs) (filter t xs) (label a == label x) (s x) (t x) _ refl d.0 (row_in_t label s t a xs d.1)

row_in_none : (label : ℕ → ℕ) (s t : ℕ → Bool) (a : ℕ) (xs : List ℕ) →
    total (λ b. only_if (label a == label b) (sign false false (s b) (t b))) xs ≡ pos 0
row_in_none label s t a xs = total_cong (λ b. only_if (label a == label b) (sign false false (s b) (t b))) (λ _. pos 0) xs (λ b. only_if_zero (label a == label b)) ∙ total_zero xs

pairs_step : (label : ℕ → ℕ) (s t : ℕ → Bool) (a : ℕ) (xs : List ℕ) (sa ta : Bool) → (sa && ta) ≡ false → Each (λ x. (s x && t x) ≡ false) xs →
    pair_total (signed label s t) xs +ℤ pair_total (indicator label) (filter s xs) +ℤ pair_total (indicator label) (filter t xs) ≡ cross_total (indicator label) (filter s xs) (filter t xs) →
    (total (λ b. only_if (label a == label b) (sign sa ta (s b) (t b))) xs +ℤ pair_total (signed label s t) xs) +ℤ pair_total (indicator label) (cond sa (a ∷ filter s xs) (filter s xs)) +ℤ pair_total (indicator label) (cond ta (a ∷ filter t xs) (filter t xs))
    ≡ cross_total (indicator label) (cond sa (a ∷ filter s xs) (filter s xs)) (cond ta (a ∷ filter t xs) (filter t xs))
pairs_step label s t a xs true true d all h = absurd (cc)
pairs_step label s t a xs true false d all h = let k = row_in_s label s t a xs all in omega (arith, ints, h, k)
pairs_step label s t a xs false true d all h =
    let k = row_in_t label s t a xs all in
    let e = total_add (λ x. indicator label x a) (λ x. total (indicator label x) (filter t xs)) (filter s xs) in
    let f = total_cong (λ x. indicator label x a) (indicator label a) (filter s xs) (λ x. joined_sym label x a) in
    omega (arith, ints, h, k, e, f)
pairs_step label s t a xs false false d all h = let k = row_in_none label s t a xs in omega (arith, ints, h, k)

-- the sum of a row over a partition is that across less those inside
pub signed_total : (label : ℕ → ℕ) (s t : ℕ → Bool) (xs : List ℕ) → Each (λ x. (s x && t x) ≡ false) xs →
    pair_total (signed label s t) xs +ℤ pair_total (indicator label) (filter s xs) +ℤ pair_total (indicator label) (filter t xs) ≡ cross_total (indicator label) (filter s xs) (filter t xs)
signed_total label s t [] d = refl
signed_total label s t (x ∷ xs) d = pairs_step label s t x xs (s x) (t x) d.0 d.1 (signed_total label s t xs d.1)

-- ---- how many groups a list names
named : (group : ℕ → ℕ) (vs xs : List ℕ) → Rising xs → length (filter (names_group group vs) xs) ≤ length vs
named group vs xs r = let h = names_count group vs xs r in let k = length_is (names_group group vs) xs in omega (arith, ints, h, k)

-- no group is named in both lists of a row
abbrev pub Disjoint : (ℕ → ℕ) → List ℕ → TwoSet → Type 0
Disjoint group groups r = Each (λ x. (names_group group r.s x && names_group group r.t x) ≡ false) groups

-- the sum of a row's coefficients over the pairs of groups that share a block is at most the shorter list's length
pub row_holds : (label group : ℕ → ℕ) (groups : List ℕ) (r : TwoSet) → Rising groups → Disjoint group groups r →
    pair_total (λ a b. only_if (label a == label b) (coefficient group r a b)) groups ≤ℤ pos (min (length r.s) (length r.t))
unfolding TwoSets
row_holds label group groups r up d =
    let k = signed_total label (names_group group r.s) (names_group group r.t) groups d in
    let h = two_sets label (filter (names_group group r.s) groups) (filter (names_group group r.t) groups) in
    let i = named group r.s groups up in
    let j = named group r.t groups up in
    omega (arith, ints, k, h, i, j)

-- ---- all rows
only_if_scale : (b : Bool) (k : ℕ) (z : ℤ) → only_if b (pos k *ℤ z) ≡ pos k *ℤ only_if b z
only_if_scale true k z = refl
only_if_scale false k z = omega (arith, ints)

rows_hold : (label group : ℕ → ℕ) (groups : List ℕ) (rows : List TwoSet) → Rising groups → Each (Disjoint group groups) rows →
    pair_total (λ a b. only_if (label a == label b) (priced group rows a b)) groups ≤ℤ row_limit rows
rows_hold label group groups rows up d =
    let one = pair_cong_on (λ a b. only_if (label a == label b) (priced group rows a b)) (λ a b. total (λ r. only_if (label a == label b) (pos r.y *ℤ coefficient group r a b)) rows) (λ _. Unit {0}) groups (every groups)
    (λ a b _ _. only_if_total (label a == label b) (λ r. pos r.y *ℤ coefficient group r a b) rows) in
    let two = pair_swap (λ (r : TwoSet) a b. only_if (label a == label b) (pos r.y *ℤ coefficient group r a b)) rows groups in
    let three = total_cong (λ (r : TwoSet). pair_total (λ a b. only_if (label a == label b) (pos r.y *ℤ coefficient group r a b)) groups) (λ r. pos r.y *ℤ pair_total (λ a b. only_if (label a == label b) (coefficient group r a b)) groups) rows
    (λ r. pair_cong_on (λ a b. only_if (label a == label b) (pos r.y *ℤ coefficient group r a b)) (λ a b. pos r.y *ℤ only_if (label a == label b) (coefficient group r a b)) (λ _. Unit {0}) groups (every groups) (λ a b _ _. only_if_scale (label a == label b) r.y (coefficient group r a b)) ∙
    pair_scale r.y (λ a b. only_if (label a == label b) (coefficient group r a b)) groups) in
    let four = total_le (λ (r : TwoSet). pos r.y *ℤ pair_total (λ a b. only_if (label a == label b) (coefficient group r a b)) groups) (λ r. pos r.y *ℤ pos (min (length r.s) (length r.t))) (Disjoint group groups) rows d
    (λ r e. scale_le r.y _ _ (row_holds label group groups r up e)) in
    omega (arith, ints, one, two, three, four)

-- ---- the bound
positive_most : (z : ℤ) → z ≤ℤ pos (positive z)
positive_most (pos n) = omega (arith, ints)
positive_most (negsuc n) = omega (arith, ints)

cover : (x a : Bool) (n : ℕ) (z q : ℤ) → (a ≡ true → x ≡ false) → (pos n *ℤ only_if x z) ≤ℤ (only_if (not a) (pos (positive (pos n *ℤ z -ℤ q))) +ℤ only_if x q)
cover true true n z q h = absurd (true≢false (h refl))
cover true false n z q h = let k = positive_most (pos n *ℤ z -ℤ q) in omega (arith, ints, k)
cover false true n z q h = omega (arith, ints)
cover false false n z q h = omega (arith, ints)

floor_holds : (d : ℕ) (z n : ℤ) → 0 < d → (pos d *ℤ z) ≤ℤ n → z ≤ℤ floor_div n d
floor_holds d (pos k) (pos n) p h =
    let l : k * d ≤ n = omega (arith, ints) in
    let i : k ≤ n / d = (le-div_iff_mul-le p).1 l in
    omega (arith, ints, i)
floor_holds d (pos k) (negsuc n) p h = absurd (omega (arith, ints))
floor_holds d (negsuc k) (pos n) p h = omega (arith, ints)
floor_holds d (negsuc k) (negsuc n) p h =
    let l : n < suc k * d = omega (arith, ints) in
    let i : n / d < suc k = (div-lt_iff_lt-mul p).1 l in
    omega (arith, ints, i)

pub weak_duality : (w : ℕ → ℕ → ℤ) → ((u v : ℕ) → w u v ≡ w v u) → (label group : ℕ → ℕ) (apart : ℕ → ℕ → Bool) (members : List ℕ) (den : ℕ) (rows : List TwoSet) →
    AreGroups group members → Respects label group apart members → 0 < den → Each (Disjoint group (leaders group members)) rows →
    value_on w label members ≤ℤ bound_of_rows w group apart members den rows
weak_duality w s label group apart members den rows g p d all =
    let l = leaders group members in
    let b = between w group members in
    let split = value_split w s label group members g p.keeps in
    let one = pair_scale den (λ a b. only_if (label a == label b) (between w group members a b)) l in
    let two = pair_le (λ a b. pos den *ℤ only_if (label a == label b) (between w group members a b))
    (λ a b. only_if (not (apart a b)) (pos (positive (pos den *ℤ between w group members a b -ℤ priced group rows a b))) +ℤ only_if (label a == label b) (priced group rows a b))
    (λ a. Among a l) l (each_among l)
    (λ a b i j. cover (label a == label b) (apart a b) den (between w group members a b) (priced group rows a b) (λ e. ne_eqb (label a) (label b) (p.parts a b i j e))) in
    let three = pair_add (λ a b. only_if (not (apart a b)) (pos (positive (pos den *ℤ between w group members a b -ℤ priced group rows a b)))) (λ a b. only_if (label a == label b) (priced group rows a b)) l in
    let four = rows_hold label group l rows (leaders_rising group members g) all in
    let five : (pos den *ℤ value_on b label l) ≤ℤ (row_limit rows +ℤ excess w group apart members den rows) = omega (arith, ints, one, two, three, four) in
    let six = floor_holds den (value_on b label l) (row_limit rows +ℤ excess w group apart members den rows) d five in
    omega (arith, ints, split, six)
