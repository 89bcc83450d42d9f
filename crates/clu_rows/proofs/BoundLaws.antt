-- What the prices leave uncovered: how large it is, pair by pair, and that it is the leaf bound's excess.
use Rattle.std.proofs.Common.{◌≡◌, ◌≢◌, ℕ, ◌<◌, ◌≤◌, ◌+◌, ◌*◌, ◌/◌, ◌^◌, ℤ, pos, ◌+ℤ◌, ◌-ℤ◌, ◌*ℤ◌, ◌≤ℤ◌, List, [], ◌∷◌, ◌++◌, length, take, drop, get_or, cond, Bool, true, false, not, ◌&&◌, ◌==◌, refl, sym, ap, ◌∙◌, subst, arith, zero, suc, unsigned_abs, FitsSigned, to_z, of_z, Contains, All, div-le_self}
use mir.Syntax.{w128}
use Rattle.std.proofs.Math.Nat.{mul-le-mul_left}
use Rattle.std.proofs.lemmas.Int.{ints}
use Rattle.std.proofs.lemmas.Bool.{eq-eqb, eqb-true, false≢true}
use Rattle.std.proofs.lemmas.List.{drop_more}
use Rattle.std.proofs.lemmas.List.Elements.{All-head, All-tail, All-cons, All-nil}
use Rattle.std.proofs.lemmas.List.Sums.{sum_by-cons}
use Rattle.clu_partition.specs.Sums.{total, pair_total, only_if, positive}
use Rattle.clu_partition.specs.Pairs.{Pairs, weight_of}
use Rattle.clu_partition.specs.Values.{value_on}
use Rattle.clu_partition.specs.Groups.{leaders, between}
use Rattle.clu_partition.proofs.SumLaws.{Each, Rising, total_cong_on, scale_le, total_front, total_next}
use Rattle.clu_partition.proofs.Regroup.{filter_total, each_filter, leaders_lead, leaders_rising}
use Rattle.clu_partition.proofs.TableLaws.{weight_sym}
use Rattle.clu_state.specs.State.{State, IsState, InClass, leader, are_apart, group_weight, group_leaders, fixed_value}
use Rattle.clu_state.proofs.Bridge.{state_are_groups, each_from, below_all}
use Rattle.clu_state.proofs.Bounds.{all_small, fixed_size, weight_small}
use Rattle.clu_rows.specs.Rows.{TwoSet, names_group, priced, row_limit, excess, floor_div, leaf_bound_of}
use Rattle.clu_rows.specs.Prices.{uncovered, uncovered_with, uncovered_all}
use Rattle.clu_rows.specs.Faults.{AreRows, IsRow, rows_mass}
use Rattle.clu_rows.proofs.HitLaws.{once_from, once_apart}
use Rattle.clu_rows.proofs.Sizes.{abs_scale, excess_small, row_worth}
use Rattle.clu_rows.proofs.FaultLaws.{two_of}
use Rattle.clu_rows.proofs.RowLaws.{product_pos, limit_most}
use Rattle.clu_rows.proofs.ClassBound.{class_bound}
use Rattle.clu_rows.proofs.Duality.{Disjoint}
use Rattle.clu_partition.proofs.ListLaws.{each_and}
use Rattle.clu_state.proofs.GroupLaws.{lead_weight}

-- ---- one pair
scaled : (den : ℕ) (w : ℤ) → den ≤ 2 ^ 32 → unsigned_abs w ≤ 2 ^ 88 → unsigned_abs (pos den *ℤ w) ≤ 2 ^ 120
scaled den w l h =
    let a = abs_scale den w in
    let b = product_pos den (unsigned_abs w) in
    let k = mul-le-mul_left den h in
    omega (arith, ints, a, b, k, l)

kept : (x : ℤ) → unsigned_abs x ≤ 2 ^ 121 → to_z w128 (of_z w128 x) ≡ x
kept x h = omega (arith, ints, h)

wide : (den : ℕ) → den ≤ 2 ^ 32 → to_z w128 den ≡ pos den
wide den l = omega (arith, ints, l)

-- den times a weight less a price stays within 128 bits
pub record LeftFits (den : ℕ) (w q : ℤ) : Type 0 where
  pub product : FitsSigned w128 (to_z w128 den *ℤ to_z w128 (of_z w128 w))
  pub difference : FitsSigned w128 (to_z w128 (of_z w128 (to_z w128 den *ℤ to_z w128 (of_z w128 w))) -ℤ to_z w128 (of_z w128 q))
  pub value : to_z w128 (of_z w128 (to_z w128 (of_z w128 (to_z w128 den *ℤ to_z w128 (of_z w128 w))) -ℤ to_z w128 (of_z w128 q))) ≡ pos den *ℤ w -ℤ q

fits_of : (x : ℤ) → unsigned_abs x ≤ 2 ^ 121 → FitsSigned w128 x
fits_of x h = omega (arith, ints, h)

difference_small : (p q : ℤ) → unsigned_abs p ≤ 2 ^ 120 → unsigned_abs q ≤ 2 ^ 120 → unsigned_abs (p -ℤ q) ≤ 2 ^ 121
difference_small p q h k = omega (arith, ints, h, k)

pub left_fits : (den : ℕ) (w q : ℤ) → den ≤ 2 ^ 32 → unsigned_abs w ≤ 2 ^ 88 → unsigned_abs q ≤ 2 ^ 120 → LeftFits den w q
left_fits den w q l h k =
    let m = scaled den w l h in
    let ew = kept w (omega (arith, h)) in
    let eq = kept q (omega (arith, k)) in
    let e : to_z w128 den *ℤ to_z w128 (of_z w128 w) ≡ pos den *ℤ w = ap (λ d. d *ℤ to_z w128 (of_z w128 w)) (wide den l) ∙ ap (λ v. pos den *ℤ v) ew in
    let ep : to_z w128 (of_z w128 (to_z w128 den *ℤ to_z w128 (of_z w128 w))) ≡ pos den *ℤ w = ap (λ x. to_z w128 (of_z w128 x)) e ∙ kept (pos den *ℤ w) (omega (arith, m)) in
    let d : to_z w128 (of_z w128 (to_z w128 den *ℤ to_z w128 (of_z w128 w))) -ℤ to_z w128 (of_z w128 q) ≡ pos den *ℤ w -ℤ q = ap (λ p. p -ℤ to_z w128 (of_z w128 q)) ep ∙ ap (λ q. pos den *ℤ w -ℤ q) eq in
    let n = difference_small (pos den *ℤ w) q m k in
    record {
      product = subst (FitsSigned w128) (sym e) (fits_of (pos den *ℤ w) (omega (arith, m)));
      difference = subst (FitsSigned w128) (sym d) (fits_of (pos den *ℤ w -ℤ q) n);
      value = ap (λ x. to_z w128 (of_z w128 x)) d ∙ kept (pos den *ℤ w -ℤ q) n;
    }

-- the pair of a group that a leads and of one that b leads
pub pair_weight : (s : State) → IsState s → (a b : ℕ) (w : ℤ) → Contains s.members a → Contains s.members b → a ≢ b → leader s a ≡ a → leader s b ≡ b → w ≡ group_weight s a b → unsigned_abs w ≤ 2 ^ 88
pair_weight s i a b w ca cb d la lb e = let h = weight_small s i a b ca cb (λ q. d (sym la ∙ q ∙ lb)) in let k = ap unsigned_abs e in omega (arith, h, k)

pub same_of : (x y : ℕ) (r : Bool) → r ≡ false → r ≡ not (x == y) → x ≡ y
same_of x y r f e = eqb-true x y (turned (x == y) (sym e ∙ f))
  where
    turned : (b : Bool) → not b ≡ false → b ≡ true
    turned true h = refl
    turned false h = absurd (cc)

pub uncovered_yes : (s : State) (den : ℕ) (prices : Pairs) (a b n : ℕ) (x : ℤ) → leader s b ≡ b → are_apart s a b ≡ false → x ≡ pos den *ℤ group_weight s a b -ℤ weight_of prices a b → n ≡ positive x → pos n ≡ uncovered s den prices a b
uncovered_yes s den prices a b n x e f q h = tests (leader s b == b) (are_apart s a b) (eq-eqb (leader s b) b e) f ∙ ap (λ (z : ℤ). only_if (leader s b == b) (only_if (not (are_apart s a b)) (pos (positive z)))) q
  where
    tests : (c d : Bool) → c ≡ true → d ≡ false → pos n ≡ only_if c (only_if (not d) (pos (positive x)))
    tests true false e f = ap pos h
    tests true true e f = absurd (false≢true (sym f))
    tests false d e f = absurd (false≢true e)

-- ---- one with those after it
uncovered_least : (s : State) (den : ℕ) (prices : Pairs) (a b : ℕ) → pos 0 ≤ℤ uncovered s den prices a b
uncovered_least s den prices a b = tests (leader s b == b) (are_apart s a b) (positive (pos den *ℤ group_weight s a b -ℤ weight_of prices a b))
  where
    tests : (c d : Bool) (n : ℕ) → pos 0 ≤ℤ only_if c (only_if (not d) (pos n))
    tests true true n = omega (arith, ints)
    tests true false n = omega (arith, ints)
    tests false d n = omega (arith, ints)

-- the sum so far with one more
pub record NextSum (f : ℕ → ℤ) (i : ℕ) (xs : List ℕ) (sum more : ℕ) : Type 0 where
  pub next : pos (sum + more) ≡ total f (take (i + 1) xs)
  pub small : sum + more ≤ 2 ^ 121

pub sum_next : (s : State) (den : ℕ) (prices : Pairs) (a i b : ℕ) (later : List ℕ) (sum more : ℕ) → i < length later → b ≡ get_or later i b → leader s a ≡ a → uncovered_with s den prices a later ≤ℤ pos (2 ^ 121) →
    pos more ≡ uncovered s den prices a b → pos sum ≡ total (uncovered s den prices a) (take i later) → NextSum (uncovered s den prices a) i later sum more
sum_next s den prices a i b later sum more l e lead top h k =
    let t = total_next (uncovered s den prices a) i later b l in
    let q = ap (uncovered s den prices a) e in
    let n : pos (sum + more) ≡ total (uncovered s den prices a) (take (i + 1) later) = omega (arith, ints, t, q, h, k) in
    let m = (total_front (uncovered s den prices a) (uncovered_least s den prices a) (i + 1) later).1 in
    let w : uncovered_with s den prices a later ≡ total (uncovered s den prices a) later = ap (λ c. only_if c (total (uncovered s den prices a) later)) (eq-eqb (leader s a) a lead) in
    record { next = n; small = omega (arith, ints, n, m, w, top) }

-- ---- all pairs
with_least : (s : State) (den : ℕ) (prices : Pairs) (a : ℕ) (later : List ℕ) → pos 0 ≤ℤ uncovered_with s den prices a later
with_least s den prices a later = by_test (leader s a == a) (total (uncovered s den prices a) later) (let h = total_front (uncovered s den prices a) (uncovered_least s den prices a) 0 later in let p = h.0 in let q = h.1 in omega (arith, ints, p, q))
  where
    by_test : (c : Bool) (z : ℤ) → pos 0 ≤ℤ z → pos 0 ≤ℤ only_if c z
    by_test true z h = h
    by_test false z h = omega (arith, ints)

all_least : (s : State) (den : ℕ) (prices : Pairs) (xs : List ℕ) → pos 0 ≤ℤ uncovered_all s den prices xs
all_least s den prices [] = omega (arith, ints)
all_least s den prices (a ∷ later) = let h = all_least s den prices later in let k = with_least s den prices a later in omega (arith, ints, h, k)

all_step : (s : State) (den : ℕ) (prices : Pairs) (i a : ℕ) (xs tail : List ℕ) → i < length xs → a ≡ get_or xs i a → tail ≡ drop (i + 1) xs → uncovered_all s den prices (drop i xs) ≡ uncovered_with s den prices a tail +ℤ uncovered_all s den prices (drop (i + 1) xs)
all_step s den prices i a xs tail l e t = ap (uncovered_all s den prices) (drop_more xs i a l) ∙ ap (λ (v : ℕ). uncovered_with s den prices v (drop (i + 1) xs) +ℤ uncovered_all s den prices (drop (i + 1) xs)) (sym e) ∙ ap (λ (ys : List ℕ). uncovered_with s den prices a ys +ℤ uncovered_all s den prices (drop (i + 1) xs)) (sym t)

-- the part of one is no more than the whole
pub with_most : (s : State) (den : ℕ) (prices : Pairs) (i a : ℕ) (xs tail : List ℕ) (sum : ℕ) → i < length xs → a ≡ get_or xs i a → tail ≡ drop (i + 1) xs → pos sum +ℤ uncovered_all s den prices (drop i xs) ≡ uncovered_all s den prices xs → uncovered_all s den prices xs ≤ℤ pos (2 ^ 121) →
    uncovered_with s den prices a tail ≤ℤ pos (2 ^ 121)
with_most s den prices i a xs tail sum l e t h top =
    let k = all_step s den prices i a xs tail l e t in
    let m = all_least s den prices (drop (i + 1) xs) in
    omega (arith, ints, k, m, h, top)

pub record NextAll (s : State) (den : ℕ) (prices : Pairs) (i : ℕ) (xs : List ℕ) (sum more : ℕ) : Type 0 where
  pub next : pos (sum + more) +ℤ uncovered_all s den prices (drop (i + 1) xs) ≡ uncovered_all s den prices xs
  pub small : sum + more ≤ 2 ^ 121

pub all_next : (s : State) (den : ℕ) (prices : Pairs) (i a : ℕ) (xs tail : List ℕ) (sum more : ℕ) → i < length xs → a ≡ get_or xs i a → tail ≡ drop (i + 1) xs → pos more ≡ uncovered_with s den prices a tail → pos sum +ℤ uncovered_all s den prices (drop i xs) ≡ uncovered_all s den prices xs → uncovered_all s den prices xs ≤ℤ pos (2 ^ 121) →
    NextAll s den prices i xs sum more
all_next s den prices i a xs tail sum more l e t q h top =
    let k = all_step s den prices i a xs tail l e t in
    let m = all_least s den prices (drop (i + 1) xs) in
    record { next = omega (arith, ints, k, q, h); small = omega (arith, ints, k, m, q, h, top) }

-- the members after one are others
pub others_differ : (s : State) → IsState s → (i a : ℕ) → i < length s.members → a ≡ get_or s.members i a → All (λ b. a ≢ b) (drop (i + 1) s.members)
others_differ s i k a l e = above (state_are_groups s i).rising k l e
  where
    apart : (x : ℕ) (ys : List ℕ) → Each (λ y. x < y) ys → All (λ y. x ≢ y) ys
    apart x [] b = All-nil (λ y. x ≢ y)
    apart x (y ∷ ys) b = All-cons (λ y. x ≢ y) y ys (λ e. let l = b.0 in omega (arith, l, e)) (apart x ys b.1)

    from : (a k : ℕ) (xs : List ℕ) → Rising xs → k < length xs → a ≡ get_or xs k a → All (λ b. a ≢ b) (drop (suc k) xs)
    from a k [] r l e = absurd (omega (arith, l))
    from a zero (x ∷ xs) r l e = subst (λ (v : ℕ). All (λ b. v ≢ b) xs) (sym e) (apart x xs r.0)
    from a (suc k) (x ∷ xs) r l e = from a k xs r.1 (omega (arith, l)) e

    above : Rising s.members → (k : ℕ) → k < length s.members → a ≡ get_or s.members k a → All (λ b. a ≢ b) (drop (k + 1) s.members)
    above r k l e = subst (λ (j : ℕ). All (λ b. a ≢ b) (drop j s.members)) (more k) (from a k s.members r l e)
      where
        more : (k : ℕ) → suc k ≡ k + 1
        more k = omega arith

pub others_after : (s : State) → IsState s → (xs : List ℕ) (i a : ℕ) → xs ≡ s.members → i < length xs → a ≡ get_or xs i a → All (λ b. a ≢ b) (drop (i + 1) xs)
others_after s k xs i a m l e = subst (λ (ys : List ℕ). All (λ b. a ≢ b) (drop (i + 1) ys)) (sym m) (others_differ s k i a (subst (λ (ys : List ℕ). i < length ys) m l) (subst (λ (ys : List ℕ). a ≡ get_or ys i a) m e))

pub all_in : (xs : List ℕ) → All (Contains xs) xs
all_in xs = λ k d l. (k, l, in_bounds xs k d (get_or xs k d) l)
  where
    in_bounds : (xs : List ℕ) (k d e : ℕ) → k < length xs → get_or xs k e ≡ get_or xs k d
    in_bounds [] k d e l = absurd (omega arith)
    in_bounds (x ∷ xs) zero d e l = refl
    in_bounds (x ∷ xs) (suc k) d e l = in_bounds xs k d e (omega arith)

-- ---- the excess
worth_is : (rows : List TwoSet) → total row_worth rows ≡ pos (rows_mass rows)
worth_is [] = refl
worth_is (r ∷ rows) =
    let h = worth_is rows in
    let w = sum_by-cons (λ (r : TwoSet). r.y * (length r.s + length r.t) ^ 2) r rows in
    let p = product_pos r.y ((length r.s + length r.t) * (length r.s + length r.t)) in
    let q = ap (λ k. r.y * k) (two_of (length r.s + length r.t)) in
    let e : total row_worth (r ∷ rows) ≡ pos r.y *ℤ pos ((length r.s + length r.t) * (length r.s + length r.t)) +ℤ total row_worth rows = refl in
    omega (arith, ints, h, w, p, q, e)

pub excess_most : (s : State) → IsState s → (den : ℕ) (rows : List TwoSet) → den ≤ 2 ^ 32 → AreRows s rows → excess (weight_of s.pairs) (leader s) (are_apart s) s.members den rows ≤ℤ pos (2 ^ 121)
excess_most s i den rows l a =
    let h = excess_small (weight_of s.pairs) (leader s) (are_apart s) s.members den rows (leaders_rising (leader s) s.members (state_are_groups s i)) in
    let k = all_small (weight_of s.pairs) (weight_sym s.pairs) (leader s) s.members s.pairs.n (state_are_groups s i) (below_all s i) in
    let t = i.total in
    let m : pair_total (λ a b. pos (unsigned_abs (between (weight_of s.pairs) (leader s) s.members a b))) (group_leaders s) ≤ℤ pos (2 ^ 88) = omega (arith, ints, k, t) in
    let d = scale_le den _ _ m in
    let p = product_pos den (2 ^ 88) in
    let w = worth_is rows in
    let o = a.small in
    omega (arith, ints, h, d, p, w, o, l)

-- a pair's part in the excess
abbrev part_of : State → ℕ → List TwoSet → ℕ → ℕ → ℤ
part_of s den rows a b = only_if (not (are_apart s a b)) (pos (positive (pos den *ℤ between (weight_of s.pairs) (leader s) s.members a b -ℤ priced (leader s) rows a b)))

abbrev Priced : State → Pairs → List TwoSet → Type 0
Priced s prices rows = (x z : ℕ) → Contains s.members x → Contains s.members z → x ≢ z → weight_of prices x z ≡ priced (leader s) rows x z

with_is : (s : State) (den : ℕ) (prices : Pairs) (rows : List TwoSet) (a : ℕ) (xs : List ℕ) → Priced s prices rows → Contains s.members a → leader s a ≡ a → Each (Contains s.members) xs → Each (λ b. a < b) xs →
    total (uncovered s den prices a) xs ≡ total (part_of s den rows a) (leaders (leader s) xs)
with_is s den prices rows a xs p ca la cs up =
    sym (filter_total (λ b. only_if (not (are_apart s a b)) (pos (positive (pos den *ℤ group_weight s a b -ℤ weight_of prices a b)))) (λ b. leader s b == b) xs) ∙
    total_cong_on (λ b. only_if (not (are_apart s a b)) (pos (positive (pos den *ℤ group_weight s a b -ℤ weight_of prices a b)))) (part_of s den rows a) (λ b. (leader s b ≡ b) × (Contains s.members b × (a < b))) (leaders (leader s) xs)
    (each_and (λ b. leader s b ≡ b) (λ b. Contains s.members b × (a < b)) (leaders (leader s) xs) (leaders_lead (leader s) xs)
    (each_and (Contains s.members) (λ b. a < b) (leaders (leader s) xs) (each_filter (Contains s.members) (λ b. leader s b == b) xs cs) (each_filter (λ b. a < b) (λ b. leader s b == b) xs up)))
    (λ b h. ap (λ (z : ℤ). only_if (not (are_apart s a b)) (pos (positive (pos den *ℤ z -ℤ weight_of prices a b)))) (lead_weight s a b la h.0) ∙
    ap (λ (z : ℤ). only_if (not (are_apart s a b)) (pos (positive (pos den *ℤ between (weight_of s.pairs) (leader s) s.members a b -ℤ z)))) (p a b ca h.1.0 (λ e. let l = h.1.1 in omega (arith, l, e))))

all_is : (s : State) (den : ℕ) (prices : Pairs) (rows : List TwoSet) (xs : List ℕ) → Priced s prices rows → Each (Contains s.members) xs → Rising xs → uncovered_all s den prices xs ≡ pair_total (part_of s den rows) (leaders (leader s) xs)
all_is s den prices rows [] p cs up = refl
all_is s den prices rows (a ∷ xs) p cs up =
    by_test (leader s a == a) a xs (all_is s den prices rows xs p cs.1 up.1) (λ e. with_is s den prices rows a xs p cs.0 (eqb-true (leader s a) a e) cs.1 up.0)
  where
    by_test : (c : Bool) (a : ℕ) (xs : List ℕ) → uncovered_all s den prices xs ≡ pair_total (part_of s den rows) (leaders (leader s) xs) → (c ≡ true → total (uncovered s den prices a) xs ≡ total (part_of s den rows a) (leaders (leader s) xs)) →
        only_if c (total (uncovered s den prices a) xs) +ℤ uncovered_all s den prices xs ≡ pair_total (part_of s den rows) (cond c (a ∷ leaders (leader s) xs) (leaders (leader s) xs))
    by_test true a xs h k = let e = k refl in omega (arith, ints, h, e)
    by_test false a xs h k = omega (arith, ints, h)

pub excess_is : (s : State) → IsState s → (den : ℕ) (prices : Pairs) (rows : List TwoSet) → ((x z : ℕ) → Contains s.members x → Contains s.members z → x ≢ z → weight_of prices x z ≡ priced (leader s) rows x z) →
    uncovered_all s den prices s.members ≡ excess (weight_of s.pairs) (leader s) (are_apart s) s.members den rows
excess_is s i den prices rows p = all_is s den prices rows s.members p (each_from (Contains s.members) s.members (λ x c. c)) (state_are_groups s i).rising

-- ---- the bound
pub rows_bound : (s : State) → IsState s → (den : ℕ) (rows : List TwoSet) → 0 < den → AreRows s rows → (label : ℕ → ℕ) → InClass s label → value_on (weight_of s.pairs) label s.members ≤ℤ leaf_bound_of s den rows
rows_bound s i den rows d a label c = class_bound s label den rows i c d (disjoint_rows rows a.each)
  where
    each_in : (xs : List ℕ) (r : TwoSet) → IsRow s r → Each (λ x. (names_group (leader s) r.s x && names_group (leader s) r.t x) ≡ false) xs
    each_in [] r h = tt
    each_in (x ∷ xs) r h = (once_apart (leader s) r.s r.t x (once_from (leader s) (r.s ++ r.t) h.once), each_in xs r h)

    disjoint_rows : (rows : List TwoSet) → All (IsRow s) rows → Each (Disjoint (leader s) (leaders (leader s) s.members)) rows
    disjoint_rows [] a = tt
    disjoint_rows (r ∷ rows) a = (each_in (leaders (leader s) s.members) r (All-head (IsRow s) r rows a), disjoint_rows rows (All-tail (IsRow s) r rows a))

-- the bound's last sum stays within 128 bits
pub record BoundFits (f : ℤ) (q : ℕ) : Type 0 where
  pub cast : FitsSigned w128 (pos q)
  pub sum : FitsSigned w128 (to_z w128 (of_z w128 f) +ℤ to_z w128 q)
  pub value : to_z w128 (of_z w128 (to_z w128 (of_z w128 f) +ℤ to_z w128 q)) ≡ f +ℤ pos q

pub bound_fits : (s : State) → IsState s → (f : ℤ) (covered left den : ℕ) → f ≡ fixed_value s → covered ≤ 2 ^ 120 → left ≤ 2 ^ 121 → BoundFits f ((covered + left) / den)
bound_fits s i f covered left den e h k =
    let b = fixed_size s i in
    let a = ap unsigned_abs e in
    let d = div-le_self (covered + left) den in
    by_size f ((covered + left) / den) (omega (arith, a, b)) (omega (arith, d, h, k))
  where
    by_size : (f : ℤ) (q : ℕ) → unsigned_abs f ≤ 2 ^ 88 → q ≤ 2 ^ 122 → BoundFits f q
    by_size f q h k =
        let ef = kept f (omega (arith, h)) in
        let eq : to_z w128 q ≡ pos q = omega (arith, ints, k) in
        let e : to_z w128 (of_z w128 f) +ℤ to_z w128 q ≡ f +ℤ pos q = ap (λ f. f +ℤ to_z w128 q) ef ∙ ap (λ q. f +ℤ q) eq in
        record {
          cast = omega (arith, ints, k);
          sum = subst (FitsSigned w128) (sym e) (omega (arith, ints, h, k));
          value = ap (λ x. to_z w128 (of_z w128 x)) e ∙ whole f q h k;
        }
      where
        whole : (f : ℤ) (q : ℕ) → unsigned_abs f ≤ 2 ^ 88 → q ≤ 2 ^ 122 → to_z w128 (of_z w128 (f +ℤ pos q)) ≡ f +ℤ pos q
        whole f q h k = omega (arith, ints, h, k)

pub limit_size : (s : State) (rows : List TwoSet) (covered : ℕ) → AreRows s rows → pos covered ≡ row_limit rows → covered ≤ 2 ^ 120
limit_size s rows covered a e = let h = limit_most s rows a in omega (arith, ints, h, e)

pub excess_size : (s : State) → IsState s → (den : ℕ) (rows : List TwoSet) (left : ℕ) → den ≤ 2 ^ 32 → AreRows s rows → pos left ≡ excess (weight_of s.pairs) (leader s) (are_apart s) s.members den rows → left ≤ 2 ^ 121
excess_size s i den rows left l a e = let h = excess_most s i den rows l a in omega (arith, ints, h, e)

pub bound_is : (s : State) (den : ℕ) (rows : List TwoSet) (f : ℤ) (covered left : ℕ) → f ≡ fixed_value s → pos covered ≡ row_limit rows → pos left ≡ excess (weight_of s.pairs) (leader s) (are_apart s) s.members den rows → f +ℤ pos ((covered + left) / den) ≡ leaf_bound_of s den rows
bound_is s den rows f covered left ef ec el =
    let e : pos (covered + left) ≡ row_limit rows +ℤ excess (weight_of s.pairs) (leader s) (are_apart s) s.members den rows = omega (arith, ints, ec, el) in
    ap (λ (z : ℤ). z +ℤ pos ((covered + left) / den)) ef ∙ ap (λ (z : ℤ). fixed_value s +ℤ floor_div z den) e
