-- The bound of a packing from its own table: what is left above 0 of the pairs of places is what the rows leave uncovered.
use mir.Syntax.{w128}
use Rattle.std.proofs.Common.{◌≡◌, inl, inr, ⊎_elim, FitsSigned, ℕ, ◌+◌, ◌<◌, ◌≤◌, ◌^◌, ℤ, pos, ◌+ℤ◌, ◌≤ℤ◌, List, [], ◌∷◌, length, slice_index, Bool, true, false, not, refl, sym, ap, ◌∙◌, subst, arith, zero, suc, to_z, of_z, unsigned_abs, ◌==◌}
use Rattle.std.specs.List.{range_with_len}
use Rattle.std.proofs.lemmas.Int.{ints}
use Rattle.std.proofs.lemmas.Bool.{cases_eq}
use Rattle.clu_partition.specs.Partition.{below}
use Rattle.clu_partition.specs.Pairs.{Pairs, weight_of}
use Rattle.clu_partition.specs.Sums.{pair_total, only_if, positive}
use Rattle.clu_partition.specs.Values.{value_on}
use Rattle.clu_partition.proofs.ListLaws.{each_and, few_rising}
use Rattle.clu_partition.proofs.Regroup.{leaders_rising, each_filter}
use Rattle.clu_partition.proofs.PlaceLaws.{pair_map, places}
use Rattle.clu_partition.proofs.Ranges.{each_below}
use Rattle.clu_partition.proofs.SumLaws.{Each, Among, Rising, total_cong_on, pair_least, zero_least}
use Rattle.clu_state.proofs.Bridge.{state_are_groups, below_all}
use Rattle.clu_state.specs.State.{State, IsState, InClass, leader, are_apart, group_leaders, fixed_value}
use Rattle.clu_state.proofs.Bounds.{fixed_size}
use Rattle.clu_rows.specs.Packing.{IsPacking, excess_of, left_of}
use Rattle.clu_rows.specs.Rows.{TwoSet, row_limit, leaf_bound_of}
use Rattle.clu_rows.specs.Table.{IsLeftTable}
use Rattle.clu_rows.proofs.BoundLaws.{rows_bound}
use Rattle.clu_rows.proofs.PackSizes.{excess_is, excess_small, floor_one, pack_size}
use Rattle.clu_rows.proofs.Sound.{packing_rows}
use Rattle.clu_rows.proofs.Spent.{gain_left, pair_drop}

-- ---- numbers from one on rise
later : (x a k : ℕ) → x < a → Each (λ z. x < z) (range_with_len a k)
later x a zero l = tt
later x a (suc k) l = (l, later x (a + 1) k (omega (arith, l)))

rising_range : (a k : ℕ) → Rising (range_with_len a k)
rising_range a zero = tt
rising_range a (suc k) = (later a (a + 1) k (omega arith), rising_range (a + 1) k)

among_range : (a k v : ℕ) → a ≤ v → v < a + k → Among v (range_with_len a k)
among_range a zero v l m = absurd (omega (arith, l, m))
among_range a (suc k) v l m = ⊎_elim inl (λ d. inr (among_range (a + 1) k v (omega (arith, l, d)) (omega (arith, m)))) (cases_eq v a)

-- ---- sums over pairs, the earlier one first
cong_rising : (f g : ℕ → ℕ → ℤ) (P : ℕ → Type 0) (xs : List ℕ) → Each P xs → Rising xs
    → ((x z : ℕ) → P x → P z → x < z → f x z ≡ g x z) → pair_total f xs ≡ pair_total g xs
cong_rising f g P [] all up e = refl
cong_rising f g P (x ∷ xs) all up e =
    let h = total_cong_on (f x) (g x) (λ z. P z × (x < z)) xs (each_and P (λ z. x < z) xs all.1 up.0) (λ z p. e x z all.0 p.0 p.1) in
    let k = cong_rising f g P xs all.1 up.1 e in
    omega (arith, ints, h, k)

-- ---- what is left above 0 of a pair of places
abbrev pub above : Pairs → ℕ → ℕ → ℤ
above left i j = pos (positive (weight_of left i j))

only_above : (free : Bool) (z : ℤ) → pos (positive (only_if free z)) ≡ only_if free (pos (positive z))
only_above true z = refl
only_above false z = refl

above_is : (s : State) (groups : List ℕ) (left : Pairs) (rows : List TwoSet) → IsLeftTable s groups left rows → (i j : ℕ) → i < length groups → j < length groups → i < j
    → gain_left s rows (slice_index groups i) (slice_index groups j) ≡ above left i j
above_is s groups left rows p i j il jl ij =
    sym (ap (λ z. pos (positive z)) (p.agrees i j il jl (λ e. omega (arith, e, ij))) ∙
    only_above (not (are_apart s (slice_index groups i) (slice_index groups j))) (left_of s rows (slice_index groups i) (slice_index groups j)))

pub above_all : (s : State) (groups : List ℕ) (left : Pairs) (rows : List TwoSet) → IsLeftTable s groups left rows
    → pair_total (above left) (below (length groups)) ≡ excess_of s rows
above_all s groups left rows p =
    let by_place : ℕ → ℕ → ℤ = λ i j. gain_left s rows (slice_index groups i) (slice_index groups j) in
    sym (cong_rising by_place (above left) (λ i. i < length groups) (below (length groups)) (each_below (length groups)) (rising_range 0 (length groups)) (above_is s groups left rows p)) ∙
    sym (pair_map (slice_index groups) (gain_left s rows) (below (length groups))) ∙
    ap (pair_total (gain_left s rows)) (sym (places groups)) ∙
    ap (pair_total (gain_left s rows)) p.groups_are ∙
    sym (excess_is s rows)

pub above_small : (s : State) (groups : List ℕ) (left : Pairs) (rows : List TwoSet) → IsLeftTable s groups left rows → (i j : ℕ) (r : ℤ) → i < j → j < length groups
    → r ≡ above left i j → unsigned_abs r ≤ 2 ^ 88
above_small s groups left rows p i j r ij jl e =
    let none : ℕ → ℕ → ℤ = λ _ _. pos 0 in
    let h = excess_small s p.state rows p.packing in
    let most = h.1 in
    let limit = h.0.1 in
    let is = above_all s groups left rows p in
    let some = pair_drop none (above left) (positive (weight_of left i j)) i j (below (length groups)) (rising_range 0 (length groups))
    (λ x z _. zero_least (positive (weight_of left x z))) ij (omega (arith, ints))
    (among_range 0 (length groups) i (omega arith) (omega (arith, ij, jl))) (among_range 0 (length groups) j (omega arith) (omega (arith, jl))) in
    let least = pair_least none (below (length groups)) (λ _ _. zero_least 0) in
    omega (arith, ints, most, limit, is, some, least, e)

-- ---- the bound
pub limit_fits : (s : State) (rows : List TwoSet) (limit : ℕ) → IsState s → IsPacking s rows → pos limit ≡ row_limit rows → FitsSigned w128 (pos limit)
limit_fits s rows limit i p l =
    let h = excess_small s i rows p in
    let a = h.0.0 in
    let m = h.1 in
    omega (arith, ints, a, m, l)

parts_bound : (s : State) (rows : List TwoSet) (fixed excess : ℤ) (limit : ℕ) → fixed ≡ fixed_value s → pos limit ≡ row_limit rows → excess ≡ excess_of s rows
    → fixed +ℤ (pos limit +ℤ excess) ≡ leaf_bound_of s 1 rows
parts_bound s rows fixed excess limit f l x =
    ap (λ z. z +ℤ (pos limit +ℤ excess)) f ∙ ap (λ z. fixed_value s +ℤ (z +ℤ excess)) l ∙ ap (λ z. fixed_value s +ℤ (row_limit rows +ℤ z)) x ∙
    ap (λ z. fixed_value s +ℤ z) (sym (floor_one (row_limit rows +ℤ excess_of s rows)))

-- its sums stay within 128 bits
pub record PackFits (bound fixed excess : ℤ) (limit : ℕ) : Type 0 where
  pub inner : FitsSigned w128 (to_z w128 limit +ℤ to_z w128 (of_z w128 excess))
  pub outer : FitsSigned w128 (to_z w128 (of_z w128 fixed) +ℤ to_z w128 (of_z w128 (to_z w128 limit +ℤ to_z w128 (of_z w128 excess))))
  pub value : to_z w128 (of_z w128 (to_z w128 (of_z w128 fixed) +ℤ to_z w128 (of_z w128 (to_z w128 limit +ℤ to_z w128 (of_z w128 excess))))) ≡ bound

kept : (z : ℤ) → unsigned_abs z ≤ 2 ^ 90 → to_z w128 (of_z w128 z) ≡ z
kept z h = omega (arith, ints, h)

fits : (z : ℤ) → unsigned_abs z ≤ 2 ^ 90 → FitsSigned w128 z
fits z h = omega (arith, ints, h)

small_parts : (bound fixed excess : ℤ) (limit : ℕ) → fixed +ℤ (pos limit +ℤ excess) ≡ bound → unsigned_abs fixed ≤ 2 ^ 88 → pos 0 ≤ℤ excess
    → (excess +ℤ pos limit) ≤ℤ pos (2 ^ 88) → PackFits bound fixed excess limit
small_parts bound fixed excess limit is f x most =
    let el : to_z w128 limit ≡ pos limit = omega (arith, ints, x, most) in
    let ex : to_z w128 (of_z w128 excess) ≡ excess = kept excess (omega (arith, ints, x, most)) in
    let ef : to_z w128 (of_z w128 fixed) ≡ fixed = kept fixed (omega (arith, f)) in
    let inside : to_z w128 limit +ℤ to_z w128 (of_z w128 excess) ≡ pos limit +ℤ excess = ap (λ z. z +ℤ to_z w128 (of_z w128 excess)) el ∙ ap (λ z. pos limit +ℤ z) ex in
    let whole : to_z w128 (of_z w128 fixed) +ℤ to_z w128 (of_z w128 (to_z w128 limit +ℤ to_z w128 (of_z w128 excess))) ≡ fixed +ℤ (pos limit +ℤ excess) =
    ap (λ z. z +ℤ to_z w128 (of_z w128 (to_z w128 limit +ℤ to_z w128 (of_z w128 excess)))) ef ∙
    ap (λ z. fixed +ℤ z) (ap (λ z. to_z w128 (of_z w128 z)) inside ∙ kept (pos limit +ℤ excess) (omega (arith, ints, x, most))) in
    let size : unsigned_abs (fixed +ℤ (pos limit +ℤ excess)) ≤ 2 ^ 90 = omega (arith, ints, f, x, most) in
    record {
      inner = subst (FitsSigned w128) (sym inside) (fits (pos limit +ℤ excess) (omega (arith, ints, x, most)));
      outer = subst (FitsSigned w128) (sym whole) (fits (fixed +ℤ (pos limit +ℤ excess)) size);
      value = ap (λ z. to_z w128 (of_z w128 z)) whole ∙ kept (fixed +ℤ (pos limit +ℤ excess)) size ∙ is;
    }

pub parts_fit : (s : State) (rows : List TwoSet) (fixed excess : ℤ) (limit : ℕ) → IsState s → IsPacking s rows
    → fixed ≡ fixed_value s → pos limit ≡ row_limit rows → excess ≡ excess_of s rows → PackFits (leaf_bound_of s 1 rows) fixed excess limit
parts_fit s rows fixed excess limit i p f l x =
    let h = excess_small s i rows p in
    let a = h.0.0 in
    let m = h.1 in
    let b = fixed_size s i in
    let c = ap unsigned_abs f in
    small_parts (leaf_bound_of s 1 rows) fixed excess limit (parts_bound s rows fixed excess limit f l x)
    (omega (arith, b, c)) (omega (arith, ints, a, x)) (omega (arith, ints, m, l, x))

pub bound_small : (s : State) → IsState s → (rows : List TwoSet) → IsPacking s rows → (bound : ℤ) → bound ≡ leaf_bound_of s 1 rows → unsigned_abs bound ≤ 2 ^ 88
bound_small s i rows p bound is = let h = pack_size s i rows p in let e = ap unsigned_abs is in omega (arith, h, e)

pub bound_sound : (s : State) → IsState s → (rows : List TwoSet) → IsPacking s rows → (bound : ℤ) → bound ≡ leaf_bound_of s 1 rows
    → (label : ℕ → ℕ) → InClass s label → value_on (weight_of s.pairs) label s.members ≤ℤ bound
bound_sound s i rows p bound is label c =
    subst (λ b. value_on (weight_of s.pairs) label s.members ≤ℤ b) (sym is) (rows_bound s i 1 rows (omega arith) (packing_rows s i rows p) label c)

-- ---- room for the places of the groups
pub groups_fit : (s : State) (groups : List ℕ) → IsState s → groups ≡ group_leaders s → length groups ≤ s.pairs.n
groups_fit s groups i e =
    let h = few_rising (group_leaders s) s.pairs.n (leaders_rising (leader s) s.members (state_are_groups s i))
    (each_filter (λ v. v < s.pairs.n) (λ u. leader s u == u) s.members (below_all s i)) in
    let k = ap (λ (xs : List ℕ). length xs) e in
    omega (arith, h, k)
