-- The bound of a packing is within the total of the absolute weights.
use Rattle.std.proofs.Common.{◌≡◌, ℕ, ℤ, pos, ◌+ℤ◌, ◌-ℤ◌, ◌*ℤ◌, ◌≤ℤ◌, ◌≤◌, ◌^◌, List, [], ◌∷◌, ◌++◌, not, refl, sym, ap, ◌∙◌, subst, arith, unsigned_abs, negsuc, div-one}
use Rattle.std.proofs.lemmas.Int.{ints}
use Rattle.clu_partition.specs.Pairs.{weight_of}
use Rattle.clu_partition.specs.Sums.{total, pair_total, only_if, positive}
use Rattle.clu_partition.specs.Groups.{between}
use Rattle.clu_partition.proofs.SumLaws.{pair_cong_on, pair_le, zero_least, positive_size}
use Rattle.clu_partition.proofs.Regroup.{leaders_lead}
use Rattle.clu_partition.proofs.TableLaws.{weight_sym}
use Rattle.clu_state.specs.State.{State, IsState, leader, are_apart, group_leaders, group_weight}
use Rattle.clu_state.proofs.Bridge.{state_are_groups, below_all}
use Rattle.clu_state.proofs.Bounds.{size_of, whole_small}
use Rattle.clu_rows.specs.Rows.{TwoSet, priced, row_limit, excess, leaf_bound_of, floor_div}
use Rattle.clu_partition.specs.Values.{value_on}
use Rattle.clu_rows.specs.Packing.{triangle, IsPacking, excess_of}
use Rattle.clu_rows.specs.Packing.IsPacking.{nothing, one_more}
use Rattle.clu_rows.proofs.Spent.{gain_left, spent, spent_least, y_of, y_more}
use Rattle.clu_state.proofs.GroupLaws.{lead_weight}

-- each triangle is worth its multiplier
limit_more : (rows : List TwoSet) (a b c y : ℕ) → row_limit (rows ++ triangle a b c y ∷ []) ≡ row_limit rows +ℤ pos y
limit_more [] a b c y = one y
  where
    one : (y : ℕ) → pos y *ℤ pos 1 +ℤ pos 0 ≡ pos 0 +ℤ pos y
    one y = omega (arith, ints)
limit_more (r ∷ rows) a b c y = let h = limit_more rows a b c y in omega (arith, ints, h)

limit_is : (s : State) {rows : List TwoSet} → IsPacking s rows → row_limit rows ≡ total y_of rows
limit_is s nothing = refl
limit_is s (one_more {rows} {a} {b} {c} {y} p t l can) =
    let h = limit_is s p in
    let e = limit_more rows a b c y in
    let k = y_more rows a b c y in
    omega (arith, ints, h, e, k)

pub floor_one : (z : ℤ) → floor_div z 1 ≡ z
floor_one (pos n) = ap pos (div-one n)
floor_one (negsuc n) = ap negsuc (div-one n)

one_times : (w q : ℤ) → pos 1 *ℤ w -ℤ q ≡ w -ℤ q
one_times w q = omega (arith, ints)

-- what the rows leave uncovered, with the denominator 1
pub excess_is : (s : State) (rows : List TwoSet) → excess (weight_of s.pairs) (leader s) (are_apart s) s.members 1 rows ≡ pair_total (gain_left s rows) (group_leaders s)
excess_is s rows =
    pair_cong_on (λ a b. only_if (not (are_apart s a b)) (pos (positive (pos 1 *ℤ between (weight_of s.pairs) (leader s) s.members a b -ℤ priced (leader s) rows a b))))
    (gain_left s rows) (λ a. leader s a ≡ a) (group_leaders s) (leaders_lead (leader s) s.members)
    (λ a b p q. ap (λ z. only_if (not (are_apart s a b)) (pos (positive z))) (one_times (between (weight_of s.pairs) (leader s) s.members a b) (priced (leader s) rows a b) ∙ ap (λ w. w -ℤ priced (leader s) rows a b) (sym (lead_weight s a b p q))))

pub first_size : (s : State) → pair_total (gain_left s []) (group_leaders s) ≤ℤ pair_total (size_of (between (weight_of s.pairs) (leader s) s.members)) (group_leaders s)
first_size s = pair_le (gain_left s []) (size_of (between (weight_of s.pairs) (leader s) s.members)) (λ a. leader s a ≡ a) (group_leaders s) (leaders_lead (leader s) s.members)
    (λ a b p q. subst (λ z. only_if (not (are_apart s a b)) (pos (positive z)) ≤ℤ pos (unsigned_abs (between (weight_of s.pairs) (leader s) s.members a b))) (sym (nothing_less (group_weight s a b) ∙ lead_weight s a b p q))
    (positive_size (are_apart s a b) (between (weight_of s.pairs) (leader s) s.members a b)))
  where
    nothing_less : (z : ℤ) → z -ℤ pos 0 ≡ z
    nothing_less z = omega (arith, ints)

y_least : (rows : List TwoSet) → pos 0 ≤ℤ total y_of rows
unfolding y_of
y_least [] = omega (arith, ints)
y_least (r ∷ rows) = let h = y_least rows in let z = zero_least r.y in omega (arith, ints, h, z)

-- the multipliers and what is left, together: each is at least 0, so both are within the total
pub excess_small : (s : State) → IsState s → (rows : List TwoSet) → IsPacking s rows → ((pos 0 ≤ℤ excess_of s rows) × (pos 0 ≤ℤ row_limit rows)) × ((excess_of s rows +ℤ row_limit rows) ≤ℤ pos (2 ^ 88))
excess_small s i rows p =
    let l = limit_is s p in
    let e = excess_is s rows in
    let h = spent s i p in
    let k = first_size s in
    let w = whole_small (weight_of s.pairs) (weight_sym s.pairs) (leader s) s.members s.pairs.n (state_are_groups s i) (below_all s i) in
    let z = zero_least (unsigned_abs (value_on (weight_of s.pairs) (leader s) s.members)) in
    let t = i.total in
    let m = spent_least s rows in
    let y = y_least rows in
    ((omega (arith, ints, e, m), omega (arith, ints, l, y)), omega (arith, ints, l, e, h, k, w, t, z))

pub pack_size : (s : State) → IsState s → (rows : List TwoSet) → IsPacking s rows → unsigned_abs (leaf_bound_of s 1 rows) ≤ 2 ^ 88
pack_size s i rows p =
    let l = limit_is s p in
    let e = excess_is s rows in
    let f = floor_one (row_limit rows +ℤ excess (weight_of s.pairs) (leader s) (are_apart s) s.members 1 rows) in
    let h = spent s i p in
    let k = first_size s in
    let w = whole_small (weight_of s.pairs) (weight_sym s.pairs) (leader s) s.members s.pairs.n (state_are_groups s i) (below_all s i) in
    let t = i.total in
    let m = spent_least s rows in
    let y = y_least rows in
    omega (arith, ints, l, e, f, h, k, w, t, m, y)
