-- The rows of a packing are those of a leaf without fault.
use Rattle.std.proofs.Common.{◌≡◌, ◌≢◌, ℕ, ◌+◌, ◌*◌, ◌^◌, pos, ◌*ℤ◌, ◌≤ℤ◌, List, [], ◌∷◌, length, sym, ◌∙◌, arith, Contains, All, sum_by}
use Rattle.std.proofs.lemmas.Int.{ints}
use Rattle.std.proofs.lemmas.List.Elements.{All-append, All-cons, All-nil}
use Rattle.std.proofs.lemmas.List.Sums.{sum_by-append}
use Rattle.clu_partition.specs.Sums.{total, pair_total}
use Rattle.clu_rows.specs.Rows.{TwoSet}
use Rattle.clu_state.specs.State.{State, IsState, leader, group_leaders}
use Rattle.clu_rows.specs.Packing.{triangle, IsPacking}
use Rattle.clu_rows.specs.Packing.IsPacking.{nothing, one_more}
use Rattle.clu_rows.specs.Faults.{IsRow, AreRows, rows_mass}
use Rattle.clu_rows.proofs.Spent.{gain_left, spent, y_of, y_more, y_none, spent_least}
use Rattle.clu_rows.proofs.PackSizes.{first_size}
use Rattle.clu_state.proofs.Bounds.{all_small}
use Rattle.clu_state.proofs.Bridge.{state_are_groups, below_all}
use Rattle.clu_partition.proofs.TableLaws.{weight_sym}
use Rattle.clu_partition.specs.Pairs.{weight_of}

first_gains : (s : State) → IsState s → pair_total (gain_left s []) (group_leaders s) ≤ℤ pos (2 ^ 88)
first_gains s i =
    let h = first_size s in
    let k = all_small (weight_of s.pairs) (weight_sym s.pairs) (leader s) s.members s.pairs.n (state_are_groups s i) (below_all s i) in
    let t = i.total in
    omega (arith, ints, h, k, t)

worth_is : (s : State) {rows : List TwoSet} → IsPacking s rows → pos (rows_mass rows) ≡ pos 9 *ℤ total y_of rows
worth_is s nothing = y_none
worth_is s (one_more {rows} {a} {b} {c} {y} p t l can) =
    let h = worth_is s p in
    let e = y_more rows a b c y in
    let f = sum_by-append (λ (r : TwoSet). r.y * (length r.s + length r.t) ^ 2) rows (triangle a b c y ∷ []) in
    let g : sum_by (λ (r : TwoSet). r.y * (length r.s + length r.t) ^ 2) (triangle a b c y ∷ []) ≡ 9 * y = one y in
    omega (arith, ints, h, e, f, g)
  where
    one : (y : ℕ) → sum_by (λ (r : TwoSet). r.y * (length r.s + length r.t) ^ 2) (triangle 0 0 0 y ∷ []) ≡ 9 * y
    one y = omega arith

each_row : (s : State) {rows : List TwoSet} → IsPacking s rows → All (IsRow s) rows
each_row s nothing = All-nil (IsRow s)
each_row s (one_more {rows} {a} {b} {c} {y} p t l can) = All-append (IsRow s) rows (triangle a b c y ∷ []) (each_row s p) (All-cons (IsRow s) (triangle a b c y) [] (record {
  first = omega arith;
  second = omega arith;
  members = All-cons (Contains s.members) a (b ∷ c ∷ []) t.first (All-cons (Contains s.members) b (c ∷ []) t.second (All-cons (Contains s.members) c [] t.third (All-nil (Contains s.members))));
  once = (
    All-cons (λ w. leader s a ≢ leader s w) b (c ∷ []) (λ e. t.one_two (sym t.first_least ∙ e ∙ t.second_least)) (All-cons (λ w. leader s a ≢ leader s w) c [] (λ e. t.one_three (sym t.first_least ∙ e ∙ t.third_least)) (All-nil (λ w. leader s a ≢ leader s w))),
    (
      All-cons (λ w. leader s b ≢ leader s w) c [] (λ e. t.two_three (sym t.second_least ∙ e ∙ t.third_least)) (All-nil (λ w. leader s b ≢ leader s w)),
      (All-nil (λ w. leader s c ≢ leader s w), tt),
    ),
  );
  worth = l;
}) (All-nil (IsRow s)))

pub packing_rows : (s : State) → IsState s → (rows : List TwoSet) → IsPacking s rows → AreRows s rows
packing_rows s i rows p = record {
  each = each_row s p;
  small =
      let h = spent s i p in
      let k = first_gains s i in
      let e = worth_is s p in
      let m = spent_least s rows in
      omega (arith, ints, h, k, e, m);
}
