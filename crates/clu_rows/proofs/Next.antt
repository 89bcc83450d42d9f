-- The table after one more triangle.
use Rattle.std.proofs.Common.{◌≡◌, ◌≢◌, ◌⊎◌, inl, inr, ⊎_elim, ℕ, ◌<◌, ℤ, pos, negsuc, neg_ℤ, ◌+ℤ◌, ◌-ℤ◌, ◌*ℤ◌, ◌≤ℤ◌, ◌<ℤ◌, List, [], ◌∷◌, ◌++◌, length, slice_index, Bool, true, false, not, ◌==◌, refl, sym, ap, ◌∙◌, subst, arith, Contains}
use Rattle.std.proofs.lemmas.Int.{ints}
use Rattle.clu_partition.specs.Sums.{only_if}
use Rattle.clu_rows.specs.Rows.{TwoSet}
use Rattle.clu_partition.specs.Pairs.{Pairs, weight_of}
use Rattle.clu_partition.proofs.Regroup.{leaders_rising, leaders_lead, each_filter}
use Rattle.clu_partition.proofs.TableLaws.{weight_sym}
use Rattle.clu_state.specs.State.{State, IsState, leader, are_apart, kept_apart, group_leaders}
use Rattle.clu_state.proofs.Bridge.{state_are_groups, each_from}
use Rattle.clu_partition.proofs.JoinLaws.{joins_turn}
use Rattle.clu_rows.specs.Packing.{left_of, triangle}
use Rattle.clu_rows.specs.Packing.IsPacking.{one_more}
use Rattle.clu_rows.specs.Table.{IsLeftTable, SamePair, Changed}
use Rattle.clu_rows.proofs.Steps.{by_pair}
use Rattle.clu_rows.proofs.Signs.{tests, signs_of, none_first, none_second, left_after, away}
use Rattle.clu_partition.proofs.ListLaws.{each_at, rising_at}
use Rattle.clu_partition.proofs.PairLaws.{one_less}
use Rattle.std.proofs.lemmas.Bool.{false≢true}

-- ---- the groups by their places
pub record Leading (s : State) (groups : List ℕ) : Type 0 where
  pub member : (x : ℕ) → x < length groups → Contains s.members (slice_index groups x)
  pub least : (x : ℕ) → x < length groups → leader s (slice_index groups x) ≡ slice_index groups x
  pub rising : (x z : ℕ) → x < z → z < length groups → slice_index groups x < slice_index groups z
  pub differ : (x z : ℕ) → x < length groups → z < length groups → x ≢ z → slice_index groups x ≢ slice_index groups z

differ_rising : (f : ℕ → ℕ) (n : ℕ) → ((x z : ℕ) → x < z → z < n → f x < f z) → (x z : ℕ) → x < n → z < n → x ≢ z → f x ≢ f z
differ_rising f n r x z i j d = λ e. ⊎_elim
    (λ (l : x < z). let h = r x z l j in omega (arith, h, e))
    (λ (l : z < x). let h = r z x l i in omega (arith, h, e))
    (one_less x z d)

pub leading : (s : State) (groups : List ℕ) → IsState s → groups ≡ group_leaders s → Leading s groups
leading s groups i e = subst (Leading s) (sym e) (record {
  member = λ x l. each_at (Contains s.members) (group_leaders s) x 0 l (each_filter (Contains s.members) (λ u. leader s u == u) s.members (each_from (Contains s.members) s.members (λ x c. c)));
  least = λ x l. each_at (λ a. leader s a ≡ a) (group_leaders s) x 0 l (leaders_lead (leader s) s.members);
  rising = λ x z l m. rising_at (group_leaders s) x z (leaders_rising (leader s) s.members (state_are_groups s i)) l m;
  differ = differ_rising (slice_index (group_leaders s)) (length (group_leaders s)) (λ x z l m. rising_at (group_leaders s) x z (leaders_rising (leader s) s.members (state_are_groups s i)) l m);
})

-- ---- the sign away from the three pairs
far_tests : (s : State) (groups : List ℕ) → Leading s groups → (a b c x z : ℕ) → a < length groups → b < length groups → c < length groups → x < length groups → z < length groups → x ≢ z →
    (SamePair a b x z → ⊥) → (SamePair a c x z → ⊥) → (SamePair b c x z → ⊥) →
    tests (slice_index groups a) (slice_index groups b) (slice_index groups c) (slice_index groups x) (slice_index groups z) ≡ pos 0
far_tests s groups g a b c x z la lb lc lx lz d ab ac bc = ⊎_elim none_x none_z (away a b c x z d ab ac bc)
  where
    none_x : (x ≢ a) × (x ≢ b) × (x ≢ c) → tests (slice_index groups a) (slice_index groups b) (slice_index groups c) (slice_index groups x) (slice_index groups z) ≡ pos 0
    none_x h = none_first (slice_index groups a) (slice_index groups b) (slice_index groups c) (slice_index groups x) (slice_index groups z) (g.differ a x la lx (λ e. h.0 (sym e))) (g.differ b x lb lx (λ e. h.1 (sym e))) (g.differ c x lc lx (λ e. h.2 (sym e)))

    none_z : (z ≢ a) × (z ≢ b) × (z ≢ c) → tests (slice_index groups a) (slice_index groups b) (slice_index groups c) (slice_index groups x) (slice_index groups z) ≡ pos 0
    none_z h = none_second (slice_index groups a) (slice_index groups b) (slice_index groups c) (slice_index groups x) (slice_index groups z) (g.differ a z la lz (λ e. h.0 (sym e))) (g.differ b z lb lz (λ e. h.1 (sym e))) (g.differ c z lc lz (λ e. h.2 (sym e)))

-- ---- one cell
at_lower : (apart : Bool) (y : ℕ) (t' t r' r k : ℤ) → 0 < y → pos y ≤ℤ t → t' ≡ t -ℤ pos y → t ≡ only_if (not apart) r → r' ≡ r -ℤ pos y *ℤ k → k ≡ pos 1 → t' ≡ only_if (not apart) r'
at_lower true y t' t r' r k p q e f g h = absurd (omega (arith, ints, p, q, f))
at_lower false y t' t r' r k p q e f g h = let m = ap (λ k. pos y *ℤ k) h in omega (arith, ints, e, f, g, m)

at_raise : (apart : Bool) (y : ℕ) (t' t r' r k d : ℤ) → 0 < y → ((apart ≡ true) × (d ≡ pos 0)) ⊎ ((t ≤ℤ neg_ℤ (pos y)) × (d ≡ pos y)) → t' ≡ t +ℤ d → t ≡ only_if (not apart) r → r' ≡ r -ℤ pos y *ℤ k → k ≡ negsuc 0 → t' ≡ only_if (not apart) r'
at_raise true y t' t r' r k d p c e f g h = ⊎_elim (λ m. let n = m.1 in omega (arith, ints, e, f, n)) (λ m. let n = m.0 in absurd (omega (arith, ints, p, n, f))) c
at_raise false y t' t r' r k d p c e f g h = ⊎_elim (λ m. absurd (false≢true m.0)) (λ m. let n = m.1 in let o = ap (λ k. pos y *ℤ k) h in omega (arith, ints, e, f, g, n, o)) c

at_other : (apart : Bool) (y : ℕ) (t' t r' r k : ℤ) → t' ≡ t → t ≡ only_if (not apart) r → r' ≡ r -ℤ pos y *ℤ k → k ≡ pos 0 → t' ≡ only_if (not apart) r'
at_other true y t' t r' r k e f g h = omega (arith, ints, e, f)
at_other false y t' t r' r k e f g h = let m = ap (λ k. pos y *ℤ k) h in omega (arith, ints, e, f, g, m)

pub free_if : (apart : Bool) (t r : ℤ) → t ≡ only_if (not apart) r → pos 0 <ℤ t → (apart ≡ false) × (t ≡ r)
free_if true t r e p = absurd (omega (arith, ints, e, p))
free_if false t r e p = (refl, e)

third_if : (apart : Bool) (y : ℕ) (t r d : ℤ) → 0 < y → t ≡ only_if (not apart) r → ((apart ≡ true) × (d ≡ pos 0)) ⊎ ((t ≤ℤ neg_ℤ (pos y)) × (d ≡ pos y)) → (apart ≡ true) ⊎ (r ≤ℤ neg_ℤ (pos y))
third_if true y t r d p e c = inl refl
third_if false y t r d p e c = ⊎_elim (λ m. inl m.0) (λ m. inr (let n = m.0 in omega (arith, ints, e, n))) c

-- ---- the whole table
pub packed_next : (s : State) (groups : List ℕ) (old new : Pairs) (rows : List TwoSet) (a b c y : ℕ) (d : ℤ) → IsLeftTable s groups old rows →
    a < length groups → b < length groups → c < length groups → a ≢ b → a ≢ c → b ≢ c → 0 < y → pos y ≤ℤ weight_of old a b → pos y ≤ℤ weight_of old a c →
    ((are_apart s (slice_index groups b) (slice_index groups c) ≡ true) × (d ≡ pos 0)) ⊎ ((weight_of old b c ≤ℤ neg_ℤ (pos y)) × (d ≡ pos y)) →
    Changed old new a b c (pos y) d →
    IsLeftTable s groups new (rows ++ triangle (slice_index groups a) (slice_index groups b) (slice_index groups c) y ∷ [])
packed_next s groups old new rows a b c y d p la lb lc ab ac bc py yb yc third ch =
    let u = slice_index groups a in
    let v = slice_index groups b in
    let w = slice_index groups c in
    let g = leading s groups p.state p.groups_are in
    let sg = signs_of (slice_index groups a) (slice_index groups b) (slice_index groups c) (g.differ a b la lb ab) (g.differ a c la lc ac) (g.differ b c lb lc bc) in
    let after = λ (x z : ℕ). left_after s rows (slice_index groups a) (slice_index groups b) (slice_index groups c) y (slice_index groups x) (slice_index groups z) (g.least a la) (g.least b lb) (g.least c lc) in
    let ba = λ (e : b ≡ a). ab (sym e) in
    let ca = λ (e : c ≡ a). ac (sym e) in
    let cb = λ (e : c ≡ b). bc (sym e) in
    let yb' : pos y ≤ℤ weight_of old b a = (let m = weight_sym old b a in omega (arith, ints, m, yb)) in
    let yc' : pos y ≤ℤ weight_of old c a = (let m = weight_sym old c a in omega (arith, ints, m, yc)) in
    let f = ch.first in
    let h = ch.second in
    let i = ch.third in
    let f' : weight_of new b a ≡ weight_of old b a -ℤ pos y = (let m = weight_sym old b a in let n = weight_sym new b a in omega (arith, ints, m, n, f)) in
    let h' : weight_of new c a ≡ weight_of old c a -ℤ pos y = (let m = weight_sym old c a in let n = weight_sym new c a in omega (arith, ints, m, n, h)) in
    let i' : weight_of new c b ≡ weight_of old c b +ℤ d = (let m = weight_sym old c b in let n = weight_sym new c b in omega (arith, ints, m, n, i)) in
    let turned : ((are_apart s (slice_index groups c) (slice_index groups b) ≡ true) × (d ≡ pos 0)) ⊎ ((weight_of old c b ≤ℤ neg_ℤ (pos y)) × (d ≡ pos y)) =
    ⊎_elim (λ m. inl (joins_turn (leader s) (kept_apart s) (slice_index groups c) (slice_index groups b) ∙ m.0, m.1)) (λ m. inr ((let k = m.0 in let n = weight_sym old c b in omega (arith, ints, k, n)), m.1)) third in
    let one = free_if (are_apart s u v) (weight_of old a b) (left_of s rows u v) (p.agrees a b la lb ab) (omega (arith, ints, yb, py)) in
    let two = free_if (are_apart s u w) (weight_of old a c) (left_of s rows u w) (p.agrees a c la lc ac) (omega (arith, ints, yc, py)) in
    record {
      state = p.state;
      groups_are = p.groups_are;
      size = let k = ch.size in let l = p.size in omega (arith, k, l);
      agrees = λ x z lx lz xz. by_pair (λ x z. weight_of new x z ≡ only_if (not (are_apart s (slice_index groups x) (slice_index groups z))) (left_of s (rows ++ triangle (slice_index groups a) (slice_index groups b) (slice_index groups c) y ∷ []) (slice_index groups x) (slice_index groups z))) a b c x z
          (at_lower (are_apart s u v) y _ _ _ _ _ py yb f (p.agrees a b la lb ab) (after a b) sg.one_two)
          (at_lower (are_apart s v u) y _ _ _ _ _ py yb' f' (p.agrees b a lb la ba) (after b a) sg.two_one)
          (at_lower (are_apart s u w) y _ _ _ _ _ py yc h (p.agrees a c la lc ac) (after a c) sg.one_three)
          (at_lower (are_apart s w u) y _ _ _ _ _ py yc' h' (p.agrees c a lc la ca) (after c a) sg.three_one)
          (at_raise (are_apart s v w) y _ _ _ _ _ d py third i (p.agrees b c lb lc bc) (after b c) sg.two_three)
          (at_raise (are_apart s w v) y _ _ _ _ _ d py turned i' (p.agrees c b lc lb cb) (after c b) sg.three_two)
          (λ m n o. at_other (are_apart s (slice_index groups x) (slice_index groups z)) y _ _ _ _ _ (ch.others x z (let k = p.size in omega (arith, k, lx)) (let k = p.size in omega (arith, k, lz)) m n o) (p.agrees x z lx lz xz) (after x z) (far_tests s groups g a b c x z la lb lc lx lz xz m n o));
      packing = one_more p.packing
          (record { first = g.member a la; second = g.member b lb; third = g.member c lc; first_least = g.least a la; second_least = g.least b lb; third_least = g.least c lc; one_two = g.differ a b la lb ab; one_three = g.differ a c la lc ac; two_three = g.differ b c lb lc bc })
          py
          (record {
            first_free = one.0;
            second_free = two.0;
            first = (let m = one.1 in omega (arith, ints, m, yb));
            second = (let m = two.1 in omega (arith, ints, m, yc));
            third = third_if (are_apart s v w) y (weight_of old b c) (left_of s rows v w) d py (p.agrees b c lb lc bc) third;
          });
    }
