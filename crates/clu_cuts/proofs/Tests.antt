-- The tests of a point.
use Rattle.std.proofs.Common.{◌≡◌, ◌⊎◌, ⊎_elim, ℕ, ℤ, pos, ◌+ℤ◌, ◌-ℤ◌, ◌*ℤ◌, ◌≤ℤ◌, ◌<ℤ◌, ◌<◌, List, [], ◌∷◌, length, Bool, true, false, cond, All, sym, ◌∙◌, arith}
use Rattle.std.proofs.lemmas.Int.{ints}
use Rattle.std.proofs.lemmas.List.Elements.{All-head, All-tail}
use Rattle.std.specs.Prelude.{int_lt}
use Rattle.std.proofs.lemmas.Bool.{false≢true}
use Rattle.clu_partition.specs.Sums.{pair_total, cross_total}
use Rattle.clu_partition.specs.Pairs.{Pairs, are_pair, weight_of}
use Rattle.clu_cuts.specs.Shares.{AreShares, IsMost, IsTableOf}
use Rattle.std.proofs.Common.{slice_index}
use Rattle.clu_state.specs.State.{State}
use Rattle.clu_cuts.specs.declared.point.Point.{Point}
use Rattle.clu_cuts.specs.declared.shares.Shares.{Shares}
use Rattle.clu_cuts.specs.Point.{IsPoint, listed_share, share}
use Rattle.clu_cuts.specs.Stars.{breaks, star}

-- ---- a share is from 0 to the denominator
abbrev pub InRange : ℤ → ℤ → Type 0
InRange den x = (pos 0 ≤ℤ x) × (x ≤ℤ den)

pub range : (den : ℤ) (pairs : List (ℕ × ℕ)) (xs : List ℤ) (a b : ℕ) → pos 0 ≤ℤ den → All (InRange den) xs → InRange den (listed_share pairs xs a b)
range den [] xs a b p all = (omega (arith, ints), p)
range den (pair ∷ pairs) [] a b p all = (omega (arith, ints), p)
range den (pair ∷ pairs) (x ∷ xs) a b p all =
    by_test (are_pair pair.0 pair.1 a b) (All-head (InRange den) x xs all) (range den pairs xs a b p (All-tail (InRange den) x xs all))
  where
    by_test : (t : Bool) → InRange den x → InRange den (listed_share pairs xs a b) → InRange den (cond t x (listed_share pairs xs a b))
    by_test true h i = h
    by_test false h i = i

pub share_range : (s : State) (p : Point) (a b : ℕ) → IsPoint s p → InRange p.den (share p a b)
share_range s p a b is = let h = is.positive in range p.den p.pairs p.x a b (omega (arith, ints, h)) is.range

-- ---- when a triangle is violated
lt_true : (x y : ℤ) → x <ℤ y → int_lt x y ≡ true
lt_true x y l = grind (arith, ints)

lt_false : (x y : ℤ) → y ≤ℤ x → int_lt x y ≡ false
lt_false x y l = grind (arith, ints)

same_test : (a b x y : ℤ) → (a <ℤ b → x <ℤ y) → (b ≤ℤ a → y ≤ℤ x) → int_lt a b ≡ int_lt x y
same_test a b x y f g = ⊎_elim (λ (l : a <ℤ b). lt_true a b l ∙ sym (lt_true x y (f l))) (λ (l : b ≤ℤ a). lt_false a b l ∙ sym (lt_false x y (g l))) (which a b)
  where
    which : (a b : ℤ) → (a <ℤ b) ⊎ (b ≤ℤ a)
    which a b = grind (arith, ints)

-- the code's test of a triangle, with its three shares
pub triangle_test : (p : Point) (a b c : ℕ) (den sum x y z : ℤ) → x ≡ share p a b → y ≡ share p a c → z ≡ share p b c → den ≡ p.den
    → sum ≡ x +ℤ y -ℤ z → int_lt den sum ≡ breaks p (star a (b ∷ c ∷ []))
triangle_test p a b c den sum x y z ex ey ez d e =
    let one : p.den *ℤ pos 1 ≡ p.den = omega (arith, ints) in
    same_test den sum (pair_total (share p) (a ∷ []) +ℤ pair_total (share p) (b ∷ c ∷ []) +ℤ p.den *ℤ pos 1) (cross_total (share p) (a ∷ []) (b ∷ c ∷ []))
    (λ l. omega (arith, ints, one, e, l, ex, ey, ez, d))
    (λ l. omega (arith, ints, one, e, l, ex, ey, ez, d))

pub not_past : (x y : ℤ) → int_lt x y ≡ false → y ≤ℤ x
not_past x y e = ⊎_elim (λ (l : x <ℤ y). absurd (false≢true (sym e ∙ lt_true x y l))) (λ (l : y ≤ℤ x). l) (which x y)
  where
    which : (a b : ℤ) → (a <ℤ b) ⊎ (b ≤ℤ a)
    which a b = grind (arith, ints)

-- the code's test of a claw, with its six shares
pub claw_test : (p : Point) (a b c d : ℕ) (den sum x y z u v w : ℤ) → x ≡ share p a b → y ≡ share p a c → z ≡ share p a d → u ≡ share p b c → v ≡ share p b d → w ≡ share p c d
    → den ≡ p.den → sum ≡ (x +ℤ y +ℤ z) -ℤ (u +ℤ v +ℤ w) → int_lt den sum ≡ breaks p (star a (b ∷ c ∷ d ∷ []))
claw_test p a b c d den sum x y z u v w ex ey ez eu ev ew ed e =
    let one : p.den *ℤ pos 1 ≡ p.den = omega (arith, ints) in
    same_test den sum (pair_total (share p) (a ∷ []) +ℤ pair_total (share p) (b ∷ c ∷ d ∷ []) +ℤ p.den *ℤ pos 1) (cross_total (share p) (a ∷ []) (b ∷ c ∷ d ∷ []))
    (λ l. omega (arith, ints, one, e, l, ex, ey, ez, eu, ev, ew, ed))
    (λ l. omega (arith, ints, one, e, l, ex, ey, ez, eu, ev, ew, ed))

-- no claw with these two is violated, if the centre's shares are small
pub claw_holds : (s : State) (p : Point) (a b c d : ℕ) (most : ℤ) → IsPoint s p → share p a d ≤ℤ most
    → (share p a b +ℤ share p a c +ℤ most) ≤ℤ (p.den +ℤ share p b c) → breaks p (star a (b ∷ c ∷ d ∷ [])) ≡ false
claw_holds s p a b c d most is l h =
    let one : p.den *ℤ pos 1 ≡ p.den = omega (arith, ints) in
    let bd = (share_range s p b d is).0 in
    let cd = (share_range s p c d is).0 in
    lt_false (pair_total (share p) (a ∷ []) +ℤ pair_total (share p) (b ∷ c ∷ d ∷ []) +ℤ p.den *ℤ pos 1) (cross_total (share p) (a ∷ []) (b ∷ c ∷ d ∷ []))
    (omega (arith, ints, one, l, h, bd, cd))

-- ---- the table's numbers
-- the share at two places of the table
pub cell : (groups : List ℕ) (p : Point) (table : Pairs) (i j : ℕ) (x : ℤ) → IsTableOf groups p table → i < length groups → j < length groups
    → x ≡ weight_of table i j → x ≡ share p (slice_index groups i) (slice_index groups j)
cell groups p table i j x are li lj e = e ∙ are.agrees i j li lj

-- no share is more than a whole
pub whole_is_most : (shares : Shares) (a : ℕ) (most : ℤ) → AreShares shares → most ≡ shares.point.now.den → IsMost shares a most
whole_is_most shares a most are e =
    let h = are.some.1.positive in
    record {
      least = omega (arith, ints, e, h);
      most = omega (arith, ints, e);
      greatest = λ v. let r = (share_range are.some.0 shares.point.now (slice_index shares.groups.now a) v are.some.1).1 in omega (arith, ints, e, r);
    }
