-- What a row adds to the table of prices, and how large its cells are.
use Rattle.std.proofs.Common.{◌≡◌, ◌≢◌, ⊎_elim, ℕ, ◌<◌, ◌≤◌, ◌+◌, ◌*◌, ◌^◌, ℤ, pos, neg_ℤ, ◌+ℤ◌, ◌-ℤ◌, ◌*ℤ◌, ◌≤ℤ◌, List, [], ◌∷◌, ◌++◌, length, take, get_or, slice_index, min, Bool, true, false, ◌||◌, refl, sym, ap, ◌∙◌, subst, arith, zero, suc, unsigned_abs, Contains, All, to_z, of_z}
use mir.Syntax.{w128}
use Rattle.std.proofs.Math.Seq.{take-length}
use Rattle.std.proofs.Math.Nat.{mul-le-mul_left, mul-le-mul_right}
use Rattle.std.proofs.lemmas.Int.{ints}
use Rattle.std.proofs.lemmas.Bool.{cases_eq}
use Rattle.std.proofs.lemmas.Grind.{get_or_default_zero}
use Rattle.std.proofs.lemmas.List.Elements.{All-head, All-tail, All-take}
use Rattle.std.proofs.lemmas.List.Sums.{sum_by-take-le, sum_by-cons}
use Rattle.clu_partition.specs.Sums.{total, pair_total, cross_total, only_if}
use Rattle.clu_partition.specs.Pairs.{Pairs, weight_of}
use Rattle.clu_partition.proofs.TableLaws.{weight_sym, weight_same}
use Rattle.clu_state.specs.State.{State, leader}
use Rattle.clu_rows.specs.Rows.{TwoSet, coefficient, priced, names_group, sign, row_limit}
use Rattle.clu_rows.specs.Prices.{hit}
use Rattle.clu_partition.specs.Groups.{NamesOnce}
use Rattle.clu_rows.specs.Faults.{IsRow, AreRows, rows_mass}
use Rattle.clu_rows.proofs.Adding.{front_small, part_small, part_all, hits_all, pairs_neg}
use Rattle.clu_rows.proofs.HitLaws.{row_adds, once_from, once_parts, once_apart}
use Rattle.clu_rows.proofs.Sizes.{sign_small, abs_scale}
use Rattle.clu_rows.proofs.FaultLaws.{two_of, square_above, worth_next}
use Rattle.clu_partition.proofs.PairLaws.{one_less}
use Rattle.clu_partition.proofs.SumLaws.{total_next}

-- ---- the cells
cross_small : (group : ℕ → ℕ) (x z : ℕ) (k : ℤ) (vs ws : List ℕ) → unsigned_abs (cross_total (hit group x z k) vs ws) ≤ length vs * (length ws * unsigned_abs k)
cross_small group x z k vs ws = subst (λ (t : List ℕ). unsigned_abs (cross_total (hit group x z k) t ws) ≤ length vs * (length ws * unsigned_abs k)) (take-length vs)
    (front_small (λ v. total (hit group x z k v) ws) (length ws * unsigned_abs k) (λ v. hits_all group x z v k ws) (length vs) vs)

inner_small : (group : ℕ → ℕ) (x z : ℕ) (k : ℤ) (vs : List ℕ) → unsigned_abs (pair_total (hit group x z k) vs) ≤ length vs * (length vs * unsigned_abs k)
inner_small group x z k vs = subst (λ (t : ℤ). unsigned_abs t ≤ length vs * (length vs * unsigned_abs k)) (part_all (hit group x z k) vs)
    (part_small group x z k (length vs * unsigned_abs k) (length vs) vs (omega arith))

pub across_most : (old new : Pairs) (group : ℕ → ℕ) (x z : ℕ) (k : ℤ) (vs ws : List ℕ) → (x ≢ z → weight_of new x z ≡ weight_of old x z +ℤ cross_total (hit group x z k) vs ws) →
    unsigned_abs (weight_of new x z) ≤ unsigned_abs (weight_of old x z) + length vs * (length ws * unsigned_abs k)
across_most old new group x z k vs ws h = ⊎_elim
    (λ q. let w = weight_same new x z q in omega (arith, ints, w))
    (λ d. let e = h d in let f = cross_small group x z k vs ws in omega (arith, ints, e, f))
    (cases_eq x z)

pub inside_most : (old new : Pairs) (group : ℕ → ℕ) (x z : ℕ) (k : ℤ) (vs : List ℕ) → (x ≢ z → weight_of new x z ≡ weight_of old x z +ℤ pair_total (hit group x z k) vs) →
    unsigned_abs (weight_of new x z) ≤ unsigned_abs (weight_of old x z) + length vs * (length vs * unsigned_abs k)
inside_most old new group x z k vs h = ⊎_elim
    (λ q. let w = weight_same new x z q in omega (arith, ints, w))
    (λ d. let e = h d in let f = inner_small group x z k vs in omega (arith, ints, e, f))
    (cases_eq x z)

worth_parts : (y s t : ℕ) → y * (s + t) ^ 2 ≡ s * (s * y) + 2 * (s * (t * y)) + t * (t * y)
worth_parts y s t = let q = ap (λ k. y * k) (two_of (s + t)) in omega (arith, q)

-- the row's numbers of vertices, and its multiplier as it is added
pub record Added (r : TwoSet) (vs ws : List ℕ) (k m : ℤ) : Type 0 where
  pub first : vs ≡ r.s
  pub second : ws ≡ r.t
  pub more : k ≡ pos r.y
  pub less : m ≡ neg_ℤ (pos r.y)

size_more : {r : TwoSet} {vs ws : List ℕ} {k m : ℤ} → Added r vs ws k m → unsigned_abs k ≡ r.y
size_more {r} a = ap unsigned_abs a.more ∙ plain r.y
  where
    plain : (y : ℕ) → unsigned_abs (pos y) ≡ y
    plain y = omega (arith, ints)

size_less : {r : TwoSet} {vs ws : List ℕ} {k m : ℤ} → Added r vs ws k m → unsigned_abs m ≡ r.y
size_less {r} a = ap unsigned_abs a.less ∙ plain r.y
  where
    plain : (y : ℕ) → unsigned_abs (neg_ℤ (pos y)) ≡ y
    plain y = omega (arith, ints)

-- products of the code's numbers are those of the row's
across_is : {r : TwoSet} {vs ws : List ℕ} {k m : ℤ} → Added r vs ws k m → length vs * ((length ws + 1) * unsigned_abs k) ≡ length r.s * ((length r.t + 1) * r.y)
across_is {r} {vs} {ws} {k} a = ap (λ (v : List ℕ). length v * ((length ws + 1) * unsigned_abs k)) a.first ∙ ap (λ (w : List ℕ). length r.s * ((length w + 1) * unsigned_abs k)) a.second ∙ ap (λ q. length r.s * ((length r.t + 1) * q)) (size_more a)

crossed_is : {r : TwoSet} {vs ws : List ℕ} {k m : ℤ} → Added r vs ws k m → length vs * (length ws * unsigned_abs k) ≡ length r.s * (length r.t * r.y)
crossed_is {r} {vs} {ws} {k} a = ap (λ (v : List ℕ). length v * (length ws * unsigned_abs k)) a.first ∙ ap (λ (w : List ℕ). length r.s * (length w * unsigned_abs k)) a.second ∙ ap (λ q. length r.s * (length r.t * q)) (size_more a)

first_is : {r : TwoSet} {vs ws : List ℕ} {k m : ℤ} → Added r vs ws k m → length vs * (length vs * unsigned_abs m) ≡ length r.s * (length r.s * r.y)
first_is {r} {vs} {ws} {k} {m} a = ap (λ (v : List ℕ). length v * (length v * unsigned_abs m)) a.first ∙ ap (λ q. length r.s * (length r.s * q)) (size_less a)

second_is : {r : TwoSet} {vs ws : List ℕ} {k m : ℤ} → Added r vs ws k m → length ws * (length ws * unsigned_abs m) ≡ length r.t * (length r.t * r.y)
second_is {r} {vs} {ws} {k} {m} a = ap (λ (v : List ℕ). length v * (length v * unsigned_abs m)) a.second ∙ ap (λ q. length r.t * (length r.t * q)) (size_less a)

pub room_across : (r : TwoSet) (cell : ℕ) (k m : ℤ) (vs ws : List ℕ) → Added r vs ws k m → 0 < length r.s → cell + r.y * (length r.s + length r.t) ^ 2 ≤ 2 ^ 120 → cell + length vs * ((length ws + 1) * unsigned_abs k) < 2 ^ 127
room_across r cell k m vs ws a p h =
    let e = across_is a in
    let q = worth_parts r.y (length r.s) (length r.t) in
    let l = mul-le-mul_right (length r.s * r.y) p in
    let d : length r.s * ((length r.t + 1) * r.y) ≡ length r.s * (length r.t * r.y) + length r.s * r.y = omega arith in
    omega (arith, e, q, l, d, h)

pub room_first : (r : TwoSet) (cell now : ℕ) (k m : ℤ) (vs ws : List ℕ) → Added r vs ws k m → now ≤ cell + length vs * (length ws * unsigned_abs k) → cell + r.y * (length r.s + length r.t) ^ 2 ≤ 2 ^ 120 → now + length vs * (length vs * unsigned_abs m) < 2 ^ 127
room_first r cell now k m vs ws a b h =
    let e = crossed_is a in
    let f = first_is a in
    let q = worth_parts r.y (length r.s) (length r.t) in
    omega (arith, e, f, q, b, h)

pub room_second : (r : TwoSet) (cell now next : ℕ) (k m : ℤ) (vs ws : List ℕ) → Added r vs ws k m → now ≤ cell + length vs * (length ws * unsigned_abs k) → next ≤ now + length vs * (length vs * unsigned_abs m) → cell + r.y * (length r.s + length r.t) ^ 2 ≤ 2 ^ 120 →
    next + length ws * (length ws * unsigned_abs m) < 2 ^ 127
room_second r cell now next k m vs ws a b c h =
    let e = crossed_is a in
    let f = first_is a in
    let g = second_is a in
    let q = worth_parts r.y (length r.s) (length r.t) in
    omega (arith, e, f, g, q, b, c, h)

-- the multiplier fits where the row's worth does
pub multiplier_small : (r : TwoSet) → 0 < length r.s → r.y * (length r.s + length r.t) ^ 2 ≤ 2 ^ 120 → r.y ≤ 2 ^ 120
multiplier_small r p h =
    let q = ap (λ k. r.y * k) (two_of (length r.s + length r.t)) in
    let l = mul-le-mul_left r.y (square_above (length r.s + length r.t) (omega (arith, p))) in
    omega (arith, h, q, l)

-- the same of the code's numbers: of a row as it is read
pub multiplier_of : (r : TwoSet) (y : ℕ) (ss ts : List ℕ) → record { s = ss; t = ts; y = y } ≡ r → 0 < length r.s → r.y * (length r.s + length r.t) ^ 2 ≤ 2 ^ 120 → y ≤ 2 ^ 120
multiplier_of r y ss ts e p h = let m = multiplier_small r p h in let v = ap (λ (r : TwoSet). r.y) e in omega (arith, m, v)

pub added_of : (r : TwoSet) (y : ℕ) (ss ts : List ℕ) → record { s = ss; t = ts; y = y } ≡ r → 0 < length r.s → r.y * (length r.s + length r.t) ^ 2 ≤ 2 ^ 120 →
    Added r ss ts (to_z w128 y) (to_z w128 (of_z w128 (pos 0 -ℤ to_z w128 y)))
added_of r y ss ts e p h =
    let m = multiplier_of r y ss ts e p h in
    let v = ap (λ (r : TwoSet). r.y) e in
    record {
      first = ap (λ (r : TwoSet). r.s) e;
      second = ap (λ (r : TwoSet). r.t) e;
      more = omega (arith, ints, m, v);
      less = omega (arith, ints, m, v);
    }

-- what the three loops add is the row's coefficient times its multiplier
pub row_done : (group : ℕ → ℕ) (r : TwoSet) (x z : ℕ) (o a b n k m : ℤ) (vs ws : List ℕ) → Added r vs ws k m → NamesOnce group (r.s ++ r.t) → x ≢ z →
    a ≡ o +ℤ cross_total (hit group x z k) vs ws → b ≡ a +ℤ pair_total (hit group x z m) vs → n ≡ b +ℤ pair_total (hit group x z m) ws → n ≡ o +ℤ pos r.y *ℤ coefficient group r x z
row_done group r x z o a b n k m vs ws e once d p q t =
    let c = ap (λ (k : ℤ). cross_total (hit group x z k) vs ws) e.more ∙ ap (λ (v : List ℕ). cross_total (hit group x z (pos r.y)) v ws) e.first ∙ ap (λ (w : List ℕ). cross_total (hit group x z (pos r.y)) r.s w) e.second in
    let f = ap (λ (k : ℤ). pair_total (hit group x z k) vs) e.less ∙ ap (λ (v : List ℕ). pair_total (hit group x z (neg_ℤ (pos r.y))) v) e.first ∙ pairs_neg group x z (pos r.y) r.s in
    let g = ap (λ (k : ℤ). pair_total (hit group x z k) ws) e.less ∙ ap (λ (v : List ℕ). pair_total (hit group x z (neg_ℤ (pos r.y))) v) e.second ∙ pairs_neg group x z (pos r.y) r.t in
    let u = once_from group (r.s ++ r.t) once in
    let parts = once_parts group r.s r.t u in
    let h = row_adds group r x z d parts.0 parts.1 (once_apart group r.s r.t x u) (once_apart group r.s r.t z u) in
    omega (arith, ints, c, f, g, h, p, q, t)

-- ---- all rows
sign_one : (sa ta sb tb : Bool) → unsigned_abs (sign sa ta sb tb) ≤ 1
sign_one sa ta sb tb =
    let h = sign_small sa ta sb tb in
    let k = one (sa || ta) (sb || tb) in
    omega (arith, ints, h, k)
  where
    one : (a b : Bool) → only_if a (only_if b (pos 1)) ≤ℤ pos 1
    one true true = omega (arith, ints)
    one true false = omega (arith, ints)
    one false b = omega (arith, ints)

term_small : (group : ℕ → ℕ) (r : TwoSet) (x z : ℕ) → 0 < length r.s → unsigned_abs (pos r.y *ℤ coefficient group r x z) ≤ r.y * (length r.s + length r.t) ^ 2
term_small group r x z p =
    let a = abs_scale r.y (coefficient group r x z) in
    let b = mul-le-mul_left r.y (sign_one (names_group group r.s x) (names_group group r.t x) (names_group group r.s z) (names_group group r.t z)) in
    let q = ap (λ k. r.y * k) (two_of (length r.s + length r.t)) in
    let l = mul-le-mul_left r.y (square_above (length r.s + length r.t) (omega (arith, p))) in
    omega (arith, ints, a, b, q, l)

cell_small : (s : State) (rows : List TwoSet) (x z : ℕ) → All (IsRow s) rows → unsigned_abs (priced (leader s) rows x z) ≤ rows_mass rows
cell_small s [] x z a = omega (arith, ints)
cell_small s (r ∷ rows) x z a =
    let h = cell_small s rows x z (All-tail (IsRow s) r rows a) in
    let k = term_small (leader s) r x z (All-head (IsRow s) r rows a).first in
    let e : priced (leader s) (r ∷ rows) x z ≡ pos r.y *ℤ coefficient (leader s) r x z +ℤ priced (leader s) rows x z = refl in
    let w = sum_by-cons (λ (r : TwoSet). r.y * (length r.s + length r.t) ^ 2) r rows in
    omega (arith, ints, h, k, e, w)

pub row_worth_small : (s : State) (i : ℕ) (r : TwoSet) (rows : List TwoSet) → i < length rows → r ≡ get_or rows i r → AreRows s rows → rows_mass (take i rows) + r.y * (length r.s + length r.t) ^ 2 ≤ 2 ^ 120
row_worth_small s i r rows l e a =
    let n = worth_next i r rows l e in
    let m = sum_by-take-le (λ (r : TwoSet). r.y * (length r.s + length r.t) ^ 2) rows (i + 1) in
    let k = a.small in
    omega (arith, n, m, k)

pub cells_small : (s : State) (t : Pairs) (i : ℕ) (r : TwoSet) (rows : List TwoSet) (x z : ℕ) → i < length rows → r ≡ get_or rows i r → AreRows s rows → (x ≢ z → weight_of t x z ≡ priced (leader s) (take i rows) x z) →
    unsigned_abs (weight_of t x z) + r.y * (length r.s + length r.t) ^ 2 ≤ 2 ^ 120
cells_small s t i r rows x z l e a h =
    let w = row_worth_small s i r rows l e a in
    ⊎_elim
    (λ q. let k = weight_same t x z q in omega (arith, ints, w, k))
    (λ d. let k = h d in let c = cell_small s (take i rows) x z (All-take (IsRow s) i rows a.each) in omega (arith, ints, w, k, c))
    (cases_eq x z)

pub all_cells_small : (s : State) (t : Pairs) (rows : List TwoSet) (x z : ℕ) → AreRows s rows → (x ≢ z → weight_of t x z ≡ priced (leader s) rows x z) → unsigned_abs (weight_of t x z) ≤ 2 ^ 120
all_cells_small s t rows x z a h =
    let w = a.small in
    ⊎_elim
    (λ q. let k = weight_same t x z q in omega (arith, ints, k))
    (λ d. let k = h d in let c = cell_small s rows x z a.each in omega (arith, ints, w, k, c))
    (cases_eq x z)

pub priced_next : (group : ℕ → ℕ) (i : ℕ) (r : TwoSet) (rows : List TwoSet) (x z : ℕ) (m n : ℤ) → i < length rows → r ≡ get_or rows i r → n ≡ m +ℤ pos r.y *ℤ coefficient group r x z → m ≡ priced group (take i rows) x z → n ≡ priced group (take (i + 1) rows) x z
priced_next group i r rows x z m n l e p q =
    let t = total_next (λ (r : TwoSet). pos r.y *ℤ coefficient group r x z) i rows r l in
    let k = ap (λ (r : TwoSet). pos r.y *ℤ coefficient group r x z) e in
    omega (arith, ints, t, k, p, q)

-- ---- the table at first
pub cleared : (t : Pairs) (members : List ℕ) (n : ℕ) → n ≡ length members →
    ((i j : ℕ) → i < n → i < j → j < length members → slice_index members i ≢ slice_index members j → weight_of t (slice_index members i) (slice_index members j) ≡ pos 0) →
    (x z : ℕ) → Contains members x → Contains members z → x ≢ z → weight_of t x z ≡ pos 0
cleared t members n e h x z cx cz d =
    let ex : slice_index members cx.0 ≡ x = sym (get_or_default_zero members cx.0 x cx.1) ∙ cx.2 in
    let ez : slice_index members cz.0 ≡ z = sym (get_or_default_zero members cz.0 z cz.1) ∙ cz.2 in
    let lx = cx.1 in
    let lz = cz.1 in
    subst (λ x. weight_of t x z ≡ pos 0) ex (subst (λ z. weight_of t (slice_index members cx.0) z ≡ pos 0) ez (⊎_elim
    (λ (l : cx.0 < cz.0). h cx.0 cz.0 (omega (arith, e, lx)) l cz.1 (λ q. d (sym ex ∙ q ∙ ez)))
    (λ (l : cz.0 < cx.0). weight_sym t (slice_index members cx.0) (slice_index members cz.0) ∙ h cz.0 cx.0 (omega (arith, e, lz)) l cx.1 (λ q. d (sym ex ∙ sym q ∙ ez)))
    (one_less cx.0 cz.0 (λ q. d (sym ex ∙ ap (slice_index members) q ∙ ez)))))

-- ---- the rows' right sides
side_small : (y s t : ℕ) → y * min s t ≤ y * (s + t) ^ 2
side_small y s t =
    let m : min s t ≤ s + t = grind arith in
    let q = ap (λ k. y * k) (two_of (s + t)) in
    let a = mul-le-mul_left y m in
    let b = mul-le-mul_left y (own (s + t)) in
    omega (arith, q, a, b)
  where
    own : (n : ℕ) → n ≤ n * n
    own zero = omega arith
    own (suc n) = let k : suc n * suc n ≡ n * n + 2 * n + 1 = omega arith in omega (arith, k)

pub product_pos : (y m : ℕ) → pos y *ℤ pos m ≡ pos (y * m)
product_pos y m = omega (arith, ints)

limit_small : (rows : List TwoSet) → row_limit rows ≤ℤ pos (rows_mass rows)
limit_small [] = omega (arith, ints)
limit_small (r ∷ rows) =
    let h = limit_small rows in
    let k = side_small r.y (length r.s) (length r.t) in
    let e = product_pos r.y (min (length r.s) (length r.t)) in
    let f : row_limit (r ∷ rows) ≡ pos r.y *ℤ pos (min (length r.s) (length r.t)) +ℤ row_limit rows = refl in
    let w = sum_by-cons (λ (r : TwoSet). r.y * (length r.s + length r.t) ^ 2) r rows in
    omega (arith, ints, h, k, e, f, w)

pub limit_most : (s : State) (rows : List TwoSet) → AreRows s rows → row_limit rows ≤ℤ pos (2 ^ 120)
limit_most s rows a = let h = limit_small rows in let k = a.small in omega (arith, ints, h, k)

-- one more row of the sum
pub record NextLimit (i : ℕ) (rows : List TwoSet) (sum more : ℕ) : Type 0 where
  pub next : pos (sum + more) ≡ row_limit (take (i + 1) rows)
  pub small : sum + more ≤ 2 ^ 120

pub limit_next : (i : ℕ) (r : TwoSet) (rows : List TwoSet) (sum y m : ℕ) → i < length rows → r ≡ get_or rows i r → y ≡ r.y → m ≡ min (length r.s) (length r.t) → rows_mass rows ≤ 2 ^ 120 → pos sum ≡ row_limit (take i rows) → NextLimit i rows sum (y * m)
limit_next i r rows sum y m l e ey em w h =
    let t = total_next (λ (r : TwoSet). pos r.y *ℤ pos (min (length r.s) (length r.t))) i rows r l in
    let k = ap (λ (r : TwoSet). pos r.y *ℤ pos (min (length r.s) (length r.t))) e in
    let f = product_pos r.y (min (length r.s) (length r.t)) in
    let g = ap (λ y. y * m) ey ∙ ap (λ m. r.y * m) em in
    let n : pos (sum + y * m) ≡ row_limit (take (i + 1) rows) = omega (arith, ints, t, k, f, g, h) in
    let b = limit_small (take (i + 1) rows) in
    let c = sum_by-take-le (λ (r : TwoSet). r.y * (length r.s + length r.t) ^ 2) rows (i + 1) in
    record { next = n; small = omega (arith, ints, n, b, c, w) }
