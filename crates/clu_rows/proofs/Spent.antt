-- The multipliers of a packing are together at most the positive weights of the free pairs.
use Rattle.std.proofs.Common.{◌≡◌, ◌≢◌, ◌⊎◌, inl, inr, ⊎_elim, ℕ, ◌<◌, ℤ, pos, negsuc, neg_ℤ, ◌+ℤ◌, ◌-ℤ◌, ◌*ℤ◌, ◌≤ℤ◌, List, [], ◌∷◌, ◌++◌, Bool, true, false, not, refl, sym, ap, ◌∙◌, subst, arith}
use Rattle.std.proofs.lemmas.Int.{ints}
use Rattle.clu_partition.specs.Sums.{total, pair_total, only_if}
use Rattle.clu_partition.specs.Pairs.{weight_of}
use Rattle.clu_rows.specs.Rows.{TwoSet, sign, names_group, coefficient}
use Rattle.clu_partition.specs.Sums.{positive}
use Rattle.clu_partition.proofs.SumLaws.{Each, Among, Rising, total_le, total_cong, below_later, total_append, pair_least, only_least}
use Rattle.clu_partition.proofs.TableLaws.{weight_sym}
use Rattle.clu_partition.proofs.Regroup.{leaders_rising, between_sym}
use Rattle.clu_state.specs.State.{State, IsState, leader, are_apart, kept_apart, group_leaders}
use Rattle.clu_state.proofs.Bridge.{leader_among, state_are_groups}
use Rattle.clu_partition.proofs.JoinLaws.{joins_turn}
use Rattle.clu_rows.specs.Packing.{left_of, Three, CanApply, triangle, IsPacking}
use Rattle.clu_rows.specs.Packing.IsPacking.{nothing, one_more}
use Rattle.clu_rows.specs.Table.{SamePair}
use Rattle.clu_rows.proofs.Steps.{by_pair}
use Rattle.clu_rows.proofs.Signs.{tests, signs_of, none_first, none_second, left_after, away}
use Rattle.clu_partition.proofs.PairLaws.{one_less}
use Rattle.std.proofs.lemmas.Bool.{true≢false, false≢true}

-- ---- sums that fall at one pair
total_drop : (f g : ℕ → ℤ) (y v x : ℕ) (xs : List ℕ) → Each (λ z. x < z) xs → ((z : ℕ) → x < z → f z ≤ℤ g z) → (f v +ℤ pos y) ≤ℤ g v → Among v xs → (total f xs +ℤ pos y) ≤ℤ total g xs
total_drop f g y v x [] e h d m = absurd m
total_drop f g y v x (z ∷ zs) e h d m = ⊎_elim
    (λ q. let a = ap f q in let b = ap g q in let c = total_le f g (λ z. x < z) zs e.1 h in omega (arith, ints, a, b, c, d))
    (λ n. let a = total_drop f g y v x zs e.1 h d n in let b = h z e.0 in omega (arith, ints, a, b))
    m

pair_le_rising : (f g : ℕ → ℕ → ℤ) (xs : List ℕ) → Rising xs → ((x z : ℕ) → x < z → f x z ≤ℤ g x z) → pair_total f xs ≤ℤ pair_total g xs
pair_le_rising f g [] r h = omega (arith, ints)
pair_le_rising f g (x ∷ xs) r h = let a = pair_le_rising f g xs r.1 h in let b = total_le (f x) (g x) (λ z. x < z) xs r.0 (λ z l. h x z l) in omega (arith, ints, a, b)

pub pair_drop : (f g : ℕ → ℕ → ℤ) (y u v : ℕ) (xs : List ℕ) → Rising xs → ((x z : ℕ) → x < z → f x z ≤ℤ g x z) → u < v → (f u v +ℤ pos y) ≤ℤ g u v → Among u xs → Among v xs → (pair_total f xs +ℤ pos y) ≤ℤ pair_total g xs
pair_drop f g y u v [] r h l d m n = absurd m
pair_drop f g y u v (x ∷ xs) r h l d m n = ⊎_elim
    (λ q. ⊎_elim
    (λ p. absurd (omega (arith, p, q, l)))
    (λ k.
    let a = pair_le_rising f g xs r.1 h in
    let b = total_drop (f u) (g u) y v u xs (subst (λ c. Each (λ z. c < z) xs) (sym q) r.0) (λ z j. h u z j) d k in
    let e = ap (λ c. total (f c) xs) q in
    let i = ap (λ c. total (g c) xs) q in
    omega (arith, ints, a, b, e, i))
    n)
    (λ k.
    let ux = below_later u x xs r.0 k in
    let n' : Among v xs = ⊎_elim (λ p. absurd (omega (arith, p, ux, l))) (λ j. j) n in
    let a = pair_drop f g y u v xs r.1 h l d k n' in
    let b = total_le (f x) (g x) (λ z. x < z) xs r.0 (λ z j. h x z j) in
    omega (arith, ints, a, b))
    m

-- ---- either way round
sign_turn : (sa ta sb tb : Bool) → sign sa ta sb tb ≡ sign sb tb sa ta
sign_turn true true true true = refl
sign_turn true true true false = refl
sign_turn true true false true = refl
sign_turn true true false false = refl
sign_turn true false true true = refl
sign_turn true false true false = refl
sign_turn true false false true = refl
sign_turn true false false false = refl
sign_turn false true true true = refl
sign_turn false true true false = refl
sign_turn false true false true = refl
sign_turn false true false false = refl
sign_turn false false true true = refl
sign_turn false false true false = refl
sign_turn false false false true = refl
sign_turn false false false false = refl

left_turn : (s : State) (rows : List TwoSet) (x z : ℕ) → left_of s rows x z ≡ left_of s rows z x
left_turn s rows x z =
    let a = between_sym (weight_of s.pairs) (weight_sym s.pairs) (leader s) s.members (leader s x) (leader s z) in
    let b = total_cong (λ (r : TwoSet). pos r.y *ℤ coefficient (leader s) r x z) (λ r. pos r.y *ℤ coefficient (leader s) r z x) rows (λ r. ap (λ k. pos r.y *ℤ k) (sign_turn (names_group (leader s) r.s x) (names_group (leader s) r.t x) (names_group (leader s) r.s z) (names_group (leader s) r.t z))) in
    omega (arith, ints, a, b)

-- ---- a step
abbrev pub gain_left : State → List TwoSet → ℕ → ℕ → ℤ
gain_left s rows x z = only_if (not (are_apart s x z)) (pos (positive (left_of s rows x z)))

fall_two : (apart : Bool) (y : ℕ) (r' r k : ℤ) → apart ≡ false → pos y ≤ℤ r → r' ≡ r -ℤ pos y *ℤ k → k ≡ pos 1 → (only_if (not apart) (pos (positive r')) +ℤ pos y) ≤ℤ only_if (not apart) (pos (positive r))
fall_two true y r' r k e l q h = absurd (true≢false e)
fall_two false y r' r k e l q h = let m = ap (λ k. pos y *ℤ k) h in by_sign r' r (omega (arith, ints, q, m)) l
  where
    by_sign : (r' r : ℤ) → r' ≡ r -ℤ pos y → pos y ≤ℤ r → (pos (positive r') +ℤ pos y) ≤ℤ pos (positive r)
    by_sign (pos n) (pos m) e l = omega (arith, ints, e)
    by_sign (pos n) (negsuc m) e l = absurd (omega (arith, ints, l))
    by_sign (negsuc n) (pos m) e l = absurd (omega (arith, ints, e, l))
    by_sign (negsuc n) (negsuc m) e l = absurd (omega (arith, ints, l))

stay_third : (apart : Bool) (y : ℕ) (r' r k : ℤ) → (apart ≡ true) ⊎ (r ≤ℤ neg_ℤ (pos y)) → r' ≡ r -ℤ pos y *ℤ k → k ≡ negsuc 0 → only_if (not apart) (pos (positive r')) ≤ℤ only_if (not apart) (pos (positive r))
stay_third true y r' r k c q h = omega (arith, ints)
stay_third false y r' r k c q h = ⊎_elim (λ e. absurd (false≢true e)) (λ l. let m = ap (λ k. pos y *ℤ k) h in by_sign r' r (omega (arith, ints, q, m)) l) c
  where
    by_sign : (r' r : ℤ) → r' ≡ r +ℤ pos y → r ≤ℤ neg_ℤ (pos y) → pos (positive r') ≤ℤ pos (positive r)
    by_sign (pos n) (pos m) e l = omega (arith, ints, e, l)
    by_sign (pos n) (negsuc m) e l = omega (arith, ints, e, l)
    by_sign (negsuc n) (pos m) e l = omega (arith, ints)
    by_sign (negsuc n) (negsuc m) e l = omega (arith, ints)

stay_other : (apart : Bool) (y : ℕ) (r' r k : ℤ) → r' ≡ r -ℤ pos y *ℤ k → k ≡ pos 0 → only_if (not apart) (pos (positive r')) ≤ℤ only_if (not apart) (pos (positive r))
stay_other apart y r' r k q h = let m = ap (λ k. pos y *ℤ k) h in let e : r' ≡ r = omega (arith, ints, q, m) in subst (λ t. only_if (not apart) (pos (positive t)) ≤ℤ only_if (not apart) (pos (positive r))) (sym e) (omega (arith, ints))

less_of : (a b : ℤ) (y : ℕ) → (a +ℤ pos y) ≤ℤ b → a ≤ℤ b
less_of a b y h = omega (arith, ints, h)

far : (u v w x z : ℕ) → x ≢ z → (SamePair u v x z → ⊥) → (SamePair u w x z → ⊥) → (SamePair v w x z → ⊥) → tests u v w x z ≡ pos 0
far u v w x z d ab ac bc = ⊎_elim
    (λ h. none_first u v w x z (λ e. h.0 (sym e)) (λ e. h.1 (sym e)) (λ e. h.2 (sym e)))
    (λ h. none_second u v w x z (λ e. h.0 (sym e)) (λ e. h.1 (sym e)) (λ e. h.2 (sym e)))
    (away u v w x z d ab ac bc)

step : (s : State) → IsState s → (rows : List TwoSet) (u v w y : ℕ) → Three s u v w → CanApply s rows u v w y → (pair_total (gain_left s (rows ++ triangle u v w y ∷ [])) (group_leaders s) +ℤ pos y) ≤ℤ pair_total (gain_left s rows) (group_leaders s)
step s i rows u v w y t c =
    let after = λ (x z : ℕ). left_after s rows u v w y x z t.first_least t.second_least t.third_least in
    let sg = signs_of u v w t.one_two t.one_three t.two_three in
    let turn = λ (x z : ℕ). joins_turn (leader s) (kept_apart s) x z in
    let uv = fall_two (are_apart s u v) y _ _ _ c.first_free c.first (after u v) sg.one_two in
    let vu = fall_two (are_apart s v u) y _ _ _ (turn v u ∙ c.first_free) (let e = left_turn s rows v u in let l = c.first in omega (arith, ints, e, l)) (after v u) sg.two_one in
    let uw = fall_two (are_apart s u w) y _ _ _ c.second_free c.second (after u w) sg.one_three in
    let wu = fall_two (are_apart s w u) y _ _ _ (turn w u ∙ c.second_free) (let e = left_turn s rows w u in let l = c.second in omega (arith, ints, e, l)) (after w u) sg.three_one in
    let vw = stay_third (are_apart s v w) y _ _ _ c.third (after v w) sg.two_three in
    let wv = stay_third (are_apart s w v) y _ _ _ (⊎_elim (λ e. inl (turn w v ∙ e)) (λ l. inr (let e = left_turn s rows w v in omega (arith, ints, e, l))) c.third) (after w v) sg.three_two in
    let all : ((x z : ℕ) → x < z → gain_left s (rows ++ triangle u v w y ∷ []) x z ≤ℤ gain_left s rows x z) = λ x z l. by_pair (λ x z. gain_left s (rows ++ triangle u v w y ∷ []) x z ≤ℤ gain_left s rows x z) u v w x z
    (less_of _ _ y uv) (less_of _ _ y vu) (less_of _ _ y uw) (less_of _ _ y wu) vw wv
    (λ m n o. stay_other (are_apart s x z) y _ _ _ (after x z) (far u v w x z (λ e. omega (arith, e, l)) m n o)) in
    let r = leaders_rising (leader s) s.members (state_are_groups s i) in
    let mu : Among u (group_leaders s) = subst (λ x. Among x (group_leaders s)) t.first_least (leader_among s i u t.first) in
    let mv : Among v (group_leaders s) = subst (λ x. Among x (group_leaders s)) t.second_least (leader_among s i v t.second) in
    ⊎_elim
    (λ l. pair_drop (gain_left s (rows ++ triangle u v w y ∷ [])) (gain_left s rows) y u v (group_leaders s) r all l uv mu mv)
    (λ l. pair_drop (gain_left s (rows ++ triangle u v w y ∷ [])) (gain_left s rows) y v u (group_leaders s) r all l vu mv mu)
    (one_less u v t.one_two)

unfoldable pub y_of : TwoSet → ℤ
y_of r = pos r.y

pub y_more : (rows : List TwoSet) (u v w y : ℕ) → total y_of (rows ++ triangle u v w y ∷ []) ≡ total y_of rows +ℤ pos y
unfolding y_of
y_more rows u v w y = let h = total_append (λ (r : TwoSet). pos r.y) rows (triangle u v w y ∷ []) in omega (arith, ints, h)

pub spent : (s : State) → IsState s → {rows : List TwoSet} → IsPacking s rows → (pair_total (gain_left s rows) (group_leaders s) +ℤ total y_of rows) ≤ℤ pair_total (gain_left s []) (group_leaders s)
spent s i nothing = omega (arith, ints)
spent s i (one_more {rows} {a} {b} {c} {y} p t l can) =
    let h = spent s i p in
    let k = step s i rows a b c y t can in
    let e = y_more rows a b c y in
    omega (arith, ints, h, k, e)

pub y_none : pos 0 ≡ pos 9 *ℤ total y_of []
y_none = omega (arith, ints)

pub spent_least : (s : State) (rows : List TwoSet) → pos 0 ≤ℤ pair_total (gain_left s rows) (group_leaders s)
spent_least s rows = pair_least (gain_left s rows) (group_leaders s) (λ x z. only_least (not (are_apart s x z)) (positive (left_of s rows x z)))
