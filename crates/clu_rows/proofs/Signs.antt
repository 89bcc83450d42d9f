-- The coefficients of a triangle, and what is left after one more.
use Rattle.std.proofs.Common.{◌≡◌, ◌≢◌, ℕ, ℤ, pos, negsuc, ◌-ℤ◌, ◌*ℤ◌, List, [], ◌∷◌, ◌++◌, Bool, true, false, ◌||◌, ◌==◌, refl, sym, ap, ◌∙◌, arith, ◌⊎◌, inl, inr, ⊎_elim}
use Rattle.std.proofs.lemmas.Int.{ints}
use Rattle.std.proofs.lemmas.Bool.{eq-eqb, ne_eqb, cases_eq}
use Rattle.clu_rows.specs.Rows.{TwoSet, sign, coefficient}
use Rattle.clu_state.specs.State.{State, leader}
use Rattle.clu_rows.specs.Packing.{left_of, triangle}
use Rattle.clu_partition.proofs.SumLaws.{total_append}
use Rattle.clu_rows.specs.Table.{SamePair}

-- the sign by the six tests
pub signs : Bool → Bool → Bool → Bool → Bool → Bool → ℤ
signs p q r p' q' r' = sign (p || false) (q || (r || false)) (p' || false) (q' || (r' || false))

no_first : (p' q' r' : Bool) → signs false false false p' q' r' ≡ pos 0
unfolding signs
no_first p' true r' = refl
no_first p' false true = refl
no_first p' false false = refl

no_second : (p q r : Bool) → signs p q r false false false ≡ pos 0
unfolding signs
no_second true true r = refl
no_second true false true = refl
no_second true false false = refl
no_second false true r = refl
no_second false false true = refl
no_second false false false = refl

pub tests : ℕ → ℕ → ℕ → ℕ → ℕ → ℤ
tests u v w x z = signs (u == x) (v == x) (w == x) (u == z) (v == z) (w == z)

coefficient_is : (s : State) (u v w y x z : ℕ) → leader s u ≡ u → leader s v ≡ v → leader s w ≡ w → coefficient (leader s) (triangle u v w y) x z ≡ tests u v w x z
unfolding signs tests
coefficient_is s u v w y x z p q r =
    ap (λ k. sign ((k == x) || false) ((leader s v == x) || ((leader s w == x) || false)) ((k == z) || false) ((leader s v == z) || ((leader s w == z) || false))) p ∙
    ap (λ k. sign ((u == x) || false) ((k == x) || ((leader s w == x) || false)) ((u == z) || false) ((k == z) || ((leader s w == z) || false))) q ∙
    ap (λ k. sign ((u == x) || false) ((v == x) || ((k == x) || false)) ((u == z) || false) ((v == z) || ((k == z) || false))) r

-- the coefficients at the three pairs, both ways round, and elsewhere
pub record Signs (u v w : ℕ) : Type 0 where
  pub one_two : tests u v w u v ≡ pos 1
  pub one_three : tests u v w u w ≡ pos 1
  pub two_three : tests u v w v w ≡ negsuc 0
  pub two_one : tests u v w v u ≡ pos 1
  pub three_one : tests u v w w u ≡ pos 1
  pub three_two : tests u v w w v ≡ negsuc 0

set_tests : {p q r p' q' r' a b c a' b' c' : Bool} → p ≡ a → q ≡ b → r ≡ c → p' ≡ a' → q' ≡ b' → r' ≡ c' → signs p q r p' q' r' ≡ signs a b c a' b' c'
set_tests e f g h i j = cc

pub signs_of : (u v w : ℕ) → u ≢ v → u ≢ w → v ≢ w → Signs u v w
unfolding signs tests
signs_of u v w uv uw vw =
    let uu = eq-eqb u u refl in
    let vv = eq-eqb v v refl in
    let ww = eq-eqb w w refl in
    let u_v = ne_eqb u v uv in
    let v_u = ne_eqb v u (λ e. uv (sym e)) in
    let u_w = ne_eqb u w uw in
    let w_u = ne_eqb w u (λ e. uw (sym e)) in
    let v_w = ne_eqb v w vw in
    let w_v = ne_eqb w v (λ e. vw (sym e)) in
    record {
      one_two = set_tests uu v_u w_u u_v vv w_v;
      one_three = set_tests uu v_u w_u u_w v_w ww;
      two_three = set_tests u_v vv w_v u_w v_w ww;
      two_one = set_tests u_v vv w_v uu v_u w_u;
      three_one = set_tests u_w v_w ww uu v_u w_u;
      three_two = set_tests u_w v_w ww u_v vv w_v;
    }

pub none_first : (u v w x z : ℕ) → u ≢ x → v ≢ x → w ≢ x → tests u v w x z ≡ pos 0
unfolding tests
none_first u v w x z p q r = set_tests {p' = u == z} {q' = v == z} {r' = w == z} (ne_eqb u x p) (ne_eqb v x q) (ne_eqb w x r) refl refl refl ∙ no_first (u == z) (v == z) (w == z)

pub none_second : (u v w x z : ℕ) → u ≢ z → v ≢ z → w ≢ z → tests u v w x z ≡ pos 0
unfolding tests
none_second u v w x z p q r = set_tests {p = u == x} {q = v == x} {r = w == x} refl refl refl (ne_eqb u z p) (ne_eqb v z q) (ne_eqb w z r) ∙ no_second (u == x) (v == x) (w == x)

-- a pair that is none of three has a part that is none of their parts
pub away : (a b c x z : ℕ) → x ≢ z → (SamePair a b x z → ⊥) → (SamePair a c x z → ⊥) → (SamePair b c x z → ⊥) → ((x ≢ a) × (x ≢ b) × (x ≢ c)) ⊎ ((z ≢ a) × (z ≢ b) × (z ≢ c))
away a b c x z d ab ac bc = ⊎_elim
    (λ xa. inr ((λ za. d (xa ∙ sym za)), (λ zb. ab (same a b xa zb)), (λ zc. ac (same a c xa zc))))
    (λ na. ⊎_elim
    (λ xb. inr ((λ za. ab (turned a b xb za)), (λ zb. d (xb ∙ sym zb)), (λ zc. bc (same b c xb zc))))
    (λ nb. ⊎_elim
    (λ xc. inr ((λ za. ac (turned a c xc za)), (λ zb. bc (turned b c xc zb)), (λ zc. d (xc ∙ sym zc))))
    (λ nc. inl (na, nb, nc))
    (cases_eq x c))
    (cases_eq x b))
    (cases_eq x a)
  where
    same : (a b : ℕ) → x ≡ a → z ≡ b → SamePair a b x z
    same a b e f = (omega (arith, e, f), omega (arith, e, f))

    turned : (a b : ℕ) → x ≡ b → z ≡ a → SamePair a b x z
    turned a b e f = (omega (arith, e, f), omega (arith, e, f))

-- one more triangle takes its multiplier times the sign
pub left_after : (s : State) (rows : List TwoSet) (u v w y x z : ℕ) → leader s u ≡ u → leader s v ≡ v → leader s w ≡ w →
    left_of s (rows ++ triangle u v w y ∷ []) x z ≡ left_of s rows x z -ℤ pos y *ℤ tests u v w x z
left_after s rows u v w y x z p q r =
    let h = total_append (λ (t : TwoSet). pos t.y *ℤ coefficient (leader s) t x z) rows (triangle u v w y ∷ []) in
    let e = ap (λ k. pos y *ℤ k) (coefficient_is s u v w y x z p q r) in
    omega (arith, ints, h, e)
