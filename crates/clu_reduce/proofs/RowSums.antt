-- The sum of a row: it fits, and it excludes the pairs of which no step holds.
use Rattle.std.proofs.Common.{◌≡◌, ◌≢◌, ℕ, ℤ, pos, negsuc, ◌+ℤ◌, ◌≤ℤ◌, ◌≤◌, ◌<◌, ◌+◌, ◌*◌, ◌^◌, unsigned_abs, List, length, get_or, drop, Bool, true, false, not, ◌==◌, ◌||◌, Contains, FitsSigned, refl, sym, ap, ◌∙◌, subst, arith}
use Rattle.std.specs.Int.{w128}
use Rattle.std.proofs.lemmas.Int.{ints}
use Rattle.std.proofs.lemmas.Bool.{false≢true, eqb-true, eqb-false, eq-eqb}
use Rattle.std.proofs.lemmas.List.{drop_all}
use Rattle.clu_partition.specs.Sums.{total, only_if, positive}
use Rattle.clu_partition.proofs.SumLaws.{Among, Rising}
use Rattle.clu_partition.proofs.Regroup.{rising_filter, among_filter}
use Rattle.clu_state.specs.State.{State, IsState, leader, are_apart, group_weight, group_leaders}
use Rattle.clu_state.proofs.Bridge.{among_from, rising_from_index}
use Rattle.clu_reduce.specs.Conditions.{is_other, AreInseparable, IsHeavy, IsLight}
use Rattle.clu_reduce.specs.Reduction.{Reduces}
use Rattle.clu_reduce.specs.Rows.{IsRowSum, RowAllows}
use Rattle.clu_reduce.specs.Tests.{cost_of, cost_at}
use Rattle.clu_reduce.specs.declared.step.Kind.{Kind}
use Rattle.clu_reduce.specs.declared.step.Kind.TheVariants.{Twin, Pair, Heavy, Light}
use Rattle.clu_reduce.proofs.Costs.{costs_are, next}
use Rattle.clu_state.proofs.Bounds.{weight_small}
use Rattle.clu_reduce.proofs.Pretest.{pair_row, heavy_row, light_row}

-- ---- the sum
-- the sum so far, and a bound of it that grows with each element
pub record IsSummed (f : ℕ → ℤ) (xs : List ℕ) (i : ℕ) (sum : ℤ) : Type 0 where
  pub whole : sum +ℤ total f (drop i xs) ≡ total f xs
  pub low : pos 0 ≤ℤ sum
  pub high : sum ≤ℤ pos (2 ^ 90 * i)

pub summed_next : (f : ℕ → ℤ) (xs : List ℕ) (i x : ℕ) (sum cost now : ℤ) → IsSummed f xs i sum → i < length xs → x ≡ get_or xs i x → cost ≡ f x →
    pos 0 ≤ℤ f x → f x ≤ℤ pos (2 ^ 90) → now ≡ sum +ℤ cost → IsSummed f xs (i + 1) now
summed_next f xs i x sum cost now h l e c low high n =
    let a = next f xs i x l e in
    let w = h.whole in
    let p = h.low in
    let q = h.high in
    record { whole = omega (arith, ints, a, w, c, n); low = omega (arith, ints, p, low, c, n); high = omega (arith, ints, q, high, c, n) }

pub summed_all : (f : ℕ → ℤ) (xs : List ℕ) (i : ℕ) (sum : ℤ) → IsSummed f xs i sum → length xs ≤ i → sum ≡ total f xs
summed_all f xs i sum h l = let a = ap (total f) (drop_all i xs l) in let w = h.whole in omega (arith, ints, a, w)

pub summed_fits : (f : ℕ → ℤ) (xs : List ℕ) (i : ℕ) (sum cost : ℤ) → IsSummed f xs i sum → i ≤ 1000 → pos 0 ≤ℤ cost → cost ≤ℤ pos (2 ^ 90) → FitsSigned w128 (sum +ℤ cost)
summed_fits f xs i sum cost h l low high = let p = h.low in let q = h.high in omega (arith, ints, p, q, l, low, high)

-- ---- one cost
small_if : (b : Bool) (z : ℤ) → (b ≡ true → z ≤ℤ pos (2 ^ 90)) → only_if b z ≤ℤ pos (2 ^ 90)
small_if true z h = h refl
small_if false z h = omega (arith, ints)

either_part : (b : Bool) (z : ℤ) → unsigned_abs z ≤ 2 ^ 88 → only_if (not b) (pos (positive z)) ≤ℤ pos (2 ^ 88)
either_part true z l = omega (arith, ints)
either_part false (pos n) l = omega (arith, ints, l)
either_part false (negsuc n) l = omega (arith, ints, l)

either_size : (b : Bool) (z : ℤ) → unsigned_abs z ≤ 2 ^ 88 → only_if (not b) (pos (unsigned_abs z)) ≤ℤ pos (2 ^ 88)
either_size true z l = omega (arith, ints)
either_size false z l = omega (arith, ints, l)

by_size : (kind : Kind) (w : ℕ → ℕ → ℤ) (apart : ℕ → ℕ → Bool) (u x : ℕ) → unsigned_abs (w u x) ≤ 2 ^ 88 → cost_of kind w apart u u x ≤ℤ pos (2 ^ 90)
by_size Twin w apart u x l = omega (arith, ints)
by_size Pair w apart u x l = let h = either_part (apart u x) (w u x) l in omega (arith, ints, h)
by_size Heavy w apart u x l = let h = either_size (apart u x) (w u x) l in omega (arith, ints, h)
by_size Light w apart u x l = let h = either_part (apart u x) (w u x) l in omega (arith, ints, h)

not_same : (u x : ℕ) → is_other u u x ≡ true → u ≢ x
not_same u x t e = absurd (false≢true (sym (ap (λ (b : Bool). not (b || (x == u))) (eq-eqb x u (sym e))) ∙ t))

pub cost_small : (s : State) → IsState s → (kind : Kind) (u x : ℕ) → Contains s.members u → Contains s.members x → leader s u ≡ u → cost_at s kind u u x ≤ℤ pos (2 ^ 90)
cost_small s i kind u x cu cx e = small_if (leader s x == x) (only_if (is_other u u x) (cost_of kind (group_weight s) (are_apart s) u u x)) (λ l.
    small_if (is_other u u x) (cost_of kind (group_weight s) (are_apart s) u u x) (λ o.
    by_size kind (group_weight s) (are_apart s) u x (weight_small s i u x cu cx (λ k. not_same u x o (sym e ∙ k ∙ eqb-true (leader s x) x l)))))

-- ---- what the row excludes
module _ (s : State) (i : IsState s) (u v : ℕ) (cu : Contains s.members u) (cv : Contains s.members v) (eu : leader s u ≡ u) (ev : leader s v ≡ v) (n : u ≢ v) where
  up : Rising (group_leaders s)
  up = rising_filter (λ x. leader s x == x) s.members (rising_from_index s.members i.members.rising)

  mu : Among u (group_leaders s)
  mu = among_filter (λ x. leader s x == x) u s.members (eq-eqb (leader s u) u eu) (among_from s.members u cu)

  mv : Among v (group_leaders s)
  mv = among_filter (λ x. leader s x == x) v s.members (eq-eqb (leader s v) v ev) (among_from s.members v cv)

  pub allowed : (kind : Kind) (row : ℤ) → IsRowSum s kind u row → Reduces s (record { kind = kind; u = u; v = v }) → RowAllows kind row (group_weight s u v)
  allowed Twin row is r = tt
  allowed Pair row is r =
      let a = pair_row (group_weight s) (are_apart s) (group_leaders s) up u v mu mv n
      (subst (λ x. AreInseparable (group_weight s) (are_apart s) (group_leaders s) x v) eu (subst (λ y. AreInseparable (group_weight s) (are_apart s) (group_leaders s) (leader s u) y) ev r.holds.allowed)) in
      let b = is eu in
      let c = costs_are s Light u u in
      omega (arith, ints, a, b, c)
  allowed Heavy row is r =
      let a = heavy_row (group_weight s) (are_apart s) (group_leaders s) up u v mu mv n
      (subst (λ x. IsHeavy (group_weight s) (are_apart s) (group_leaders s) x v) eu (subst (λ y. IsHeavy (group_weight s) (are_apart s) (group_leaders s) (leader s u) y) ev r.holds.allowed)) in
      let b = is eu in
      let c = costs_are s Heavy u u in
      omega (arith, ints, a, b, c)
  allowed Light row is r =
      let h : IsLight (group_weight s) (are_apart s) (group_leaders s) u v = subst (λ x. IsLight (group_weight s) (are_apart s) (group_leaders s) x v) eu
      (subst (λ y. IsLight (group_weight s) (are_apart s) (group_leaders s) (leader s u) y) ev r.holds.allowed) in
      let a = light_row (group_weight s) (are_apart s) (group_leaders s) up u v mu mv n h.losing in
      let b = is eu in
      let c = costs_are s Light u u in
      let d = h.enough in
      (h.losing, omega (arith, ints, a, b, c, d))

pub member_in : (xs : List ℕ) (i x : ℕ) → i < length xs → x ≡ get_or xs i x → Contains xs x
member_in xs i x l e = (i, l, sym e)

pub leads_differ : (s : State) (u v : ℕ) → leader s u ≡ u → leader s v ≡ v → u ≢ v → leader s u ≢ leader s v
leads_differ s u v p q n e = n (sym p ∙ e ∙ q)

not_false : (b : Bool) → false ≡ not b → b ≡ true
not_false true e = refl
not_false false e = absurd (false≢true e)

pub same_if : (a b : ℕ) → false ≡ not (a == b) → a ≡ b
same_if a b e = eqb-true a b (not_false (a == b) e)

pub differ_if : (a b : ℕ) → false ≡ (a == b) → a ≢ b
differ_if a b e = eqb-false a b (sym e)
