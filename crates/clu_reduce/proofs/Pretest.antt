-- One sum for each group tells at once of most pairs that no condition holds: a sum over all groups but u itself, which needn't be
-- made again for each v.
use Rattle.std.proofs.Common.{◌≡◌, ◌≢◌, ℕ, ℤ, pos, negsuc, ◌+ℤ◌, ◌≤ℤ◌, ◌<ℤ◌, List, Bool, true, false, not, refl, sym, arith, unsigned_abs}
use Rattle.std.proofs.lemmas.Int.{ints}
use Rattle.clu_partition.specs.Sums.{total, only_if, positive}
use Rattle.clu_partition.proofs.SumLaws.{Among, Rising, total_cong_on, total_add, total_least, only_least}
use Rattle.clu_partition.proofs.ListLaws.{each_and}
use Rattle.clu_partition.proofs.Regroup.{filter_total}
use Rattle.clu_partition.proofs.TakeOut.{TwoOut, two_out}
use Rattle.clu_reduce.specs.Conditions.{is_other, others, gain, stake, AreInseparable, IsHeavy}
use Rattle.clu_reduce.proofs.Exchange.{out_total, other_true, other_first, other_second}

-- the sum of u's row: over all groups but u
abbrev pub row_of : (ℕ → ℤ) → List ℕ → ℕ → ℤ
row_of f groups u = total f (others groups u u)

others_rest : (f : ℕ → ℤ) (groups : List ℕ) (u v : ℕ) (o : TwoOut groups u v) → total f (others groups u v) ≡ total f o.rest
others_rest f groups u v o =
    let a = filter_total f (is_other u v) groups in
    let b = out_total (λ x. only_if (is_other u v x) (f x)) groups u v o in
    let c = other_first u v (f u) in
    let d = other_second u v (f v) in
    let e = total_cong_on (λ x. only_if (is_other u v x) (f x)) f (λ x. (x ≢ u) × (x ≢ v)) o.rest
    (each_and (λ x. x ≢ u) (λ x. x ≢ v) o.rest o.not_first o.not_second) (λ x n. other_true u v x (f x) n.0 n.1) in
    omega (arith, ints, a, b, c, d, e)

row_rest : (f : ℕ → ℤ) (groups : List ℕ) (u v : ℕ) (o : TwoOut groups u v) → u ≢ v → row_of f groups u ≡ f v +ℤ total f o.rest
row_rest f groups u v o n =
    let a = filter_total f (is_other u u) groups in
    let b = out_total (λ x. only_if (is_other u u x) (f x)) groups u v o in
    let c = other_first u u (f u) in
    let d = other_true u u v (f v) (λ e. n (sym e)) (λ e. n (sym e)) in
    let e = total_cong_on (λ x. only_if (is_other u u x) (f x)) f (λ x. x ≢ u) o.rest o.not_first (λ x k. other_true u u x (f x) k k) in
    omega (arith, ints, a, b, c, d, e)

gain_least : (w : ℕ → ℕ → ℤ) (apart : ℕ → ℕ → Bool) (u x : ℕ) → pos 0 ≤ℤ gain w apart u x
gain_least w apart u x = only_least (not (apart u x)) (positive (w u x))

stake_least : (w : ℕ → ℕ → ℤ) (apart : ℕ → ℕ → Bool) (u x : ℕ) → pos 0 ≤ℤ stake w apart u x
stake_least w apart u x = only_least (not (apart u x)) (unsigned_abs (w u x))

gain_most : (b : Bool) (z : ℤ) → pos 0 ≤ℤ z → only_if (not b) (pos (positive z)) ≤ℤ z
gain_most true z l = l
gain_most false (pos n) l = omega (arith, ints)
gain_most false (negsuc n) l = absurd (omega (arith, ints, l))

stake_most : (b : Bool) (z : ℤ) → pos 0 ≤ℤ z → only_if (not b) (pos (unsigned_abs z)) ≤ℤ z
stake_most true z l = l
stake_most false z l = omega (arith, ints, l)

gain_none : (b : Bool) (z : ℤ) → z <ℤ pos 0 → only_if (not b) (pos (positive z)) ≡ pos 0
gain_none true z l = refl
gain_none false (pos n) l = absurd (omega (arith, ints, l))
gain_none false (negsuc n) l = refl

module _ (w : ℕ → ℕ → ℤ) (apart : ℕ → ℕ → Bool) (groups : List ℕ) (up : Rising groups) (u v : ℕ) (mu : Among u groups) (mv : Among v groups)
    (n : u ≢ v) where
  -- a pair's weight is at least half of u's row
  pub pair_row : AreInseparable w apart groups u v → row_of (gain w apart u) groups u ≤ℤ (w u v +ℤ w u v)
  pair_row h =
      let a = others_rest (λ x. gain w apart u x +ℤ gain w apart v x) groups u v (two_out groups u v up mu mv n) in
      let b = row_rest (gain w apart u) groups u v (two_out groups u v up mu mv n) n in
      let c = total_add (gain w apart u) (gain w apart v) (two_out groups u v up mu mv n).rest in
      let d = total_least (gain w apart u) (two_out groups u v up mu mv n).rest (gain_least w apart u) in
      let e = total_least (gain w apart v) (two_out groups u v up mu mv n).rest (gain_least w apart v) in
      let k = h.enough in
      let l : pos 0 ≤ℤ w u v = omega (arith, ints, a, c, d, e, k) in
      let m = gain_most (apart u v) (w u v) l in
      omega (arith, ints, a, b, c, e, k, m)

  -- so is a heavy one's
  pub heavy_row : IsHeavy w apart groups u v → row_of (stake w apart u) groups u ≤ℤ (w u v +ℤ w u v)
  heavy_row h =
      let a = others_rest (stake w apart u) groups u v (two_out groups u v up mu mv n) in
      let b = row_rest (stake w apart u) groups u v (two_out groups u v up mu mv n) n in
      let d = total_least (stake w apart u) (two_out groups u v up mu mv n).rest (stake_least w apart u) in
      let k = h.enough in
      let l : pos 0 ≤ℤ w u v = omega (arith, ints, a, d, k) in
      let m = stake_most (apart u v) (w u v) l in
      omega (arith, ints, a, b, k, m)

  -- u's row is no more than a light pair loses, and that says it all
  pub light_row : w u v <ℤ pos 0 → row_of (gain w apart u) groups u ≡ total (gain w apart u) (others groups u v)
  light_row l =
      let a = others_rest (gain w apart u) groups u v (two_out groups u v up mu mv n) in
      let b = row_rest (gain w apart u) groups u v (two_out groups u v up mu mv n) n in
      let m = gain_none (apart u v) (w u v) l in
      omega (arith, ints, a, b, m)
