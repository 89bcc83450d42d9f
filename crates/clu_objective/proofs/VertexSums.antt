-- Running sums over lines and over vertices.
use Rattle.std.proofs.Common.{◌≡◌, ℕ, ◌+◌, ◌<◌, ◌≤◌, ◌^◌, ℤ, pos, ◌+ℤ◌, ◌-ℤ◌, ◌*ℤ◌, ◌≤ℤ◌, ◌==◌, List, [], ◌∷◌, length, get_or, take, unsigned_abs, to_z, of_z, ◌∙◌, ap, arith}
use Rattle.std.specs.Int.{w128}
use Rattle.std.proofs.lemmas.Int.{ints}
use Rattle.std.proofs.lemmas.List.Sums.{sum_by-cons, sum_by-take-le}
use Rattle.clu_partition.specs.Partition.{below}
use Rattle.clu_partition.specs.Sums.{total, only_if}
use Rattle.clu_partition.proofs.Ranges.{below_more}
use Rattle.clu_partition.proofs.SumLaws.{total_next, total_append}
use Rattle.clu_network.specs.declared.network.NetLine.{NetLine}
use Rattle.clu_objective.specs.Lines.{all_sizes}
use Rattle.clu_objective.proofs.ModularBits.{product_in}
use Rattle.clu_partition.proofs.ValueSizes.{only_size}

-- one vertex more
pub total_more : (f : ℕ → ℤ) (u : ℕ) → total f (below (u + 1)) ≡ total f (below u) +ℤ f u
total_more f u = let e = ap (total f) (below_more u) in let a = total_append f (below u) (u ∷ []) in omega (arith, ints, e, a)

loops_size : (lines : List NetLine) → unsigned_abs (total (λ l. only_if (l.u == l.v) l.weight) lines) ≤ all_sizes lines
loops_size [] = omega (arith, ints)
loops_size (l ∷ lines) =
    let h = loops_size lines in
    let k = only_size (l.u == l.v) l.weight in
    let s = sum_by-cons (λ (m : NetLine). unsigned_abs m.weight) l lines in
    omega (arith, ints, h, k, s)

-- one loop more
pub loops_next : (lines : List NetLine) (i : ℕ) (l : NetLine) (sum r : ℤ) → i < length lines → l ≡ get_or lines i l → all_sizes lines ≤ 2 ^ 43
    → sum ≡ total (λ m. only_if (m.u == m.v) m.weight) (take i lines) → r ≡ only_if (l.u == l.v) l.weight
    → (sum +ℤ r ≡ total (λ m. only_if (m.u == m.v) m.weight) (take (i + 1) lines)) × (unsigned_abs (sum +ℤ r) ≤ 2 ^ 43)
loops_next lines i l sum r at is few before one =
    let next = total_next (λ m. only_if (m.u == m.v) m.weight) i lines l at in
    let same = ap (λ (m : NetLine). only_if (m.u == m.v) m.weight) is in
    let size = loops_size (take (i + 1) lines) in
    let most = sum_by-take-le (λ (m : NetLine). unsigned_abs m.weight) lines (i + 1) in
    (omega (arith, ints, before, one, next, same), omega (arith, ints, before, one, next, same, size, most, few))

-- one square more
pub squares_next : (xs : List ℤ) (u : ℕ) (sum r : ℤ) → sum ≡ total (λ v. get_or xs v (pos 0) *ℤ get_or xs v (pos 0)) (below u) → r ≡ get_or xs u (pos 0) *ℤ get_or xs u (pos 0)
    → sum +ℤ r ≡ total (λ v. get_or xs v (pos 0) *ℤ get_or xs v (pos 0)) (below (u + 1))
squares_next xs u sum r before one = let m = total_more (λ v. get_or xs v (pos 0) *ℤ get_or xs v (pos 0)) u in omega (arith, ints, before, one, m)

-- the base within 128 bits
pub base_bits : (a l s a' l' s' : ℤ) → a' ≡ a → l' ≡ l → s' ≡ s → pos 0 ≤ℤ a → a ≤ℤ pos (2 ^ 43) → pos 0 ≤ℤ l → l ≤ℤ pos (2 ^ 43) → unsigned_abs s ≤ 2 ^ 100
    → to_z w128 (of_z w128 (to_z w128 (of_z w128 (to_z w128 (of_z w128 (pos 4 *ℤ a')) *ℤ l')) -ℤ s')) ≡ pos 4 *ℤ a *ℤ l -ℤ s
base_bits a l s a' l' s' ea el es a0 a1 l0 l1 small =
    let p = product_in (pos 4 *ℤ a) l (2 ^ 45) (2 ^ 43) (omega (arith, ints, a0)) (omega (arith, ints, a1)) l0 l1 in
    let four : to_z w128 (of_z w128 (pos 4 *ℤ a')) ≡ pos 4 *ℤ a = omega (arith, ints, ea, a0, a1) in
    let fits : to_z w128 (of_z w128 (pos 4 *ℤ a *ℤ l)) ≡ pos 4 *ℤ a *ℤ l = omega (arith, ints, p.0, p.1) in
    let plus : to_z w128 (of_z w128 (to_z w128 (of_z w128 (pos 4 *ℤ a')) *ℤ l')) ≡ pos 4 *ℤ a *ℤ l =
    ap (λ k. to_z w128 (of_z w128 (k *ℤ l'))) four ∙ ap (λ k. to_z w128 (of_z w128 (pos 4 *ℤ a *ℤ k))) el ∙ fits in
    omega (arith, ints, plus, es, p.0, p.1, small)
