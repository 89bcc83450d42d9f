-- Degrees that grow by a line, and their sizes.
use Rattle.std.proofs.Common.{◌≡◌, ◌≢◌, ⊎_elim, ℕ, ◌+◌, ◌*◌, ◌<◌, ◌≤◌, ◌^◌, ℤ, pos, ◌+ℤ◌, ◌==◌, List, [], ◌∷◌, length, get_or, slice_set, take, unsigned_abs, get_or-set_same, get_or-set_other, refl, sym, ◌∙◌, ap, subst, arith}
use Rattle.std.proofs.lemmas.Int.{ints}
use Rattle.std.proofs.lemmas.Bool.{cases_eq}
use Rattle.std.proofs.lemmas.List.Sums.{sum_by-cons, sum_by-take-le}
use Rattle.clu_partition.specs.Sums.{only_if}
use Rattle.clu_partition.proofs.SumLaws.{total_next, only_same, only_other}
use Rattle.clu_network.specs.declared.network.NetLine.{NetLine}
use Rattle.clu_objective.specs.Lines.{degree, all_sizes}
use Rattle.clu_partition.proofs.ValueSizes.{only_size}

-- a write that adds at one place
pub added_at : (xs : List ℤ) (v k u : ℕ) (new w : ℤ) → k ≡ v → v < length xs → new ≡ get_or xs v (pos 0) +ℤ w → u < length xs
    → get_or (slice_set xs k new) u (pos 0) ≡ get_or xs u (pos 0) +ℤ only_if (v == u) w
added_at xs v k u new w place at is within = ⊎_elim
    (λ e.
    let here : get_or (slice_set xs k new) u (pos 0) ≡ new = subst (λ j. get_or (slice_set xs k new) j (pos 0) ≡ new) (place ∙ e) (let l : k < length xs = omega arith in rw get_or-set_same refl) in
    here ∙ is ∙ ap (λ j. get_or xs j (pos 0) +ℤ w) e ∙ ap (λ z. get_or xs u (pos 0) +ℤ z) (sym (only_same v u w e)))
    (λ d.
    let far : u ≢ k = λ e. d (sym place ∙ sym e) in
    let there : get_or (slice_set xs k new) u (pos 0) ≡ get_or xs u (pos 0) = rw get_or-set_other refl in
    let none = only_other v u w d in
    omega (arith, ints, there, none))
    (cases_eq v u)

pub degree_size : (lines : List NetLine) (u : ℕ) → unsigned_abs (degree lines u) ≤ 2 * all_sizes lines
degree_size [] u = omega (arith, ints)
degree_size (l ∷ lines) u =
    let h = degree_size lines u in
    let i = only_size (l.u == u) l.weight in
    let j = only_size (l.v == u) l.weight in
    let s = sum_by-cons (λ (m : NetLine). unsigned_abs m.weight) l lines in
    omega (arith, ints, h, i, j, s)

pub degree_next : (lines : List NetLine) (i u : ℕ) (l : NetLine) → i < length lines → l ≡ get_or lines i l
    → degree (take (i + 1) lines) u ≡ degree (take i lines) u +ℤ (only_if (l.u == u) l.weight +ℤ only_if (l.v == u) l.weight)
degree_next lines i u l at is =
    total_next (λ m. only_if (m.u == u) m.weight +ℤ only_if (m.v == u) m.weight) i lines l at ∙
    ap (λ (m : NetLine). degree (take i lines) u +ℤ (only_if (m.u == u) m.weight +ℤ only_if (m.v == u) m.weight)) (sym is)

pub degree_room : (lines : List NetLine) (i u : ℕ) (d : ℤ) → all_sizes lines ≤ 2 ^ 43 → d ≡ degree (take i lines) u → unsigned_abs d ≤ 2 ^ 80
degree_room lines i u d small is =
    let size = degree_size (take i lines) u in
    let most = sum_by-take-le (λ (m : NetLine). unsigned_abs m.weight) lines i in
    omega (arith, ints, is, size, most, small)
