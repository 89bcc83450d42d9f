-- Lists that rise, as far as a walk over them has come.
use Rattle.std.proofs.Common.{◌≡◌, ℕ, ◌+◌, ◌-◌, ◌<◌, ◌≤◌, ⊎_elim, List, length, slice_index, get_or, false, is_le, nat_cmp, sym, ◌∙◌, ap, arith}
use Rattle.std.proofs.lemmas.Bool.{cases_lt}
use Rattle.std.proofs.lemmas.Grind.{get_or_default_zero}

not_le : (x y : ℕ) → is_le (nat_cmp x y) ≡ false → y < x
not_le x y e = grind arith

pub rising_more : (part : List ℕ) (i x y : ℕ) → 1 ≤ i → i < length part → ((a b : ℕ) → a < b → b < i → slice_index part a < slice_index part b)
    → x ≡ get_or part i x → y ≡ get_or part (i - 1) y → is_le (nat_cmp x y) ≡ false
    → (a b : ℕ) → a < b → b < i + 1 → slice_index part a < slice_index part b
rising_more part i x y low at old isx isy test a b l m = ⊎_elim
    (λ before. old a b l before)
    (λ now.
    let here : b ≡ i = omega arith in
    let top : slice_index part b ≡ x = ap (slice_index part) here ∙ sym (get_or_default_zero part i x at) ∙ sym isx in
    let last : slice_index part (i - 1) ≡ y = sym (get_or_default_zero part (i - 1) y (omega arith)) ∙ sym isy in
    let up = not_le x y test in
    ⊎_elim
    (λ earlier. let h = old a (i - 1) earlier (omega arith) in omega (arith, h, top, last, up))
    (λ same. let e : a ≡ i - 1 = omega arith in let f = ap (slice_index part) e in omega (arith, f, top, last, up))
    (cases_lt a (i - 1)))
    (cases_lt b i)
