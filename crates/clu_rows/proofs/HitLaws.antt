-- A row's coefficient as a sum over its vertices.
use Rattle.std.proofs.Common.{◌≡◌, ◌≢◌, ⊎_elim, ℕ, ℤ, pos, ◌+ℤ◌, ◌-ℤ◌, ◌*ℤ◌, List, [], ◌∷◌, ◌++◌, Bool, true, false, ◌&&◌, ◌||◌, ◌==◌, refl, sym, ap, ◌∙◌, arith}
use Rattle.std.proofs.lemmas.Int.{ints}
use Rattle.std.proofs.lemmas.Bool.{ne_eqb, cases_eq, or_from, and_right}
use Rattle.clu_partition.specs.Sums.{total, pair_total, cross_total, only_if}
use Rattle.clu_rows.specs.Rows.{TwoSet, sign, names_group, coefficient}
use Rattle.clu_partition.proofs.SumLaws.{Each, total_cong, total_add}
use Rattle.std.proofs.Common.{All}
use Rattle.std.proofs.lemmas.List.Elements.{All-contains}
use Rattle.clu_state.proofs.Bridge.{each_from}
use Rattle.clu_rows.specs.Prices.{hit}
use Rattle.clu_partition.specs.Groups.{NamesOnce}
use Rattle.clu_partition.proofs.BoolLaws.{not_both}
use Rattle.clu_partition.proofs.PairLaws.{pair_split}
use Rattle.clu_partition.proofs.Regroup.{only_if_total}

-- no two of the vertices name one group, by recursion
abbrev pub Once : (ℕ → ℕ) → List ℕ → Type 0
Once group [] = Unit {0}
Once group (v ∷ vs) = Each (λ w. group v ≢ group w) vs × Once group vs

not_named : (group : ℕ → ℕ) (v x : ℕ) (vs : List ℕ) → Each (λ w. group v ≢ group w) vs → group v ≡ x → names_group group vs x ≡ false
not_named group v x [] e q = refl
not_named group v x (w ∷ vs) e q = or_from (group w == x) (names_group group vs x) (ne_eqb (group w) x (λ h. e.0 (q ∙ sym h))) (not_named group v x vs e.1 q)

named_cases : (group : ℕ → ℕ) (v x : ℕ) (vs : List ℕ) → Each (λ w. group v ≢ group w) vs → ((group v == x) && names_group group vs x) ≡ false
named_cases group v x vs e = ⊎_elim
    (λ q. ap (λ k. (group v == x) && k) (not_named group v x vs e q) ∙ and_right (group v == x) false refl)
    (λ n. ap (λ k. k && names_group group vs x) (ne_eqb (group v) x n))
    (cases_eq (group v) x)

once_step : (p n : Bool) (Z rest : ℤ) → (p && n) ≡ false → rest ≡ only_if n Z → only_if p Z +ℤ rest ≡ only_if (p || n) Z
once_step true true Z rest d h = absurd (cc)
once_step true false Z rest d h = omega (arith, ints, h)
once_step false n Z rest d h = omega (arith, ints, h)

pub once : (group : ℕ → ℕ) (x : ℕ) (Z : ℤ) (vs : List ℕ) → Once group vs → total (λ v. only_if (group v == x) Z) vs ≡ only_if (names_group group vs x) Z
once group x Z [] o = refl
once group x Z (v ∷ vs) o = once_step (group v == x) (names_group group vs x) Z _ (named_cases group v x vs o.0) (once group x Z vs o.1)

-- one vertex with a list
pub with_is : (group : ℕ → ℕ) (x z : ℕ) (k : ℤ) (v : ℕ) (ws : List ℕ) → x ≢ z → Once group ws → total (hit group x z k v) ws ≡ only_if (group v == x) (only_if (names_group group ws z) k) +ℤ only_if (group v == z) (only_if (names_group group ws x) k)
with_is group x z k v ws d o =
    let a = total_cong (hit group x z k v) (λ w. only_if (group v == x) (only_if (group w == z) k) +ℤ only_if (group v == z) (only_if (group w == x) k)) ws (λ w. pair_split (group v == x) (group w == z) (group v == z) (group w == x) k (not_both (group v) x z d)) in
    let b = total_add (λ w. only_if (group v == x) (only_if (group w == z) k)) (λ w. only_if (group v == z) (only_if (group w == x) k)) ws in
    let c = sym (only_if_total (group v == x) (λ w. only_if (group w == z) k) ws) ∙ ap (only_if (group v == x)) (once group z k ws o) in
    let e = sym (only_if_total (group v == z) (λ w. only_if (group w == x) k) ws) ∙ ap (only_if (group v == z)) (once group x k ws o) in
    omega (arith, ints, a, b, c, e)

pub across_is : (group : ℕ → ℕ) (x z : ℕ) (k : ℤ) (vs ws : List ℕ) → x ≢ z → Once group vs → Once group ws →
    cross_total (hit group x z k) vs ws ≡ only_if (names_group group vs x) (only_if (names_group group ws z) k) +ℤ only_if (names_group group vs z) (only_if (names_group group ws x) k)
across_is group x z k vs ws d o p =
    let a = total_cong (λ v. total (hit group x z k v) ws) (λ v. only_if (group v == x) (only_if (names_group group ws z) k) +ℤ only_if (group v == z) (only_if (names_group group ws x) k)) vs (λ v. with_is group x z k v ws d p) in
    let b = total_add (λ v. only_if (group v == x) (only_if (names_group group ws z) k)) (λ v. only_if (group v == z) (only_if (names_group group ws x) k)) vs in
    let c = once group x (only_if (names_group group ws z) k) vs o in
    let e = once group z (only_if (names_group group ws x) k) vs o in
    omega (arith, ints, a, b, c, e)

inside_step : (p r nx nz : Bool) (k rest : ℤ) → (p && r) ≡ false → (p && nx) ≡ false → (r && nz) ≡ false → rest ≡ only_if nx (only_if nz k) →
    (only_if p (only_if nz k) +ℤ only_if r (only_if nx k)) +ℤ rest ≡ only_if (p || nx) (only_if (r || nz) k)
inside_step true true nx nz k rest a b c h = absurd (cc)
inside_step true false true nz k rest a b c h = absurd (cc)
inside_step true false false nz k rest a b c h = omega (arith, ints, h)
inside_step false true nx true k rest a b c h = absurd (cc)
inside_step false true true false k rest a b c h = omega (arith, ints, h)
inside_step false true false false k rest a b c h = omega (arith, ints, h)
inside_step false false nx nz k rest a b c h = omega (arith, ints, h)

pub inside_is : (group : ℕ → ℕ) (x z : ℕ) (k : ℤ) (vs : List ℕ) → x ≢ z → Once group vs → pair_total (hit group x z k) vs ≡ only_if (names_group group vs x) (only_if (names_group group vs z) k)
inside_is group x z k [] d o = refl
inside_is group x z k (v ∷ vs) d o =
    ap (λ t. t +ℤ pair_total (hit group x z k) vs) (with_is group x z k v vs d o.1) ∙
    inside_step (group v == x) (group v == z) (names_group group vs x) (names_group group vs z) k _ (not_both (group v) x z d) (named_cases group v x vs o.0) (named_cases group v z vs o.0) (inside_is group x z k vs d o.1)

sign_sum : (y : ℕ) (sx tx sz tz : Bool) → (sx && tx) ≡ false → (sz && tz) ≡ false →
    pos y *ℤ sign sx tx sz tz ≡ (only_if sx (only_if tz (pos y)) +ℤ only_if sz (only_if tx (pos y))) -ℤ only_if sx (only_if sz (pos y)) -ℤ only_if tx (only_if tz (pos y))
sign_sum y true true sz tz d e = absurd (cc)
sign_sum y true false true true d e = absurd (cc)
sign_sum y true false true false d e = omega (arith, ints)
sign_sum y true false false true d e = omega (arith, ints)
sign_sum y true false false false d e = omega (arith, ints)
sign_sum y false true true true d e = absurd (cc)
sign_sum y false true true false d e = omega (arith, ints)
sign_sum y false true false true d e = omega (arith, ints)
sign_sum y false true false false d e = omega (arith, ints)
sign_sum y false false true true d e = absurd (cc)
sign_sum y false false true false d e = omega (arith, ints)
sign_sum y false false false true d e = omega (arith, ints)
sign_sum y false false false false d e = omega (arith, ints)

-- what the loops over a row's vertices add to a pair is the row's part of q
pub row_adds : (group : ℕ → ℕ) (r : TwoSet) (x z : ℕ) → x ≢ z → Once group r.s → Once group r.t → (names_group group r.s x && names_group group r.t x) ≡ false → (names_group group r.s z && names_group group r.t z) ≡ false →
    pos r.y *ℤ coefficient group r x z ≡ cross_total (hit group x z (pos r.y)) r.s r.t -ℤ pair_total (hit group x z (pos r.y)) r.s -ℤ pair_total (hit group x z (pos r.y)) r.t
row_adds group r x z d o p e f =
    let a = across_is group x z (pos r.y) r.s r.t d o p in
    let b = inside_is group x z (pos r.y) r.s d o in
    let c = inside_is group x z (pos r.y) r.t d p in
    let g = sign_sum r.y (names_group group r.s x) (names_group group r.t x) (names_group group r.s z) (names_group group r.t z) e f in
    omega (arith, ints, a, b, c, g)

-- ---- from the rows' own words
pub each_all : (P : ℕ → Type 0) (xs : List ℕ) → All P xs → Each P xs
each_all P xs a = each_from P xs (λ x c. All-contains P xs x a c)

pub once_from : (group : ℕ → ℕ) (vs : List ℕ) → NamesOnce group vs → Once group vs
once_from group [] o = tt
once_from group (v ∷ vs) o = (each_all (λ w. group v ≢ group w) vs o.0, once_from group vs o.1)

each_left : (P : ℕ → Type 0) (xs ys : List ℕ) → Each P (xs ++ ys) → Each P xs × Each P ys
each_left P [] ys e = (tt, e)
each_left P (x ∷ xs) ys e = let h = each_left P xs ys e.1 in ((e.0, h.0), h.1)

pub once_parts : (group : ℕ → ℕ) (xs ys : List ℕ) → Once group (xs ++ ys) → Once group xs × Once group ys
once_parts group [] ys o = (tt, o)
once_parts group (x ∷ xs) ys o = let h = once_parts group xs ys o.1 in (((each_left (λ w. group x ≢ group w) xs ys o.0).0, h.0), h.1)

or_and : (p n m : Bool) → (p && m) ≡ false → (n && m) ≡ false → ((p || n) && m) ≡ false
or_and true n m a b = a
or_and false n m a b = b

pub once_apart : (group : ℕ → ℕ) (xs ys : List ℕ) (x : ℕ) → Once group (xs ++ ys) → (names_group group xs x && names_group group ys x) ≡ false
once_apart group [] ys x o = refl
once_apart group (v ∷ xs) ys x o = or_and (group v == x) (names_group group xs x) (names_group group ys x) (named_cases group v x ys (each_left (λ w. group v ≢ group w) xs ys o.0).1) (once_apart group xs ys x o.1)
