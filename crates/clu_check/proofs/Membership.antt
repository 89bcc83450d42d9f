-- Members of a part, by a test and as clauses have them.
use Rattle.std.proofs.Common.{◌≡◌, ◌≢◌, ℕ, zero, suc, ◌<◌, ⊎_elim, List, [], ◌∷◌, ◌++◌, Bool, true, false, ◌==◌, ◌||◌, length, get_or, Contains, All, refl, sym, ◌∙◌, ap, subst, arith}
use Rattle.std.proofs.lemmas.Bool.{cases_eq, eq-eqb, ne_eqb}
use Rattle.std.proofs.lemmas.List.Elements.{Contains-append_right, All-from_get_or, All-contains}
use Rattle.clu_partition.specs.Partition.{below}
use Rattle.clu_partition.proofs.Ranges.{below_size, below_at}
use Rattle.clu_partition.proofs.RangeLaws.{among_range}
use Rattle.clu_state.proofs.Bridge.{contains_from}
use Rattle.clu_cert.specs.Valid.{is_in}

-- whether it is in the part or not
pub data IsInOrNot (part : List ℕ) (v : ℕ) : Type 0 where
  inside : is_in part v ≡ true → Contains part v → IsInOrNot part v
  outside : is_in part v ≡ false → (Contains part v → ⊥) → IsInOrNot part v

none_in_empty : (v : ℕ) → Contains [] v → ⊥
none_in_empty v c = let l = c.1 in omega (arith, l)

front_or_later : (u v : ℕ) (part : List ℕ) → Contains (u ∷ part) v → u ≢ v → Contains part v
front_or_later u v part (zero, l, e) d = absurd (d e)
front_or_later u v part (suc k, l, e) d = (k, omega (arith, l), e)

step : (u v : ℕ) (part : List ℕ) → IsInOrNot part v → IsInOrNot (u ∷ part) v
step u v part h = ⊎_elim
    (λ e. inside (ap (λ b. b || is_in part v) (eq-eqb u v e)) (zero, omega arith, e))
    (λ d. later (ne_eqb u v d) d h)
    (cases_eq u v)
  where
    later : (u == v) ≡ false → u ≢ v → IsInOrNot part v → IsInOrNot (u ∷ part) v
    later t d (inside is c) = inside (ap (λ b. b || is_in part v) t ∙ is) (Contains-append_right (u ∷ []) part v c)
    later t d (outside is n) = outside (ap (λ b. b || is_in part v) t ∙ is) (λ c. n (front_or_later u v part c d))

pub in_or_not : (part : List ℕ) (v : ℕ) → IsInOrNot part v
in_or_not [] v = outside refl (none_in_empty v)
in_or_not (u ∷ part) v = step u v part (in_or_not part v)

-- one vertex more
pub in_more : (part : List ℕ) (u v : ℕ) → is_in (part ++ u ∷ []) v ≡ (is_in part v || u == v)
in_more [] u v = or_false (u == v)
  where
    or_false : (x : Bool) → (x || false) ≡ x
    or_false true = refl
    or_false false = refl
in_more (w ∷ part) u v = ap (λ b. w == v || b) (in_more part u v) ∙ regroup (w == v) (is_in part v) (u == v)
  where
    regroup : (x y z : Bool) → (x || (y || z)) ≡ ((x || y) || z)
    regroup true y z = refl
    regroup false y z = refl

-- ---- the vertices below n
pub below_from : (members : List ℕ) (n v : ℕ) → members ≡ below n → Contains members v → v < n
below_from members n v are c =
    let h : All (λ (x : ℕ). x < n) members = subst (All (λ (x : ℕ). x < n)) (sym are) (All-from_get_or (λ (x : ℕ). x < n) (below n) 0 (λ i l.
    let size = below_size n in
    let at : i < n = omega (arith, l, size) in
    let e = below_at n i 0 at in
    omega (arith, e, at))) in
    All-contains (λ (x : ℕ). x < n) members v h c

pub below_member : (members : List ℕ) (n v : ℕ) → members ≡ below n → v < n → Contains members v
below_member members n v are l = subst (λ (ms : List ℕ). Contains ms v) (sym are)
    (contains_from (below n) v (among_range 0 n v (omega arith) (omega arith)))

pub below_at_place : (members : List ℕ) (n k v : ℕ) → members ≡ below n → k < length members → v ≡ get_or members k v → v < n
below_at_place members n k v are l e = below_from members n v are (k, l, sym e)
