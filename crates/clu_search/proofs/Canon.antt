-- Each labelling of a list of vertices has one label list that is numbered by first appearance, and it tells labellings apart that
-- divide the vertices differently.
use Rattle.std.proofs.Common.{◌≡◌, ℕ, ◌+◌, ◌<◌, ◌≢◌, ◌⊎◌, inl, inr, ⊎_elim, List, [], ◌∷◌, length, map, max, Contains, cond, sym, ap, ◌∙◌, subst, arith, zero, suc, Bool, true, false, ◌==◌, refl}
use Rattle.std.proofs.lemmas.Bool.{cases_eq, eq-eqb, ne_eqb}
use Rattle.clu_partition.specs.Partition.{IsNumberedFrom}
use Rattle.clu_partition.proofs.SumLaws.{Among}
use Rattle.clu_state.proofs.Bridge.{among_from}

-- two members that one of the labellings divides and the other doesn't
pub record Differ (members : List ℕ) (f g : ℕ → ℕ) : Type 0 where
  pub u : ℕ
  pub v : ℕ
  pub first : Contains members u
  pub second : Contains members v
  pub tells : ((f u ≡ f v) × (g u ≢ g v)) ⊎ ((f u ≢ f v) × (g u ≡ g v))

-- ---- the labels in the order of their first appearance
-- the place of a label, or the length of the list where it isn't there
abbrev pub place_among : List ℕ → ℕ → ℕ
place_among [] a = zero
place_among (x ∷ xs) a = cond (x == a) zero (suc (place_among xs a))

-- the label put in behind the others, unless it is there
abbrev pub with_seen : List ℕ → ℕ → List ℕ
with_seen [] a = a ∷ []
with_seen (x ∷ xs) a = x ∷ cond (x == a) xs (with_seen xs a)

-- the labels that were seen before, and then those of the vertices
abbrev pub firsts : (ℕ → ℕ) → List ℕ → List ℕ → List ℕ
firsts f seen [] = seen
firsts f seen (x ∷ xs) = firsts f (with_seen seen (f x)) xs

-- the labels of the vertices, numbered where these were seen before
abbrev pub numbered_from : (ℕ → ℕ) → List ℕ → List ℕ → List ℕ
numbered_from f seen xs = map (λ x. place_among (firsts f seen xs) (f x)) xs

abbrev pub numbered : (ℕ → ℕ) → List ℕ → ℕ → ℕ
numbered f members u = place_among (firsts f [] members) (f u)

abbrev pub canonical : (ℕ → ℕ) → List ℕ → List ℕ
canonical f members = map (numbered f members) members

place_here : (x a : ℕ) (xs : List ℕ) → x ≡ a → place_among (x ∷ xs) a ≡ zero
place_here x a xs e = ap (λ b. cond b zero (suc (place_among xs a))) (eq-eqb x a e)

place_later : (x a : ℕ) (xs : List ℕ) → x ≢ a → place_among (x ∷ xs) a ≡ suc (place_among xs a)
place_later x a xs n = ap (λ b. cond b zero (suc (place_among xs a))) (ne_eqb x a n)

seen_here : (x a : ℕ) (xs : List ℕ) → x ≡ a → with_seen (x ∷ xs) a ≡ x ∷ xs
seen_here x a xs e = ap (λ b. x ∷ cond b xs (with_seen xs a)) (eq-eqb x a e)

seen_later : (x a : ℕ) (xs : List ℕ) → x ≢ a → with_seen (x ∷ xs) a ≡ x ∷ with_seen xs a
seen_later x a xs n = ap (λ b. x ∷ cond b xs (with_seen xs a)) (ne_eqb x a n)

-- what is another than the first is in the rest
in_rest : (x a : ℕ) (xs : List ℕ) → x ≢ a → Among a (x ∷ xs) → Among a xs
in_rest x a xs n (inl e) = absurd (n (sym e))
in_rest x a xs n (inr m) = m

-- the label was there, or stands last now
seen_cases : (xs : List ℕ) (a : ℕ) → ((with_seen xs a ≡ xs) × (place_among xs a < length xs))
    ⊎ ((length (with_seen xs a) ≡ suc (length xs)) × (place_among (with_seen xs a) a ≡ length xs))
seen_cases [] a = inr (refl, place_here a a [] refl)
seen_cases (x ∷ xs) a = ⊎_elim
    (λ e. let h = place_here x a xs e in inl (seen_here x a xs e, omega (arith, h)))
    (λ n. ⊎_elim
    (λ k. let h = place_later x a xs n in let l = k.1 in inl (seen_later x a xs n ∙ ap (λ ys. x ∷ ys) k.0, omega (arith, h, l)))
    (λ k. inr (
      ap length (seen_later x a xs n) ∙ ap suc k.0,
      ap (λ ys. place_among ys a) (seen_later x a xs n) ∙ place_later x a (with_seen xs a) n ∙ ap suc k.1,
    ))
    (seen_cases xs a))
    (cases_eq x a)

seen_keeps_place : (xs : List ℕ) (a b : ℕ) → Among b xs → place_among (with_seen xs a) b ≡ place_among xs b
seen_keeps_place [] a b m = absurd m
seen_keeps_place (x ∷ xs) a b m = ⊎_elim
    (λ e. ap (λ ys. place_among ys b) (seen_here x a xs e))
    (λ n. ap (λ ys. place_among ys b) (seen_later x a xs n) ∙ ⊎_elim
    (λ e. place_here x b (with_seen xs a) e ∙ sym (place_here x b xs e))
    (λ k. place_later x b (with_seen xs a) k ∙ ap suc (seen_keeps_place xs a b (in_rest x b xs k m)) ∙ sym (place_later x b xs k))
    (cases_eq x b))
    (cases_eq x a)

seen_keeps : (xs : List ℕ) (a b : ℕ) → Among b xs → Among b (with_seen xs a)
seen_keeps [] a b m = absurd m
seen_keeps (x ∷ xs) a b (inl e) = inl e
seen_keeps (x ∷ xs) a b (inr m) = inr (by (x == a) (seen_keeps xs a b m))
  where
    by : (t : Bool) → Among b (with_seen xs a) → Among b (cond t xs (with_seen xs a))
    by true k = m
    by false k = k

seen_has : (xs : List ℕ) (a : ℕ) → Among a (with_seen xs a)
seen_has [] a = inl refl
seen_has (x ∷ xs) a = ⊎_elim
    (λ e. inl (sym e))
    (λ n. subst (Among a) (sym (seen_later x a xs n)) (inr (seen_has xs a)))
    (cases_eq x a)

firsts_keep : (f : ℕ → ℕ) (xs seen : List ℕ) (b : ℕ) → Among b seen → Among b (firsts f seen xs)
firsts_keep f [] seen b m = m
firsts_keep f (x ∷ xs) seen b m = firsts_keep f xs (with_seen seen (f x)) b (seen_keeps seen (f x) b m)

firsts_keep_place : (f : ℕ → ℕ) (xs seen : List ℕ) (b : ℕ) → Among b seen → place_among (firsts f seen xs) b ≡ place_among seen b
firsts_keep_place f [] seen b m = refl
firsts_keep_place f (x ∷ xs) seen b m =
    firsts_keep_place f xs (with_seen seen (f x)) b (seen_keeps seen (f x) b m) ∙ seen_keeps_place seen (f x) b m

firsts_have : (f : ℕ → ℕ) (xs seen : List ℕ) (u : ℕ) → Among u xs → Among (f u) (firsts f seen xs)
firsts_have f [] seen u m = absurd m
firsts_have f (x ∷ xs) seen u (inl e) = firsts_keep f xs (with_seen seen (f x)) (f u)
    (subst (λ a. Among (f u) (with_seen seen a)) (ap f e) (seen_has seen (f u)))
firsts_have f (x ∷ xs) seen u (inr m) = firsts_have f xs (with_seen seen (f x)) u m

-- ---- it is numbered by first appearance
-- a label in use leaves the next new one as it is, and the next new one is in use from there on
next_same : (label next : ℕ) → label < next → next ≡ max next (label + 1)
next_same label next l = omega (arith, l)

next_more : (label next : ℕ) → label ≡ next → suc next ≡ max next (label + 1)
next_more label next e = omega (arith, e)

numbered_next : (f : ℕ → ℕ) (xs seen : List ℕ) → IsNumberedFrom (length seen) (numbered_from f seen xs)
numbered_next f [] seen = tt
numbered_next f (x ∷ xs) seen =
    let tail : List ℕ = numbered_from f (with_seen seen (f x)) xs in
    let label : ℕ = place_among (firsts f (with_seen seen (f x)) xs) (f x) in
    let later = numbered_next f xs (with_seen seen (f x)) in
    let is : label ≡ place_among (with_seen seen (f x)) (f x) =
    firsts_keep_place f xs (with_seen seen (f x)) (f x) (seen_has seen (f x)) in
    ⊎_elim
    (λ k.
    let place : label ≡ place_among seen (f x) = is ∙ ap (λ ys. place_among ys (f x)) k.0 in
    let less : label < length seen = subst (λ n. n < length seen) (sym place) k.1 in
    (omega (arith, less), subst (λ n. IsNumberedFrom n tail) (ap length k.0 ∙ next_same label (length seen) less) later))
    (λ k.
    let place : label ≡ length seen = is ∙ k.1 in
    (omega (arith, place), subst (λ n. IsNumberedFrom n tail) (k.0 ∙ next_more label (length seen) place) later))
    (seen_cases seen (f x))

pub canonical_numbered : (f : ℕ → ℕ) (members : List ℕ) → IsNumberedFrom 0 (canonical f members)
canonical_numbered f members = numbered_next f members []

-- ---- it tells labellings apart
place_tells : (xs : List ℕ) (a b : ℕ) → Among a xs → place_among xs a ≡ place_among xs b → a ≡ b
place_tells [] a b m e = absurd m
place_tells (x ∷ xs) a b m e = ⊎_elim
    (λ p. ⊎_elim
    (λ q. sym p ∙ q)
    (λ n. let h = place_here x a xs p in let k = place_later x b xs n in absurd (omega (arith, e, h, k)))
    (cases_eq x b))
    (λ n. ⊎_elim
    (λ q. let h = place_later x a xs n in let k = place_here x b xs q in absurd (omega (arith, e, h, k)))
    (λ k. let h = place_later x a xs n in let l = place_later x b xs k in place_tells xs a b (in_rest x a xs n m) (omega (arith, e, h, l)))
    (cases_eq x b))
    (cases_eq x a)

unfoldable pub first_or : List ℕ → ℕ
first_or [] = zero
first_or (x ∷ xs) = x

unfoldable pub rest_of : List ℕ → List ℕ
rest_of [] = []
rest_of (x ∷ xs) = xs

-- two maps that give one list give one number of each member
maps_agree : (h k : ℕ → ℕ) (xs : List ℕ) → map h xs ≡ map k xs → (u : ℕ) → Among u xs → h u ≡ k u
unfolding first_or rest_of
maps_agree h k [] e u m = absurd m
maps_agree h k (x ∷ xs) e u (inl p) = ap h p ∙ ap first_or e ∙ ap k (sym p)
maps_agree h k (x ∷ xs) e u (inr m) = maps_agree h k xs (ap rest_of e) u m

pub numbered_tells : (f : ℕ → ℕ) (members : List ℕ) (u v : ℕ) → Among u members → numbered f members u ≡ numbered f members v → f u ≡ f v
numbered_tells f members u v m e = place_tells (firsts f [] members) (f u) (f v) (firsts_have f members [] u m) e

pub numbered_same : (f : ℕ → ℕ) (members : List ℕ) (u v : ℕ) → f u ≡ f v → numbered f members u ≡ numbered f members v
numbered_same f members u v e = ap (place_among (firsts f [] members)) e

carries : (f g : ℕ → ℕ) (members : List ℕ) → canonical f members ≡ canonical g members → (u v : ℕ) → Among u members → Among v members →
    f u ≡ f v → g u ≡ g v
carries f g members e u v m n p = numbered_tells g members u v m (sym (maps_agree (numbered f members) (numbered g members) members e u m)
    ∙ numbered_same f members u v p ∙ maps_agree (numbered f members) (numbered g members) members e v n)

pub canonical_differ : (members : List ℕ) (f g : ℕ → ℕ) → Differ members f g → canonical f members ≢ canonical g members
canonical_differ members f g d e =
    let first = among_from members d.u d.first in
    let second = among_from members d.v d.second in
    ⊎_elim
    (λ t. t.1 (carries f g members e d.u d.v first second t.0))
    (λ t. t.0 (carries g f members (sym e) d.u d.v first second t.1))
    d.tells
