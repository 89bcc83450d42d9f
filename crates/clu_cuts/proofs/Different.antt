-- No two of the cuts that are found are one inequality: their lists rise, and each is found once.
use Rattle.std.proofs.Common.{◌≡◌, ◌≢◌, ◌⊎◌, inl, inr, ⊎_elim, ℕ, zero, suc, ◌<◌, ◌≤◌, List, [], ◌∷◌, ◌++◌, map, take, filter, get_or, Bool, true, false, cond, All, Contains, refl, sym, ap, ◌∙◌, subst, arith}
use Rattle.std.proofs.lemmas.List.Elements.{All-head, All-tail, All-nil, All-cons}
use Rattle.clu_partition.proofs.SumLaws.{Each, Rising}
use Rattle.clu_partition.proofs.ListLaws.{each_append, each_map, every}
use Rattle.clu_partition.proofs.Regroup.{leaders_rising}
use Rattle.clu_state.specs.State.{State, IsState, leader, group_leaders}
use Rattle.clu_state.proofs.Bridge.{among_from, state_are_groups}
use Rattle.clu_cuts.specs.declared.point.Point.{Point}
use Rattle.clu_cuts.specs.declared.point.Cut.{Cut}
use Rattle.clu_cuts.specs.Stars.{star, each_one, each_pair, with_two, with_two_more, with_three, triangles, claws, breaks, broken, first_broken}
use Rattle.clu_cuts.specs.Cuts.{SameSet, SameCut, AreDifferent, AreCuts, IsTriangle, IsClaw}
use Rattle.clu_cuts.specs.Point.{IsPoint}
use Rattle.clu_cuts.proofs.Found.{IsTwoStar, IsThreeStar, found_stars, found_three, found_few, found_violated, found_triangles, found_claws, each_filtered}

-- ---- no two are the same
abbrev pub Distinct : List Cut → Type 0
Distinct [] = Unit {0}
Distinct (c ∷ cs) = Each (λ d. c ≢ d) cs × Distinct cs

abbrev pub Cross : List Cut → List Cut → Type 0
Cross xs ys = Each (λ c. Each (λ d. c ≢ d) ys) xs

distinct_append : (xs ys : List Cut) → Distinct xs → Distinct ys → Cross xs ys → Distinct (xs ++ ys)
distinct_append [] ys a b c = b
distinct_append (x ∷ xs) ys a b c = (each_append (λ d. x ≢ d) xs ys a.0 c.0, distinct_append xs ys a.1 b c.1)

cross_by : (f : Cut → ℕ) (k : ℕ) (xs ys : List Cut) → Each (λ c. f c ≡ k) xs → Each (λ d. k < f d) ys → Cross xs ys
cross_by f k [] ys a b = tt
cross_by f k (x ∷ xs) ys a b = (each_map (λ d. k < f d) (λ d. x ≢ d) ys (λ d l e. let h = a.0 in let g = ap f e in omega (arith, l, h, g)) b, cross_by f k xs ys a.1 b)

each_mapped : (Q : ℕ → Type 0) (P : Cut → Type 0) (g : ℕ → Cut) (xs : List ℕ) → ((c : ℕ) → Q c → P (g c)) → Each Q xs → Each P (map g xs)
each_mapped Q P g [] h a = tt
each_mapped Q P g (x ∷ xs) h a = (h x a.0, each_mapped Q P g xs h a.1)

map_distinct : (g : ℕ → Cut) (f : Cut → ℕ) → ((c : ℕ) → f (g c) ≡ c) → (xs : List ℕ) → Rising xs → Distinct (map g xs)
map_distinct g f e [] up = tt
map_distinct g f e (x ∷ xs) up =
    (each_mapped (λ y. x < y) (λ d. g x ≢ d) g xs (λ c l same. let a = e x in let b = e c in let h = ap f same in omega (arith, l, a, b, h)) up.0, map_distinct g f e xs up.1)

distinct_filter : (t : Cut → Bool) (xs : List Cut) → Distinct xs → Distinct (filter t xs)
distinct_filter t [] a = tt
distinct_filter t (x ∷ xs) a = by_test (t x) (distinct_filter t xs a.1)
  where
    by_test : (b : Bool) → Distinct (filter t xs) → Distinct (cond b (x ∷ filter t xs) (filter t xs))
    by_test true h = (each_filtered (λ d. x ≢ d) t xs a.0, h)
    by_test false h = h

each_taken : (P : Cut → Type 0) (n : ℕ) (xs : List Cut) → Each P xs → Each P (take n xs)
each_taken P zero xs a = tt
each_taken P (suc n) [] a = tt
each_taken P (suc n) (x ∷ xs) a = (a.0, each_taken P n xs a.1)

distinct_take : (n : ℕ) (xs : List Cut) → Distinct xs → Distinct (take n xs)
distinct_take zero xs a = tt
distinct_take (suc n) [] a = tt
distinct_take (suc n) (x ∷ xs) a = (each_taken (λ d. x ≢ d) n xs a.0, distinct_take n xs a.1)

found_distinct : (p : Point) (cuts : List Cut) → Distinct cuts → Distinct (first_broken p cuts)
found_distinct p cuts a = distinct_take 50 (broken p cuts) (distinct_filter (breaks p) cuts a)

-- ---- each element with each later one
pairs_each : (P : Cut → Type 0) (f : ℕ → ℕ → Cut) → ((x y : ℕ) → P (f x y)) → (xs : List ℕ) → Each P (each_pair f xs)
pairs_each P f h [] = tt
pairs_each P f h (x ∷ xs) = each_append P (map (f x) xs) (each_pair f xs) (each_mapped (λ _. Unit {0}) P (f x) xs (λ y _. h x y) (every xs)) (pairs_each P f h xs)

pairs_firsts : (Q : ℕ → Type 0) (f : ℕ → ℕ → Cut) (key : Cut → ℕ) → ((x y : ℕ) → key (f x y) ≡ x) → (xs : List ℕ) → Each Q xs → Each (λ d. Q (key d)) (each_pair f xs)
pairs_firsts Q f key h [] e = tt
pairs_firsts Q f key h (x ∷ xs) e =
    each_append (λ d. Q (key d)) (map (f x) xs) (each_pair f xs)
    (each_mapped (λ _. Unit {0}) (λ d. Q (key d)) (f x) xs (λ y _. subst Q (sym (h x y)) e.0) (every xs)) (pairs_firsts Q f key h xs e.1)

pairs_distinct : (f : ℕ → ℕ → Cut) (first second : Cut → ℕ) → ((x y : ℕ) → first (f x y) ≡ x) → ((x y : ℕ) → second (f x y) ≡ y) → (xs : List ℕ) → Rising xs → Distinct (each_pair f xs)
pairs_distinct f first second h k [] up = tt
pairs_distinct f first second h k (x ∷ xs) up =
    distinct_append (map (f x) xs) (each_pair f xs) (map_distinct (f x) second (k x) xs up.1) (pairs_distinct f first second h k xs up.1)
    (cross_by first x (map (f x) xs) (each_pair f xs)
    (each_mapped (λ _. Unit {0}) (λ d. first d ≡ x) (f x) xs (λ y _. h x y) (every xs)) (pairs_firsts (λ y. x < y) f first h xs up.0))

-- ---- each centre in its turn
centres_each : (Q : ℕ → Type 0) (f : ℕ → List Cut) → ((a : ℕ) → Each (λ d. get_or d.s 0 0 ≡ a) (f a)) → (centres : List ℕ) → Each Q centres → Each (λ d. Q (get_or d.s 0 0)) (each_one f centres)
centres_each Q f h [] e = tt
centres_each Q f h (a ∷ centres) e =
    each_append (λ (d : Cut). Q (get_or d.s 0 0)) (f a) (each_one f centres)
    (each_map (λ (d : Cut). get_or d.s 0 0 ≡ a) (λ (d : Cut). Q (get_or d.s 0 0)) (f a) (λ d g. subst Q (sym g) e.0) (h a))
    (centres_each Q f h centres e.1)

centres_distinct : (f : ℕ → List Cut) → ((a : ℕ) → Each (λ d. get_or d.s 0 0 ≡ a) (f a)) → ((a : ℕ) → Distinct (f a)) → (centres : List ℕ) → Rising centres → Distinct (each_one f centres)
centres_distinct f h k [] up = tt
centres_distinct f h k (a ∷ centres) up =
    distinct_append (f a) (each_one f centres) (k a) (centres_distinct f h k centres up.1)
    (cross_by (λ d. get_or d.s 0 0) a (f a) (each_one f centres) (h a) (centres_each (λ x. a < x) f h centres up.0))

-- ---- triangles
two_centre : (a : ℕ) (others : List ℕ) → Each (λ d. get_or d.s 0 0 ≡ a) (with_two a others)
two_centre a others = pairs_each (λ (d : Cut). get_or d.s 0 0 ≡ a) (λ b c. star a (b ∷ c ∷ [])) (λ b c. refl) others

two_distinct : (a : ℕ) (others : List ℕ) → Rising others → Distinct (with_two a others)
two_distinct a others up = pairs_distinct (λ b c. star a (b ∷ c ∷ [])) (λ d. get_or d.t 0 0) (λ d. get_or d.t 1 0) (λ b c. refl) (λ b c. refl) others up

-- ---- claws
more_centre : (a b : ℕ) (others : List ℕ) → Each (λ d. get_or d.s 0 0 ≡ a) (with_two_more a b others)
more_centre a b others = pairs_each (λ (d : Cut). get_or d.s 0 0 ≡ a) (λ c d. star a (b ∷ c ∷ d ∷ [])) (λ c d. refl) others

more_first : (a b : ℕ) (others : List ℕ) → Each (λ d. get_or d.t 0 0 ≡ b) (with_two_more a b others)
more_first a b others = pairs_each (λ (d : Cut). get_or d.t 0 0 ≡ b) (λ c d. star a (b ∷ c ∷ d ∷ [])) (λ c d. refl) others

more_distinct : (a b : ℕ) (others : List ℕ) → Rising others → Distinct (with_two_more a b others)
more_distinct a b others up = pairs_distinct (λ c d. star a (b ∷ c ∷ d ∷ [])) (λ e. get_or e.t 1 0) (λ e. get_or e.t 2 0) (λ c d. refl) (λ c d. refl) others up

three_centre : (a : ℕ) (others : List ℕ) → Each (λ d. get_or d.s 0 0 ≡ a) (with_three a others)
three_centre a [] = tt
three_centre a (b ∷ others) = each_append (λ (d : Cut). get_or d.s 0 0 ≡ a) (with_two_more a b others) (with_three a others) (more_centre a b others) (three_centre a others)

three_firsts : (Q : ℕ → Type 0) (a : ℕ) (others : List ℕ) → Each Q others → Each (λ d. Q (get_or d.t 0 0)) (with_three a others)
three_firsts Q a [] e = tt
three_firsts Q a (b ∷ others) e =
    each_append (λ (d : Cut). Q (get_or d.t 0 0)) (with_two_more a b others) (with_three a others)
    (each_map (λ (d : Cut). get_or d.t 0 0 ≡ b) (λ (d : Cut). Q (get_or d.t 0 0)) (with_two_more a b others) (λ d f. subst Q (sym f) e.0) (more_first a b others))
    (three_firsts Q a others e.1)

three_distinct : (a : ℕ) (others : List ℕ) → Rising others → Distinct (with_three a others)
three_distinct a [] up = tt
three_distinct a (b ∷ others) up =
    distinct_append (with_two_more a b others) (with_three a others) (more_distinct a b others up.1) (three_distinct a others up.1)
    (cross_by (λ d. get_or d.t 0 0) b (with_two_more a b others) (with_three a others) (more_first a b others) (three_firsts (λ x. b < x) a others up.0))

-- ---- two that are alike are the same
in_one : (a x : ℕ) → Contains (a ∷ []) x → x ≡ a
in_one a x c = ⊎_elim (λ e. e) (λ n. absurd n) (among_from (a ∷ []) x c)

in_two : (a b x : ℕ) → Contains (a ∷ b ∷ []) x → (x ≡ a) ⊎ (x ≡ b)
in_two a b x c = ⊎_elim (λ e. inl e) (λ n. ⊎_elim (λ e. inr e) (λ m. absurd m) n) (among_from (a ∷ b ∷ []) x c)

in_three : (a b d x : ℕ) → Contains (a ∷ b ∷ d ∷ []) x → (x ≡ a) ⊎ ((x ≡ b) ⊎ (x ≡ d))
in_three a b d x c = ⊎_elim (λ e. inl e) (λ n. inr (⊎_elim (λ e. inl e) (λ m. ⊎_elim (λ e. inr e) (λ o. absurd o) m) n)) (among_from (a ∷ b ∷ d ∷ []) x c)

pair_in : (b c b' c' : ℕ) → b < c → b' < c' → (b ≡ b') ⊎ (b ≡ c') → (c ≡ b') ⊎ (c ≡ c') → (b ≡ b') × (c ≡ c')
pair_in b c b' c' l m x y = ⊎_elim
    (λ (e : b ≡ b'). ⊎_elim (λ (f : c ≡ b'). absurd (omega (arith, e, f, l))) (λ f. (e, f)) y)
    (λ (e : b ≡ c'). ⊎_elim (λ (f : c ≡ b'). absurd (omega (arith, e, f, l, m))) (λ (f : c ≡ c'). absurd (omega (arith, e, f, l))) y)
    x

same_two : (a b c a' b' c' : ℕ) → b < c → b' < c' → SameCut (star a (b ∷ c ∷ [])) (star a' (b' ∷ c' ∷ [])) → star a (b ∷ c ∷ []) ≡ star a' (b' ∷ c' ∷ [])
same_two a b c a' b' c' l m same = ⊎_elim
    (λ (h : SameSet (a ∷ []) (a' ∷ []) × SameSet (b ∷ c ∷ []) (b' ∷ c' ∷ [])).
    let centre = in_one a' a (All-head (Contains (a' ∷ [])) a [] h.0.0) in
    let first = in_two b' c' b (All-head (Contains (b' ∷ c' ∷ [])) b (c ∷ []) h.1.0) in
    let second = in_two b' c' c (All-head (Contains (b' ∷ c' ∷ [])) c [] (All-tail (Contains (b' ∷ c' ∷ [])) b (c ∷ []) h.1.0)) in
    let e = pair_in b c b' c' l m first second in
    ap (λ x. star x (b ∷ c ∷ [])) centre ∙ (ap (λ x. star a' (x ∷ c ∷ [])) e.0 ∙ ap (λ x. star a' (b' ∷ x ∷ [])) e.1))
    (λ (h : SameSet (a ∷ []) (b' ∷ c' ∷ []) × SameSet (b ∷ c ∷ []) (a' ∷ [])).
    let x = in_one a b' (All-head (Contains (a ∷ [])) b' (c' ∷ []) h.0.1) in
    let y = in_one a c' (All-head (Contains (a ∷ [])) c' [] (All-tail (Contains (a ∷ [])) b' (c' ∷ []) h.0.1)) in
    absurd (omega (arith, x, y, m)))
    same

different_of : (P : Cut → Type 0) → ((c d : Cut) → P c → P d → SameCut c d → c ≡ d) → (cuts : List Cut) → All P cuts → Distinct cuts → AreDifferent cuts
different_of P same [] a n = tt
different_of P same (c ∷ cuts) a n =
    (differ cuts (All-tail P c cuts a) n.0, different_of P same cuts (All-tail P c cuts a) n.1)
  where
    differ : (ds : List Cut) → All P ds → Each (λ d. c ≢ d) ds → All (λ d. SameCut c d → ⊥) ds
    differ [] b e = All-nil (λ d. SameCut c d → ⊥)
    differ (d ∷ ds) b e =
        All-cons (λ d. SameCut c d → ⊥) d ds (λ h. e.0 (same c d (All-head P c cuts a) (All-head P d ds b) h)) (differ ds (All-tail P d ds b) e.1)

two_same : (groups : List ℕ) (c d : Cut) → IsTwoStar groups c → IsTwoStar groups d → SameCut c d → c ≡ d
two_same groups c d x y same =
    x.is' ∙ (same_two x.a x.b x.c y.a y.b y.c x.up y.up (subst (λ e. SameCut e (star y.a (y.b ∷ y.c ∷ []))) x.is' (subst (SameCut c) y.is' same)) ∙ sym y.is')

between : (b c d x : ℕ) → b < c → c < d → (x ≡ b) ⊎ ((x ≡ c) ⊎ (x ≡ d)) → (b ≤ x) × (x ≤ d)
between b c d x l m h = ⊎_elim
    (λ (e : x ≡ b). (omega (arith, e), omega (arith, e, l, m)))
    (λ n. ⊎_elim (λ (e : x ≡ c). (omega (arith, e, l), omega (arith, e, m))) (λ (e : x ≡ d). (omega (arith, e, l, m), omega (arith, e))) n)
    h

middle : (b c d b' c' d' : ℕ) → b ≡ b' → d ≡ d' → b < c → c < d → (c ≡ b') ⊎ ((c ≡ c') ⊎ (c ≡ d')) → c ≡ c'
middle b c d b' c' d' e f l m h = ⊎_elim
    (λ (g : c ≡ b'). absurd (omega (arith, e, g, l)))
    (λ n. ⊎_elim (λ g. g) (λ (g : c ≡ d'). absurd (omega (arith, f, g, m))) n)
    h

same_three : (a b c d a' b' c' d' : ℕ) → b < c → c < d → b' < c' → c' < d' → SameCut (star a (b ∷ c ∷ d ∷ [])) (star a' (b' ∷ c' ∷ d' ∷ []))
    → star a (b ∷ c ∷ d ∷ []) ≡ star a' (b' ∷ c' ∷ d' ∷ [])
same_three a b c d a' b' c' d' l m l' m' same = ⊎_elim
    (λ (h : SameSet (a ∷ []) (a' ∷ []) × SameSet (b ∷ c ∷ d ∷ []) (b' ∷ c' ∷ d' ∷ [])).
    let centre = in_one a' a (All-head (Contains (a' ∷ [])) a [] h.0.0) in
    let P = Contains (b' ∷ c' ∷ d' ∷ []) in
    let Q = Contains (b ∷ c ∷ d ∷ []) in
    let r1 = All-tail (Contains (b' ∷ c' ∷ d' ∷ [])) b (c ∷ d ∷ []) h.1.0 in
    let q1 = All-tail (Contains (b ∷ c ∷ d ∷ [])) b' (c' ∷ d' ∷ []) h.1.1 in
    let b1 = between b' c' d' b l' m' (in_three b' c' d' b (All-head (Contains (b' ∷ c' ∷ d' ∷ [])) b (c ∷ d ∷ []) h.1.0)) in
    let d1 = between b' c' d' d l' m' (in_three b' c' d' d (All-head (Contains (b' ∷ c' ∷ d' ∷ [])) d [] (All-tail (Contains (b' ∷ c' ∷ d' ∷ [])) c (d ∷ []) r1))) in
    let b2 = between b c d b' l m (in_three b c d b' (All-head (Contains (b ∷ c ∷ d ∷ [])) b' (c' ∷ d' ∷ []) h.1.1)) in
    let d2 = between b c d d' l m (in_three b c d d' (All-head (Contains (b ∷ c ∷ d ∷ [])) d' [] (All-tail (Contains (b ∷ c ∷ d ∷ [])) c' (d' ∷ []) q1))) in
    let b3 = b1.0 in let b4 = b2.0 in let d3 = d1.1 in let d4 = d2.1 in
    let e : b ≡ b' = omega (arith, b3, b4) in
    let f : d ≡ d' = omega (arith, d3, d4) in
    let g = middle b c d b' c' d' e f l m (in_three b' c' d' c (All-head (Contains (b' ∷ c' ∷ d' ∷ [])) c (d ∷ []) r1)) in
    ap (λ x. star x (b ∷ c ∷ d ∷ [])) centre ∙ (ap (λ x. star a' (x ∷ c ∷ d ∷ [])) e ∙ (ap (λ x. star a' (b' ∷ x ∷ d ∷ [])) g ∙ ap (λ x. star a' (b' ∷ c' ∷ x ∷ [])) f)))
    (λ (h : SameSet (a ∷ []) (b' ∷ c' ∷ d' ∷ []) × SameSet (b ∷ c ∷ d ∷ []) (a' ∷ [])).
    let x = in_one a b' (All-head (Contains (a ∷ [])) b' (c' ∷ d' ∷ []) h.0.1) in
    let y = in_one a c' (All-head (Contains (a ∷ [])) c' (d' ∷ []) (All-tail (Contains (a ∷ [])) b' (c' ∷ d' ∷ []) h.0.1)) in
    absurd (omega (arith, x, y, l')))
    same

three_same : (groups : List ℕ) (c d : Cut) → IsThreeStar groups c → IsThreeStar groups d → SameCut c d → c ≡ d
three_same groups c d x y same =
    x.is' ∙ (same_three x.a x.b x.c x.d y.a y.b y.c y.d x.up x.rise y.up y.rise (subst (λ e. SameCut e (star y.a (y.b ∷ y.c ∷ y.d ∷ []))) x.is' (subst (SameCut c) y.is' same)) ∙ sym y.is')

-- ---- what is found
pub triangles_found : (s : State) (p : Point) (cuts : List Cut) → IsState s → IsPoint s p → cuts ≡ first_broken p (triangles s) → AreCuts (IsTriangle s) p cuts
triangles_found s p cuts i is e =
    let up = leaders_rising (leader s) s.members (state_are_groups s i) in
    subst (AreCuts (IsTriangle s) p) (sym e) (record {
      few = found_few p (triangles s);
      each = found_triangles s p i is;
      violated = found_violated p (triangles s);
      different = different_of (IsTwoStar (group_leaders s)) (two_same (group_leaders s)) (first_broken p (triangles s)) (found_stars s p i)
          (found_distinct p (triangles s) (centres_distinct (λ a. with_two a (group_leaders s)) (λ a. two_centre a (group_leaders s)) (λ a. two_distinct a (group_leaders s) up) (group_leaders s) up));
    })

pub claws_found : (s : State) (p : Point) (cuts : List Cut) → IsState s → IsPoint s p → cuts ≡ first_broken p (claws s) → AreCuts (IsClaw s) p cuts
claws_found s p cuts i is e =
    let up = leaders_rising (leader s) s.members (state_are_groups s i) in
    subst (AreCuts (IsClaw s) p) (sym e) (record {
      few = found_few p (claws s);
      each = found_claws s p i is;
      violated = found_violated p (claws s);
      different = different_of (IsThreeStar (group_leaders s)) (three_same (group_leaders s)) (first_broken p (claws s)) (found_three s p i)
          (found_distinct p (claws s) (centres_distinct (λ a. with_three a (group_leaders s)) (λ a. three_centre a (group_leaders s)) (λ a. three_distinct a (group_leaders s) up) (group_leaders s) up));
    })
