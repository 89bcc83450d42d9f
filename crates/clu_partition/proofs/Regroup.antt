-- The value of a partition that divides no group is that inside the groups and that of the pairs of groups which share a block.
use Rattle.std.proofs.Common.{◌≡◌, ℕ, ℤ, pos, ◌<◌, inl, inr, ⊎_elim, ◌+ℤ◌, List, [], ◌∷◌, filter, cond, Bool, true, false, refl, sym, ap, ◌∙◌, arith, ◌==◌, eqb}
use Rattle.std.proofs.lemmas.Int.{ints}
use Rattle.std.proofs.lemmas.Bool.{eq-eqb, ne_eqb, eqb-true}
use Rattle.clu_partition.specs.Sums.{total, pair_total, cross_total, only_if}
use Rattle.clu_partition.specs.Values.{value_on}
use Rattle.clu_partition.specs.Groups.{leaders, group_members, between}
use Rattle.clu_partition.proofs.SumLaws.{Each, Among, Rising, total_cong, total_cong_on, total_swap, total_zero, square_is, pick_one, only_same, shared_sym}
use Rattle.clu_partition.proofs.ListLaws.{each_map, each_and}

-- ---- lists and filters
each_cond : {A : Type 0} (P : A → Type 0) (b : Bool) (x : A) (ys : List A) → P x → Each P ys → Each P (cond b (x ∷ ys) ys)
each_cond P true x ys p q = (p, q)
each_cond P false x ys p q = q

pub each_filter : {A : Type 0} (P : A → Type 0) (test : A → Bool) (xs : List A) → Each P xs → Each P (filter test xs)
each_filter P test [] p = tt
each_filter P test (x ∷ xs) p = each_cond P (test x) x (filter test xs) p.0 (each_filter P test xs p.1)

passes_cond : {A : Type 0} (test : A → Bool) (b : Bool) (x : A) (ys : List A) → test x ≡ b → Each (λ y. test y ≡ true) ys → Each (λ y. test y ≡ true) (cond b (x ∷ ys) ys)
passes_cond test true x ys p q = (p, q)
passes_cond test false x ys p q = q

pub each_passes : {A : Type 0} (test : A → Bool) (xs : List A) → Each (λ y. test y ≡ true) (filter test xs)
each_passes test [] = tt
each_passes test (x ∷ xs) = passes_cond test (test x) x (filter test xs) refl (each_passes test xs)

rising_cond : (b : Bool) (x : ℕ) (ys : List ℕ) → Each (λ y. x < y) ys → Rising ys → Rising (cond b (x ∷ ys) ys)
rising_cond true x ys p q = (p, q)
rising_cond false x ys p q = q

pub rising_filter : (test : ℕ → Bool) (xs : List ℕ) → Rising xs → Rising (filter test xs)
rising_filter test [] r = tt
rising_filter test (x ∷ xs) r = rising_cond (test x) x (filter test xs) (each_filter (λ y. x < y) test xs r.0) (rising_filter test xs r.1)

among_here : (b : Bool) (c x : ℕ) (ys : List ℕ) → c ≡ x → b ≡ true → Among c (cond b (x ∷ ys) ys)
among_here true c x ys e t = inl e
among_here false c x ys e t = absurd (cc)

among_there : (b : Bool) (c x : ℕ) (ys : List ℕ) → Among c ys → Among c (cond b (x ∷ ys) ys)
among_there true c x ys m = inr m
among_there false c x ys m = m

pub among_filter : (test : ℕ → Bool) (c : ℕ) (xs : List ℕ) → test c ≡ true → Among c xs → Among c (filter test xs)
among_filter test c [] t m = absurd m
among_filter test c (x ∷ xs) t m = ⊎_elim
    (λ e. among_here (test x) c x (filter test xs) e (ap test (sym e) ∙ t))
    (λ n. among_there (test x) c x (filter test xs) (among_filter test c xs t n))
    m

-- ---- a test under a sum
filter_cond : {A : Type 0} (f : A → ℤ) (b : Bool) (x : A) (ys : List A) → total f (cond b (x ∷ ys) ys) ≡ only_if b (f x) +ℤ total f ys
filter_cond f true x ys = refl
filter_cond f false x ys = omega (arith, ints)

pub filter_total : {A : Type 0} (f : A → ℤ) (test : A → Bool) (xs : List A) → total f (filter test xs) ≡ total (λ x. only_if (test x) (f x)) xs
filter_total f test [] = refl
filter_total f test (x ∷ xs) =
    let h = filter_total f test xs in
    let k = filter_cond f (test x) x (filter test xs) in
    omega (arith, ints, h, k)

pub only_if_total : {A : Type 0} (b : Bool) (f : A → ℤ) (xs : List A) → only_if b (total f xs) ≡ total (λ x. only_if b (f x)) xs
only_if_total true f xs = refl
only_if_total false f xs = sym (total_zero xs)

pub only_if_swap : (a b : Bool) (z : ℤ) → only_if a (only_if b z) ≡ only_if b (only_if a z)
only_if_swap true b z = refl
only_if_swap false true z = refl
only_if_swap false false z = refl

-- each member is counted once, at its group
pub by_group : (group : ℕ → ℕ) (f : ℕ → ℕ → ℤ) (members groups : List ℕ) → Rising groups → Each (λ u. Among (group u) groups) members →
    total (λ a. total (λ u. only_if (group u == a) (f a u)) members) groups ≡ total (λ u. f (group u) u) members
by_group group f members groups r all =
    total_swap (λ a u. only_if (group u == a) (f a u)) groups members ∙
    total_cong_on (λ u. total (λ a. only_if (group u == a) (f a u)) groups) (λ u. f (group u) u) (λ u. Among (group u) groups) members all
    (λ u m. pick_one (group u) (λ a. f a u) groups r m)

-- ---- groups
-- the groups of a rising list of members: each member's least vertex is a member, and its own least vertex
pub record AreGroups (group : ℕ → ℕ) (members : List ℕ) : Type 0 where
  pub rising : Rising members
  pub least_in : Each (λ u. Among (group u) members) members
  pub least_of : Each (λ u. group (group u) ≡ group u) members

pub leaders_rising : (group : ℕ → ℕ) (members : List ℕ) → AreGroups group members → Rising (leaders group members)
leaders_rising group members g = rising_filter (λ u. group u == u) members g.rising

pub leaders_among : (group : ℕ → ℕ) (members : List ℕ) → AreGroups group members → Each (λ u. Among (group u) (leaders group members)) members
leaders_among group members g = each_map
    (λ u. Among (group u) members × (group (group u) ≡ group u)) (λ u. Among (group u) (leaders group members)) members
    (λ u p. among_filter (λ v. group v == v) (group u) members (eq-eqb (group (group u)) (group u) p.1) p.0)
    (each_and (λ u. Among (group u) members) (λ u. group (group u) ≡ group u) members g.least_in g.least_of)

pub between_is : (w : ℕ → ℕ → ℤ) (group : ℕ → ℕ) (members : List ℕ) (a b : ℕ) →
    between w group members a b ≡ total (λ u. only_if (group u == a) (total (λ v. only_if (group v == b) (w u v)) members)) members
between_is w group members a b =
    filter_total (λ u. total (w u) (group_members group members b)) (λ u. group u == a) members ∙
    total_cong (λ u. only_if (group u == a) (total (w u) (group_members group members b))) (λ u. only_if (group u == a) (total (λ v. only_if (group v == b) (w u v)) members)) members
    (λ u. ap (λ z. only_if (group u == a) z) (filter_total (w u) (λ v. group v == b) members))

pub between_sym : (w : ℕ → ℕ → ℤ) → ((u v : ℕ) → w u v ≡ w v u) → (group : ℕ → ℕ) (members : List ℕ) (a b : ℕ) → between w group members a b ≡ between w group members b a
between_sym w s group members a b =
    total_swap w (group_members group members a) (group_members group members b) ∙
    total_cong (λ v. total (λ u. w u v) (group_members group members a)) (λ v. total (w v) (group_members group members a)) (group_members group members b)
    (λ v. total_cong (λ u. w u v) (w v) (group_members group members a) (λ u. s u v))

-- the pairs of groups that share a block, both ways round
pub shared : (ℕ → ℕ → ℤ) → (ℕ → ℕ) → (ℕ → ℕ) → List ℕ → ℕ → ℕ → ℤ
shared w label group members a b = only_if (label a == label b) (between w group members a b)

row_is : (w : ℕ → ℕ → ℤ) (label group : ℕ → ℕ) (members groups : List ℕ) (a : ℕ) →
    total (shared w label group members a) groups ≡ total (λ u. only_if (group u == a) (total (λ b. only_if (label a == label b) (total (λ v. only_if (group v == b) (w u v)) members)) groups)) members
unfolding shared
row_is w label group members groups a =
    let s : (ℕ → ℕ → ℤ) = λ u b. total (λ v. only_if (group v == b) (w u v)) members in
    total_cong (shared w label group members a) (λ b. total (λ u. only_if (group u == a) (only_if (label a == label b) (s u b))) members) groups
    (λ b. ap (λ z. only_if (label a == label b) z) (between_is w group members a b) ∙
    only_if_total (label a == label b) (λ u. only_if (group u == a) (s u b)) members ∙
    total_cong (λ u. only_if (label a == label b) (only_if (group u == a) (s u b))) (λ u. only_if (group u == a) (only_if (label a == label b) (s u b))) members
    (λ u. only_if_swap (label a == label b) (group u == a) (s u b))) ∙
    total_swap (λ b u. only_if (group u == a) (only_if (label a == label b) (s u b))) groups members ∙
    total_cong (λ u. total (λ b. only_if (group u == a) (only_if (label a == label b) (s u b))) groups) (λ u. only_if (group u == a) (total (λ b. only_if (label a == label b) (s u b)) groups)) members
    (λ u. sym (only_if_total (group u == a) (λ b. only_if (label a == label b) (s u b)) groups))

col_is : (w : ℕ → ℕ → ℤ) (label group : ℕ → ℕ) (members groups : List ℕ) (c u : ℕ) → Rising groups → Each (λ u. Among (group u) groups) members →
    total (λ b. only_if (label c == label b) (total (λ v. only_if (group v == b) (w u v)) members)) groups ≡ total (λ v. only_if (label c == label (group v)) (w u v)) members
col_is w label group members groups c u r all =
    total_cong (λ b. only_if (label c == label b) (total (λ v. only_if (group v == b) (w u v)) members)) (λ b. total (λ v. only_if (group v == b) (only_if (label c == label b) (w u v))) members) groups
    (λ b. only_if_total (label c == label b) (λ v. only_if (group v == b) (w u v)) members ∙
    total_cong (λ v. only_if (label c == label b) (only_if (group v == b) (w u v))) (λ v. only_if (group v == b) (only_if (label c == label b) (w u v))) members
    (λ v. only_if_swap (label c == label b) (group v == b) (w u v))) ∙
    by_group group (λ b v. only_if (label c == label b) (w u v)) members groups r all

pub cross_is : (w : ℕ → ℕ → ℤ) (label group : ℕ → ℕ) (members groups : List ℕ) → Rising groups → Each (λ u. Among (group u) groups) members →
    Each (λ u. label (group u) ≡ label u) members →
    cross_total (shared w label group members) groups groups ≡ cross_total (λ u v. only_if (label u == label v) (w u v)) members members
cross_is w label group members groups r all keeps =
    let g : (ℕ → ℕ → ℤ) = λ a u. total (λ b. only_if (label a == label b) (total (λ v. only_if (group v == b) (w u v)) members)) groups in
    total_cong (λ a. total (shared w label group members a) groups) (λ a. total (λ u. only_if (group u == a) (g a u)) members) groups
    (λ a. row_is w label group members groups a) ∙
    by_group group g members groups r all ∙
    total_cong_on (λ u. g (group u) u) (λ u. total (λ v. only_if (label u == label v) (w u v)) members) (λ u. label (group u) ≡ label u) members keeps
    (λ u e. col_is w label group members groups (group u) u r all ∙
    total_cong_on (λ v. only_if (label (group u) == label (group v)) (w u v)) (λ v. only_if (label u == label v) (w u v)) (λ v. label (group v) ≡ label v) members keeps
    (λ v d. ap (λ c. only_if (c == label (group v)) (w u v)) e ∙ ap (λ c. only_if (label u == c) (w u v)) d))

-- ---- the value of a partition that divides no group
apart_row : (group : ℕ → ℕ) (f : ℕ → ℕ → ℤ) (x : ℕ) (xs : List ℕ) → group x ≡ x → Each (λ y. x < y) xs → Each (λ y. group y ≡ y) xs → total (λ y. only_if (group x == group y) (f x y)) xs ≡ pos 0
apart_row group f x [] e r l = refl
apart_row group f x (y ∷ ys) e r l =
    let h = apart_row group f x ys e r.1 l.1 in
    let n : eqb (group x) (group y) ≡ false = ne_eqb (group x) (group y) (λ d. omega (arith, d, e, l.0, r.0)) in
    let k : only_if (group x == group y) (f x y) ≡ pos 0 = ap (λ b. only_if b (f x y)) n in
    omega (arith, ints, h, k)

pub apart_pairs : (group : ℕ → ℕ) (f : ℕ → ℕ → ℤ) (xs : List ℕ) → Rising xs → Each (λ y. group y ≡ y) xs → pair_total (λ x y. only_if (group x == group y) (f x y)) xs ≡ pos 0
apart_pairs group f [] r l = refl
apart_pairs group f (x ∷ xs) r l =
    let h = apart_pairs group f xs r.1 l.1 in
    let k = apart_row group f x xs l.0 r.0 l.1 in
    omega (arith, ints, h, k)

pub leaders_lead : (group : ℕ → ℕ) (members : List ℕ) → Each (λ a. group a ≡ a) (leaders group members)
leaders_lead group members = each_map (λ a. (group a == a) ≡ true) (λ a. group a ≡ a) (leaders group members) (λ a t. eqb-true (group a) a t) (each_passes (λ u. group u == u) members)

-- twice over: the sums over all ordered pairs
twice : (w : ℕ → ℕ → ℤ) → ((u v : ℕ) → w u v ≡ w v u) → (label : ℕ → ℕ) (members : List ℕ) →
    cross_total (λ u v. only_if (label u == label v) (w u v)) members members ≡ value_on w label members +ℤ value_on w label members +ℤ total (λ u. w u u) members
twice w s label members =
    let h = square_is (λ u v. only_if (label u == label v) (w u v)) (λ u v. shared_sym w s label u v) members in
    let k = total_cong (λ u. only_if (label u == label u) (w u u)) (λ u. w u u) members (λ u. only_same (label u) (label u) (w u u) refl) in
    omega (arith, ints, h, k)

-- V of a partition that divides no group
pub value_split : (w : ℕ → ℕ → ℤ) → ((u v : ℕ) → w u v ≡ w v u) → (label group : ℕ → ℕ) (members : List ℕ) → AreGroups group members →
    Each (λ u. label (group u) ≡ label u) members →
    value_on w label members ≡ value_on w group members +ℤ value_on (between w group members) label (leaders group members)
unfolding shared
value_split w s label group members g keeps =
    let l = leaders group members in
    let b = between w group members in
    let r = leaders_rising group members g in
    let m = leaders_among group members g in
    let bs : ((x y : ℕ) → between w group members x y ≡ between w group members y x) = λ x y. between_sym w s group members x y in
    let one = twice w s label members in
    let two = twice w s group members in
    let three = cross_is w label group members l r m keeps in
    let four = cross_is w group group members l r m g.least_of in
    let five = twice b bs label l in
    let six = twice b bs group l in
    let seven = apart_pairs group b l r (leaders_lead group members) in
    omega (arith, ints, one, two, three, four, five, six, seven)
