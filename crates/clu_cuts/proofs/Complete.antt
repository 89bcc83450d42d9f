-- Where nothing is found, every triangle and every claw is obeyed.
use Rattle.std.proofs.Common.{◌≡◌, ◌≢◌, inl, inr, ⊎_elim, ℕ, ◌<◌, ℤ, pos, ◌+ℤ◌, ◌*ℤ◌, ◌≤ℤ◌, List, [], ◌∷◌, ◌++◌, length, take, map, Bool, true, false, cond, ◌==◌, ◌&&◌, ◌||◌, Contains, refl, sym, ap, ◌∙◌, subst, arith}
use Rattle.std.proofs.lemmas.Int.{ints}
use Rattle.std.proofs.lemmas.List.Elements.{All-head, All-tail}
use Rattle.std.specs.Prelude.{int_lt}
use Rattle.clu_partition.specs.Sums.{pair_total, cross_total}
use Rattle.clu_partition.specs.Pairs.{are_pair}
use Rattle.clu_partition.proofs.SumLaws.{Among, Rising, below_later}
use Rattle.clu_partition.proofs.PairLaws.{one_less}
use Rattle.clu_partition.proofs.Regroup.{leaders_rising}
use Rattle.clu_state.specs.State.{State, IsState, leader, group_leaders}
use Rattle.clu_state.proofs.Bridge.{leader_among, state_are_groups}
use Rattle.clu_cuts.specs.declared.point.Point.{Point}
use Rattle.clu_cuts.specs.declared.point.Cut.{Cut}
use Rattle.clu_cuts.specs.Point.{TwoSetAt, AreGroups, listed_share, share}
use Rattle.clu_cuts.specs.Stars.{breaks, broken, first_broken, star, each_one, each_pair, with_two, with_two_more, with_three, triangles, claws}
use Rattle.clu_cuts.proofs.Tests.{not_past}

-- ---- nothing among the first is nothing at all
no_item : {A : Type 0} (x : A) (xs : List A) → x ∷ xs ≡ [] → ⊥
no_item x xs e = let h = ap length e in omega (arith, h)

none_of : (p : Point) (cuts : List Cut) → first_broken p cuts ≡ [] → broken p cuts ≡ []
none_of p cuts e = front (broken p cuts) e
  where
    front : (xs : List Cut) → take 50 xs ≡ [] → xs ≡ []
    front [] e = refl
    front (x ∷ xs) e = absurd (no_item x (take 49 xs) e)

holds_at : (p : Point) (cuts : List Cut) (cut : Cut) → broken p cuts ≡ [] → Among cut cuts → breaks p cut ≡ false
holds_at p [] cut e m = absurd m
holds_at p (c ∷ cuts) cut e m =
    let h = by_test (breaks p c) e in
    ⊎_elim (λ i. ap (breaks p) i ∙ h.0) (λ n. holds_at p cuts cut h.1 n) m
  where
    by_test : (t : Bool) → cond t (c ∷ broken p cuts) (broken p cuts) ≡ [] → (t ≡ false) × (broken p cuts ≡ [])
    by_test true e = absurd (no_item c (broken p cuts) e)
    by_test false e = (refl, e)

-- ---- each triangle and each claw is listed
in_left : (cut : Cut) (xs ys : List Cut) → Among cut xs → Among cut (xs ++ ys)
in_left cut [] ys m = absurd m
in_left cut (x ∷ xs) ys m = ⊎_elim (λ e. inl e) (λ n. inr (in_left cut xs ys n)) m

in_right : (cut : Cut) (xs ys : List Cut) → Among cut ys → Among cut (xs ++ ys)
in_right cut [] ys m = m
in_right cut (x ∷ xs) ys m = inr (in_right cut xs ys m)

in_map : (f : ℕ → Cut) (x : ℕ) (xs : List ℕ) → Among x xs → Among (f x) (map f xs)
in_map f x [] m = absurd m
in_map f x (y ∷ ys) m = ⊎_elim (λ e. inl (ap f e)) (λ n. inr (in_map f x ys n)) m

pair_in : (f : ℕ → ℕ → Cut) (b c : ℕ) (groups : List ℕ) → Rising groups → Among b groups → Among c groups → b < c → Among (f b c) (each_pair f groups)
pair_in f b c [] up ib ic l = absurd ib
pair_in f b c (x ∷ xs) up ib ic l = ⊎_elim
    (λ (e : b ≡ x). ⊎_elim (λ (g : c ≡ x). absurd (omega (arith, e, g, l)))
    (λ n. subst (λ y. Among (f y c) (each_pair f (x ∷ xs))) (sym e) (in_left (f x c) (map (f x) xs) (each_pair f xs) (in_map (f x) c xs n))) ic)
    (λ n. ⊎_elim (λ (g : c ≡ x). absurd (let h = below_later b x xs up.0 n in omega (arith, h, g, l)))
    (λ m. in_right (f b c) (map (f x) xs) (each_pair f xs) (pair_in f b c xs up.1 n m l)) ic)
    ib

three_in : (a b c d : ℕ) (groups : List ℕ) → Rising groups → Among b groups → Among c groups → Among d groups → b < c → c < d
    → Among (star a (b ∷ c ∷ d ∷ [])) (with_three a groups)
three_in a b c d [] up ib ic id l k = absurd ib
three_in a b c d (x ∷ xs) up ib ic id l k = ⊎_elim
    (λ (e : b ≡ x). ⊎_elim (λ (f : c ≡ x). absurd (omega (arith, e, f, l)))
    (λ n. ⊎_elim (λ (g : d ≡ x). absurd (omega (arith, e, g, l, k)))
    (λ m. subst (λ y. Among (star a (y ∷ c ∷ d ∷ [])) (with_three a (x ∷ xs))) (sym e)
    (in_left (star a (x ∷ c ∷ d ∷ [])) (with_two_more a x xs) (with_three a xs) (pair_in (λ c d. star a (x ∷ c ∷ d ∷ [])) c d xs up.1 n m k))) id) ic)
    (λ n. ⊎_elim (λ (f : c ≡ x). absurd (let h = below_later b x xs up.0 n in omega (arith, h, f, l)))
    (λ m. ⊎_elim (λ (g : d ≡ x). absurd (let h = below_later b x xs up.0 n in omega (arith, h, g, l, k)))
    (λ o. in_right (star a (b ∷ c ∷ d ∷ [])) (with_two_more a x xs) (with_three a xs) (three_in a b c d xs up.1 n m o l k)) id) ic)
    ib

one_in : (f : ℕ → List Cut) (cut : Cut) (a : ℕ) (centres : List ℕ) → Among a centres → Among cut (f a) → Among cut (each_one f centres)
one_in f cut a [] ia m = absurd ia
one_in f cut a (x ∷ xs) ia m = ⊎_elim
    (λ e. in_left cut (f x) (each_one f xs) (subst (λ y. Among cut (f y)) e m))
    (λ n. in_right cut (f x) (each_one f xs) (one_in f cut a xs n m))
    ia

-- ---- shares are the same in both orders
pair_turn : (a b x z : ℕ) → are_pair a b x z ≡ are_pair a b z x
pair_turn a b x z = either (a == x && b == z) (a == z && b == x)
  where
    either : (s t : Bool) → (s || t) ≡ (t || s)
    either true true = refl
    either true false = refl
    either false true = refl
    either false false = refl

listed_turn : (pairs : List (ℕ × ℕ)) (xs : List ℤ) (a b : ℕ) → listed_share pairs xs a b ≡ listed_share pairs xs b a
listed_turn [] xs a b = refl
listed_turn (pair ∷ pairs) [] a b = refl
listed_turn (pair ∷ pairs) (x ∷ xs) a b =
    ap (λ t. cond t x (listed_share pairs xs a b)) (pair_turn pair.0 pair.1 a b) ∙ ap (λ y. cond (are_pair pair.0 pair.1 b a) x y) (listed_turn pairs xs a b)

pub share_turn : (p : Point) (a b : ℕ) → share p a b ≡ share p b a
share_turn p a b = listed_turn p.pairs p.x a b

-- ---- the inequalities
obeyed : (p : Point) (s t : List ℕ) (k : ℤ) → int_lt (pair_total (share p) s +ℤ pair_total (share p) t +ℤ k) (cross_total (share p) s t) ≡ false
    → cross_total (share p) s t ≤ℤ (pair_total (share p) s +ℤ pair_total (share p) t +ℤ k)
obeyed p s t k e = not_past (pair_total (share p) s +ℤ pair_total (share p) t +ℤ k) (cross_total (share p) s t) e

at_triangle : (s : State) (p : Point) (a b c : ℕ) → IsState s → first_broken p (triangles s) ≡ [] → Among a (group_leaders s) → Among b (group_leaders s) → Among c (group_leaders s)
    → b < c → TwoSetAt p (a ∷ []) (b ∷ c ∷ [])
at_triangle s p a b c i e ia ib ic l =
    let up = leaders_rising (leader s) s.members (state_are_groups s i) in
    obeyed p (a ∷ []) (b ∷ c ∷ []) (p.den *ℤ pos 1)
    (holds_at p (triangles s) (star a (b ∷ c ∷ [])) (none_of p (triangles s) e)
    (one_in (λ a. with_two a (group_leaders s)) (star a (b ∷ c ∷ [])) a (group_leaders s) ia (pair_in (λ b c. star a (b ∷ c ∷ [])) b c (group_leaders s) up ib ic l)))

-- the centre with the others turned round
turned : (p : Point) (a b c : ℕ) → TwoSetAt p (a ∷ []) (c ∷ b ∷ []) → TwoSetAt p (a ∷ []) (b ∷ c ∷ [])
turned p a b c h = let t = share_turn p b c in omega (arith, ints, h, t)

pub every_triangle : (s : State) (p : Point) (a b c : ℕ) → IsState s → first_broken p (triangles s) ≡ [] → Among a (group_leaders s) → Among b (group_leaders s) → Among c (group_leaders s)
    → b ≢ c → TwoSetAt p (a ∷ []) (b ∷ c ∷ [])
every_triangle s p a b c i e ia ib ic n = ⊎_elim
    (λ (l : b < c). at_triangle s p a b c i e ia ib ic l)
    (λ (l : c < b). turned p a b c (at_triangle s p a c b i e ia ic ib l))
    (one_less b c n)

at_claw : (s : State) (p : Point) (a b c d : ℕ) → IsState s → first_broken p (claws s) ≡ [] → Among a (group_leaders s) → Among b (group_leaders s) → Among c (group_leaders s)
    → Among d (group_leaders s) → b < c → c < d → TwoSetAt p (a ∷ []) (b ∷ c ∷ d ∷ [])
at_claw s p a b c d i e ia ib ic id l k =
    let up = leaders_rising (leader s) s.members (state_are_groups s i) in
    obeyed p (a ∷ []) (b ∷ c ∷ d ∷ []) (p.den *ℤ pos 1)
    (holds_at p (claws s) (star a (b ∷ c ∷ d ∷ [])) (none_of p (claws s) e)
    (one_in (λ a. with_three a (group_leaders s)) (star a (b ∷ c ∷ d ∷ [])) a (group_leaders s) ia (three_in a b c d (group_leaders s) up ib ic id l k)))

-- the others of a claw, two of them turned round
first_two : (p : Point) (a b c d : ℕ) → TwoSetAt p (a ∷ []) (c ∷ b ∷ d ∷ []) → TwoSetAt p (a ∷ []) (b ∷ c ∷ d ∷ [])
first_two p a b c d h = let t = share_turn p b c in omega (arith, ints, h, t)

last_two : (p : Point) (a b c d : ℕ) → TwoSetAt p (a ∷ []) (b ∷ d ∷ c ∷ []) → TwoSetAt p (a ∷ []) (b ∷ c ∷ d ∷ [])
last_two p a b c d h = let t = share_turn p c d in omega (arith, ints, h, t)

pub every_claw : (s : State) (p : Point) (a b c d : ℕ) → IsState s → first_broken p (claws s) ≡ [] → Among a (group_leaders s) → Among b (group_leaders s) → Among c (group_leaders s)
    → Among d (group_leaders s) → b ≢ c → b ≢ d → c ≢ d → TwoSetAt p (a ∷ []) (b ∷ c ∷ d ∷ [])
every_claw s p a b c d i e ia ib ic id bc bd cd = ⊎_elim
    (λ (l : b < c). ⊎_elim
    (λ (m : c < d). at_claw s p a b c d i e ia ib ic id l m)
    (λ (m : d < c). last_two p a b c d (⊎_elim
    (λ (n : b < d). at_claw s p a b d c i e ia ib id ic n m)
    (λ (n : d < b). first_two p a b d c (at_claw s p a d b c i e ia id ib ic n l))
    (one_less b d bd)))
    (one_less c d cd))
    (λ (l : c < b). first_two p a b c d (⊎_elim
    (λ (m : b < d). at_claw s p a c b d i e ia ic ib id l m)
    (λ (m : d < b). last_two p a c b d (⊎_elim
    (λ (n : c < d). at_claw s p a c d b i e ia ic id ib n m)
    (λ (n : d < c). first_two p a c d b (at_claw s p a d c b i e ia id ic ib n l))
    (one_less c d cd)))
    (one_less b d bd)))
    (one_less b c bc)

-- ---- by the least vertices of groups that differ
listed_leader : (s : State) (a : ℕ) → IsState s → Contains s.members a → leader s a ≡ a → Among a (group_leaders s)
listed_leader s a i c l = subst (λ x. Among x (group_leaders s)) l (leader_among s i a c)

apart_leaders : (s : State) (a b : ℕ) → leader s a ≢ leader s b → a ≢ b
apart_leaders s a b n e = n (ap (leader s) e)

pub triangles_obeyed : (s : State) (p : Point) → IsState s → first_broken p (triangles s) ≡ [] → (a b c : ℕ) → AreGroups s (a ∷ b ∷ c ∷ []) → TwoSetAt p (a ∷ []) (b ∷ c ∷ [])
triangles_obeyed s p i none_two a b c g =
    let m = g.members in let l = g.least in
    let ma = All-head (Contains s.members) a (b ∷ c ∷ []) m in let m1 = All-tail (Contains s.members) a (b ∷ c ∷ []) m in
    let mb = All-head (Contains s.members) b (c ∷ []) m1 in let mc = All-head (Contains s.members) c [] (All-tail (Contains s.members) b (c ∷ []) m1) in
    let la = All-head (λ a. leader s a ≡ a) a (b ∷ c ∷ []) l in let l1 = All-tail (λ a. leader s a ≡ a) a (b ∷ c ∷ []) l in
    let lb = All-head (λ a. leader s a ≡ a) b (c ∷ []) l1 in let lc = All-head (λ a. leader s a ≡ a) c [] (All-tail (λ a. leader s a ≡ a) b (c ∷ []) l1) in
    every_triangle s p a b c i none_two (listed_leader s a i ma la) (listed_leader s b i mb lb) (listed_leader s c i mc lc)
    (apart_leaders s b c (All-head (λ w. leader s b ≢ leader s w) c [] g.once.1.0))

pub claws_obeyed : (s : State) (p : Point) → IsState s → first_broken p (claws s) ≡ [] → (a b c d : ℕ) → AreGroups s (a ∷ b ∷ c ∷ d ∷ []) → TwoSetAt p (a ∷ []) (b ∷ c ∷ d ∷ [])
claws_obeyed s p i none_three a b c d g =
    let m = g.members in let l = g.least in
    let ma = All-head (Contains s.members) a (b ∷ c ∷ d ∷ []) m in let m1 = All-tail (Contains s.members) a (b ∷ c ∷ d ∷ []) m in
    let mb = All-head (Contains s.members) b (c ∷ d ∷ []) m1 in let m2 = All-tail (Contains s.members) b (c ∷ d ∷ []) m1 in
    let mc = All-head (Contains s.members) c (d ∷ []) m2 in let md = All-head (Contains s.members) d [] (All-tail (Contains s.members) c (d ∷ []) m2) in
    let la = All-head (λ a. leader s a ≡ a) a (b ∷ c ∷ d ∷ []) l in let l1 = All-tail (λ a. leader s a ≡ a) a (b ∷ c ∷ d ∷ []) l in
    let lb = All-head (λ a. leader s a ≡ a) b (c ∷ d ∷ []) l1 in let l2 = All-tail (λ a. leader s a ≡ a) b (c ∷ d ∷ []) l1 in
    let lc = All-head (λ a. leader s a ≡ a) c (d ∷ []) l2 in let ld = All-head (λ a. leader s a ≡ a) d [] (All-tail (λ a. leader s a ≡ a) c (d ∷ []) l2) in
    let o = g.once.1 in
    every_claw s p a b c d i none_three (listed_leader s a i ma la) (listed_leader s b i mb lb) (listed_leader s c i mc lc) (listed_leader s d i md ld)
    (apart_leaders s b c (All-head (λ w. leader s b ≢ leader s w) c (d ∷ []) o.0))
    (apart_leaders s b d (All-head (λ w. leader s b ≢ leader s w) d [] (All-tail (λ w. leader s b ≢ leader s w) c (d ∷ []) o.0)))
    (apart_leaders s c d (All-head (λ w. leader s c ≢ leader s w) d [] o.1.0))
