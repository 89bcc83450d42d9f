-- The cuts that are found: 50 at most, each violated, and each a triangle (a claw) of groups that differ.
use Rattle.std.proofs.Common.{◌≡◌, ◌≢◌, ℕ, ◌≤◌, ◌<◌, ℤ, pos, ◌+ℤ◌, ◌*ℤ◌, ◌≤ℤ◌, ◌<ℤ◌, List, [], ◌∷◌, length, Bool, true, false, cond, ◌==◌, filter, All, Contains, refl, sym, ap, ◌∙◌, subst, arith}
use Rattle.std.proofs.lemmas.Int.{ints}
use Rattle.std.proofs.lemmas.List.Elements.{All-nil, All-cons, All-head, All-tail, All-take, All-append, All-weaker}
use Rattle.std.specs.Prelude.{int_lt}
use Rattle.clu_partition.specs.Sums.{pair_total, cross_total}
use Rattle.clu_partition.proofs.PairLaws.{not_pair}
use Rattle.clu_partition.proofs.SumLaws.{Among, Each, Rising}
use Rattle.clu_partition.proofs.ListLaws.{each_among}
use Rattle.clu_partition.proofs.Regroup.{leaders_rising, leaders_lead}
use Rattle.clu_state.specs.State.{State, IsState, leader, free_pairs, group_leaders}
use Rattle.clu_state.proofs.Bridge.{state_are_groups, each_here, each_from}
use Rattle.clu_state.proofs.FreePairs.{IsFreePair, all_free}
use Rattle.clu_cuts.specs.declared.point.Point.{Point}
use Rattle.clu_cuts.specs.declared.point.Cut.{Cut}
use Rattle.clu_cuts.specs.Point.{IsPoint, listed_share, share}
use Rattle.clu_cuts.specs.Stars.{breaks, broken, first_broken, star, pairs_with, with_two, triangles_at, triangles, triples_with, with_two_more, with_three, claws_at, claws}
use Rattle.clu_cuts.specs.Cuts.{IsTriangle, IsClaw, IsViolated}
use Rattle.clu_cuts.proofs.Front.{front_short}
use Rattle.clu_cuts.proofs.Complete.{share_turn}
use Rattle.clu_cuts.proofs.Tests.{share_range}

abbrev pub Broken : Point → Cut → Type 0
Broken p cut = breaks p cut ≡ true

all_broken : (p : Point) (cuts : List Cut) → All (Broken p) (broken p cuts)
all_broken p [] = All-nil (Broken p)
all_broken p (cut ∷ cuts) = by_test (breaks p cut) refl' (all_broken p cuts)
  where
    refl' : breaks p cut ≡ breaks p cut
    refl' = λ i. breaks p cut

    by_test : (t : Bool) → breaks p cut ≡ t → All (Broken p) (broken p cuts) → All (Broken p) (cond t (cut ∷ broken p cuts) (broken p cuts))
    by_test true e h = All-cons (Broken p) cut (broken p cuts) e h
    by_test false e h = h

pub found_broken : (p : Point) (cuts : List Cut) → All (Broken p) (first_broken p cuts)
found_broken p cuts = All-take (Broken p) 50 (broken p cuts) (all_broken p cuts)

pub found_few : (p : Point) (cuts : List Cut) → length (first_broken p cuts) ≤ 50
found_few p cuts = front_short 50 (broken p cuts)

is_past : (x y : ℤ) → int_lt x y ≡ true → x <ℤ y
is_past x y e = grind (arith, ints)

not_obeyed : (x y : ℤ) → x <ℤ y → y ≤ℤ x → ⊥
not_obeyed x y l m = omega (arith, ints, l, m)

violated_by : (p : Point) (cut : Cut) → Broken p cut → IsViolated p cut
violated_by p cut e = λ h. not_obeyed _ _ (is_past _ _ e) h

pub found_violated : (p : Point) (cuts : List Cut) → All (IsViolated p) (first_broken p cuts)
found_violated p cuts = All-weaker (Broken p) (IsViolated p) (λ c e. violated_by p c e) (first_broken p cuts) (found_broken p cuts)

all_filtered : (P : Cut → Type 0) (p : Point) (cuts : List Cut) → All P cuts → All P (broken p cuts)
all_filtered P p [] all = All-nil P
all_filtered P p (cut ∷ cuts) all = by_test (breaks p cut) (all_filtered P p cuts (All-tail P cut cuts all))
  where
    by_test : (t : Bool) → All P (broken p cuts) → All P (cond t (cut ∷ broken p cuts) (broken p cuts))
    by_test true h = All-cons P cut (broken p cuts) (All-head P cut cuts all) h
    by_test false h = h

-- ---- least vertices of different groups
pub each_filtered : {A : Type 0} (P : A → Type 0) (t : A → Bool) (xs : List A) → Each P xs → Each P (filter t xs)
each_filtered P t [] a = tt
each_filtered P t (x ∷ xs) a = by_test (t x) (each_filtered P t xs a.1)
  where
    by_test : (b : Bool) → Each P (filter t xs) → Each P (cond b (x ∷ filter t xs) (filter t xs))
    by_test true h = (a.0, h)
    by_test false h = h

each_leader : (s : State) → Each (Contains s.members) (group_leaders s)
each_leader s = each_filtered (Contains s.members) (λ u. leader s u == u) s.members (each_from (Contains s.members) s.members (λ x c. c))

member_at : (s : State) (a : ℕ) → Among a (group_leaders s) → Contains s.members a
member_at s a m = each_here (Contains s.members) a (group_leaders s) (each_leader s) m

least_at : (s : State) (a : ℕ) → Among a (group_leaders s) → leader s a ≡ a
least_at s a m = each_here (λ a. leader s a ≡ a) a (group_leaders s) (leaders_lead (leader s) s.members) m

apart_at : (s : State) (a b : ℕ) → Among a (group_leaders s) → Among b (group_leaders s) → a ≢ b → leader s a ≢ leader s b
apart_at s a b x y n e = n (sym (least_at s a x) ∙ (e ∙ least_at s b y))

both_all : (P Q R : Cut → Type 0) → ((c : Cut) → P c → Q c → R c) → (cuts : List Cut) → All P cuts → All Q cuts → All R cuts
both_all P Q R f [] a b = All-nil R
both_all P Q R f (c ∷ cuts) a b = All-cons R c cuts (f c (All-head P c cuts a) (All-head Q c cuts b)) (both_all P Q R f cuts (All-tail P c cuts a) (All-tail Q c cuts b))

-- ---- a violated triangle names three groups
-- no group has a share with itself
listed_same : (pairs : List (ℕ × ℕ)) (xs : List ℤ) (a : ℕ) → All (λ q. q.0 ≢ q.1) pairs → listed_share pairs xs a a ≡ pos 0
listed_same [] xs a all = refl
listed_same (pair ∷ pairs) [] a all = refl
listed_same (pair ∷ pairs) (x ∷ xs) a all =
    let differ = All-head (λ (q : ℕ × ℕ). q.0 ≢ q.1) pair pairs all in
    ap (λ t. cond t x (listed_share pairs xs a a)) (not_pair pair.0 pair.1 a a (λ h. differ (h.0 ∙ sym h.1)) (λ h. differ (h.0 ∙ sym h.1)))
    ∙ listed_same pairs xs a (All-tail (λ (q : ℕ × ℕ). q.0 ≢ q.1) pair pairs all)

pub share_same : (s : State) (p : Point) (a : ℕ) → IsState s → IsPoint s p → share p a a ≡ pos 0
share_same s p a i is =
    listed_same p.pairs p.x a (subst (All (λ (q : ℕ × ℕ). q.0 ≢ q.1)) (sym is.pairs)
    (All-weaker (IsFreePair s) (λ (q : ℕ × ℕ). q.0 ≢ q.1) (λ q f e. f.differ (ap (leader s) e)) (free_pairs s) (all_free s i)))

pub centre_differs : (s : State) (p : Point) (a b c : ℕ) → IsState s → IsPoint s p → breaks p (star a (b ∷ c ∷ [])) ≡ true → (a ≢ b) × (a ≢ c)
centre_differs s p a b c i is e =
    let l = is_past (pair_total (share p) (a ∷ []) +ℤ pair_total (share p) (b ∷ c ∷ []) +ℤ p.den *ℤ pos 1) (cross_total (share p) (a ∷ []) (b ∷ c ∷ [])) e in
    let one : p.den *ℤ pos 1 ≡ p.den = omega (arith, ints) in
    let some = is.positive in
    let same = share_same s p a i is in (
      (λ f. let x = ap (share p a) f in let y = ap (λ k. share p k c) f in omega (arith, ints, l, one, some, same, x, y)),
      (λ f. let x = ap (share p a) f in let y = ap (share p b) f in let z = share_turn p a b in omega (arith, ints, l, one, some, same, x, y, z)),
    )

-- a centre and two others of the groups, the lesser first
pub record IsTwoStar (groups : List ℕ) (cut : Cut) : Type 0 where
  pub a : ℕ
  pub b : ℕ
  pub c : ℕ
  pub is' : cut ≡ star a (b ∷ c ∷ [])
  pub centre : Among a groups
  pub first : Among b groups
  pub second : Among c groups
  pub up : b < c

all_pairs : (groups : List ℕ) (a b : ℕ) (others : List ℕ) → Among a groups → Among b groups → Each (λ c. Among c groups) others → Each (λ c. b < c) others
    → All (IsTwoStar groups) (pairs_with a b others)
all_pairs groups a b [] ia ib in_ up = All-nil (IsTwoStar groups)
all_pairs groups a b (c ∷ others) ia ib in_ up =
    All-cons (IsTwoStar groups) (star a (b ∷ c ∷ [])) (pairs_with a b others)
    (record { a = a; b = b; c = c; is' = refl; centre = ia; first = ib; second = in_.0; up = up.0 }) (all_pairs groups a b others ia ib in_.1 up.1)

all_two : (groups : List ℕ) (a : ℕ) (others : List ℕ) → Among a groups → Each (λ c. Among c groups) others → Rising others → All (IsTwoStar groups) (with_two a others)
all_two groups a [] ia in_ up = All-nil (IsTwoStar groups)
all_two groups a (b ∷ others) ia in_ up =
    All-append (IsTwoStar groups) (pairs_with a b others) (with_two a others) (all_pairs groups a b others ia in_.0 in_.1 up.0) (all_two groups a others ia in_.1 up.1)

all_centres : (groups centres : List ℕ) → Each (λ a. Among a groups) centres → Rising groups → All (IsTwoStar groups) (triangles_at groups centres)
all_centres groups [] in_ up = All-nil (IsTwoStar groups)
all_centres groups (a ∷ centres) in_ up =
    All-append (IsTwoStar groups) (with_two a groups) (triangles_at groups centres) (all_two groups a groups in_.0 (each_among groups) up) (all_centres groups centres in_.1 up)

pub found_stars : (s : State) (p : Point) → IsState s → All (IsTwoStar (group_leaders s)) (first_broken p (triangles s))
found_stars s p i =
    All-take (IsTwoStar (group_leaders s)) 50 (broken p (triangles s))
    (all_filtered (IsTwoStar (group_leaders s)) p (triangles s)
    (all_centres (group_leaders s) (group_leaders s) (each_among (group_leaders s)) (leaders_rising (leader s) s.members (state_are_groups s i))))

triangle_of : (s : State) (p : Point) (cut : Cut) → IsState s → IsPoint s p → IsTwoStar (group_leaders s) cut → breaks p cut ≡ true → IsTriangle s cut
triangle_of s p cut i is t e =
    let differ = centre_differs s p t.a t.b t.c i is (subst (λ c. breaks p c ≡ true) t.is' e) in
    let up = t.up in (
      t.a,
      t.b,
      t.c,
      t.is',
      record {
        members = All-cons (Contains s.members) t.a (t.b ∷ t.c ∷ []) (member_at s t.a t.centre) (All-cons (Contains s.members) t.b (t.c ∷ []) (member_at s t.b t.first)
            (All-cons (Contains s.members) t.c [] (member_at s t.c t.second) (All-nil (Contains s.members))));
        least = All-cons (λ a. leader s a ≡ a) t.a (t.b ∷ t.c ∷ []) (least_at s t.a t.centre) (All-cons (λ a. leader s a ≡ a) t.b (t.c ∷ []) (least_at s t.b t.first)
            (All-cons (λ a. leader s a ≡ a) t.c [] (least_at s t.c t.second) (All-nil (λ a. leader s a ≡ a))));
        once = (
          All-cons (λ w. leader s t.a ≢ leader s w) t.b (t.c ∷ []) (apart_at s t.a t.b t.centre t.first differ.0)
              (All-cons (λ w. leader s t.a ≢ leader s w) t.c [] (apart_at s t.a t.c t.centre t.second differ.1) (All-nil (λ w. leader s t.a ≢ leader s w))),
          (
            All-cons (λ w. leader s t.b ≢ leader s w) t.c [] (apart_at s t.b t.c t.first t.second (λ f. omega (arith, up, f))) (All-nil (λ w. leader s t.b ≢ leader s w)),
            (All-nil (λ w. leader s t.c ≢ leader s w), tt),
          ),
        );
      },
    )

pub found_triangles : (s : State) (p : Point) → IsState s → IsPoint s p → All (IsTriangle s) (first_broken p (triangles s))
found_triangles s p i is = both_all (IsTwoStar (group_leaders s)) (Broken p) (IsTriangle s) (λ c t b. triangle_of s p c i is t b) (first_broken p (triangles s)) (found_stars s p i) (found_broken p (triangles s))

-- ---- a violated claw names four groups
pub record IsThreeStar (groups : List ℕ) (cut : Cut) : Type 0 where
  pub a : ℕ
  pub b : ℕ
  pub c : ℕ
  pub d : ℕ
  pub is' : cut ≡ star a (b ∷ c ∷ d ∷ [])
  pub centre : Among a groups
  pub first : Among b groups
  pub second : Among c groups
  pub third : Among d groups
  pub up : b < c
  pub rise : c < d

all_triples : (groups : List ℕ) (a b c : ℕ) (others : List ℕ) → Among a groups → Among b groups → Among c groups → b < c → Each (λ d. Among d groups) others → Each (λ d. c < d) others
    → All (IsThreeStar groups) (triples_with a b c others)
all_triples groups a b c [] ia ib ic l in_ up = All-nil (IsThreeStar groups)
all_triples groups a b c (d ∷ others) ia ib ic l in_ up =
    All-cons (IsThreeStar groups) (star a (b ∷ c ∷ d ∷ [])) (triples_with a b c others)
    (record { a = a; b = b; c = c; d = d; is' = refl; centre = ia; first = ib; second = ic; third = in_.0; up = l; rise = up.0 }) (all_triples groups a b c others ia ib ic l in_.1 up.1)

all_more : (groups : List ℕ) (a b : ℕ) (others : List ℕ) → Among a groups → Among b groups → Each (λ c. Among c groups) others → Each (λ c. b < c) others → Rising others
    → All (IsThreeStar groups) (with_two_more a b others)
all_more groups a b [] ia ib in_ above up = All-nil (IsThreeStar groups)
all_more groups a b (c ∷ others) ia ib in_ above up =
    All-append (IsThreeStar groups) (triples_with a b c others) (with_two_more a b others) (all_triples groups a b c others ia ib in_.0 above.0 in_.1 up.0) (all_more groups a b others ia ib in_.1 above.1 up.1)

all_three : (groups : List ℕ) (a : ℕ) (others : List ℕ) → Among a groups → Each (λ c. Among c groups) others → Rising others → All (IsThreeStar groups) (with_three a others)
all_three groups a [] ia in_ up = All-nil (IsThreeStar groups)
all_three groups a (b ∷ others) ia in_ up =
    All-append (IsThreeStar groups) (with_two_more a b others) (with_three a others) (all_more groups a b others ia in_.0 in_.1 up.0 up.1) (all_three groups a others ia in_.1 up.1)

all_claws : (groups centres : List ℕ) → Each (λ a. Among a groups) centres → Rising groups → All (IsThreeStar groups) (claws_at groups centres)
all_claws groups [] in_ up = All-nil (IsThreeStar groups)
all_claws groups (a ∷ centres) in_ up =
    All-append (IsThreeStar groups) (with_three a groups) (claws_at groups centres) (all_three groups a groups in_.0 (each_among groups) up) (all_claws groups centres in_.1 up)

pub found_three : (s : State) (p : Point) → IsState s → All (IsThreeStar (group_leaders s)) (first_broken p (claws s))
found_three s p i =
    All-take (IsThreeStar (group_leaders s)) 50 (broken p (claws s))
    (all_filtered (IsThreeStar (group_leaders s)) p (claws s)
    (all_claws (group_leaders s) (group_leaders s) (each_among (group_leaders s)) (leaders_rising (leader s) s.members (state_are_groups s i))))

claw_differs : (s : State) (p : Point) (a b c d : ℕ) → IsState s → IsPoint s p → breaks p (star a (b ∷ c ∷ d ∷ [])) ≡ true → (a ≢ b) × (a ≢ c) × (a ≢ d)
claw_differs s p a b c d i is e =
    let l = is_past (pair_total (share p) (a ∷ []) +ℤ pair_total (share p) (b ∷ c ∷ d ∷ []) +ℤ p.den *ℤ pos 1) (cross_total (share p) (a ∷ []) (b ∷ c ∷ d ∷ [])) e in
    let one : p.den *ℤ pos 1 ≡ p.den = omega (arith, ints) in
    let some = is.positive in
    let same = share_same s p a i is in
    let bc = (share_range s p b c is).0 in
    let bd = (share_range s p b d is).0 in
    let cd = (share_range s p c d is).0 in (
      (λ f. let x = ap (share p a) f in let y = ap (λ k. share p k c) f in let z = ap (λ k. share p k d) f in omega (arith, ints, l, one, some, same, x, y, z, cd)),
      (λ f. let x = ap (share p a) f in let y = ap (λ k. share p k b) f in let t = share_turn p c b in let z = ap (λ k. share p k d) f in omega (arith, ints, l, one, some, same, x, y, z, t, bd)),
      (λ f. let x = ap (share p a) f in let y = ap (λ k. share p k b) f in let t = share_turn p d b in let z = ap (λ k. share p k c) f in let u = share_turn p d c in omega (arith, ints, l, one, some, same, x, y, z, t, u, bc)),
    )

claw_of : (s : State) (p : Point) (cut : Cut) → IsState s → IsPoint s p → IsThreeStar (group_leaders s) cut → breaks p cut ≡ true → IsClaw s cut
claw_of s p cut i is t e =
    let differ = claw_differs s p t.a t.b t.c t.d i is (subst (λ c. breaks p c ≡ true) t.is' e) in
    let up = t.up in
    let rise = t.rise in (
      t.a,
      t.b,
      t.c,
      t.d,
      t.is',
      record {
        members = All-cons (Contains s.members) t.a (t.b ∷ t.c ∷ t.d ∷ []) (member_at s t.a t.centre) (All-cons (Contains s.members) t.b (t.c ∷ t.d ∷ []) (member_at s t.b t.first)
            (All-cons (Contains s.members) t.c (t.d ∷ []) (member_at s t.c t.second) (All-cons (Contains s.members) t.d [] (member_at s t.d t.third) (All-nil (Contains s.members)))));
        least = All-cons (λ a. leader s a ≡ a) t.a (t.b ∷ t.c ∷ t.d ∷ []) (least_at s t.a t.centre) (All-cons (λ a. leader s a ≡ a) t.b (t.c ∷ t.d ∷ []) (least_at s t.b t.first)
            (All-cons (λ a. leader s a ≡ a) t.c (t.d ∷ []) (least_at s t.c t.second) (All-cons (λ a. leader s a ≡ a) t.d [] (least_at s t.d t.third) (All-nil (λ a. leader s a ≡ a)))));
        once = (
          All-cons (λ w. leader s t.a ≢ leader s w) t.b (t.c ∷ t.d ∷ []) (apart_at s t.a t.b t.centre t.first differ.0)
              (All-cons (λ w. leader s t.a ≢ leader s w) t.c (t.d ∷ []) (apart_at s t.a t.c t.centre t.second differ.1)
              (All-cons (λ w. leader s t.a ≢ leader s w) t.d [] (apart_at s t.a t.d t.centre t.third differ.2) (All-nil (λ w. leader s t.a ≢ leader s w)))),
          (
            All-cons (λ w. leader s t.b ≢ leader s w) t.c (t.d ∷ []) (apart_at s t.b t.c t.first t.second (λ f. omega (arith, up, f)))
                (All-cons (λ w. leader s t.b ≢ leader s w) t.d [] (apart_at s t.b t.d t.first t.third (λ f. omega (arith, up, rise, f))) (All-nil (λ w. leader s t.b ≢ leader s w))),
            (
              All-cons (λ w. leader s t.c ≢ leader s w) t.d [] (apart_at s t.c t.d t.second t.third (λ f. omega (arith, rise, f))) (All-nil (λ w. leader s t.c ≢ leader s w)),
              (All-nil (λ w. leader s t.d ≢ leader s w), tt),
            ),
          ),
        );
      },
    )

pub found_claws : (s : State) (p : Point) → IsState s → IsPoint s p → All (IsClaw s) (first_broken p (claws s))
found_claws s p i is = both_all (IsThreeStar (group_leaders s)) (Broken p) (IsClaw s) (λ c t b. claw_of s p c i is t b) (first_broken p (claws s)) (found_three s p i) (found_broken p (claws s))
