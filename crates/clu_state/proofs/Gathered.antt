-- The weights of all pairs of members, gathered by the places of their groups.
use Rattle.std.proofs.Common.{◌≡◌, ◌≢◌, ⊎_elim, ℕ, ℤ, pos, ◌+ℤ◌, List, [], ◌∷◌, slice_index, filter, cond, Bool, true, false, ◌&&◌, ◌||◌, ◌==◌, refl, sym, ap, ◌∙◌, arith, Contains}
use Rattle.std.proofs.lemmas.Int.{ints}
use Rattle.std.proofs.lemmas.Bool.{eq-eqb, ne_eqb, cases_eq}
use Rattle.clu_partition.specs.Sums.{total, pair_total, cross_total, only_if}
use Rattle.clu_partition.specs.Values.{value_on}
use Rattle.clu_partition.specs.Groups.{group_members, between}
use Rattle.clu_partition.proofs.SumLaws.{Each, total_cong, total_add, total_zero, square_is, pair_cong_on}
use Rattle.clu_partition.proofs.Regroup.{only_if_total, between_is, between_sym}
use Rattle.clu_state.proofs.Bridge.{each_from}
use Rattle.clu_state.specs.Building.{ArePlaces, home, weight_between, weight_within}
use Rattle.clu_state.proofs.Joined.{places_differ}
use Rattle.clu_partition.proofs.BoolLaws.{or_turn, not_both}
use Rattle.clu_partition.proofs.PairLaws.{not_pair, pair_split}
use Rattle.clu_partition.specs.Pairs.{are_pair}

-- ---- the pairs that share with two places
and_turn : (a b : Bool) → (a && b) ≡ (b && a)
and_turn true true = refl
and_turn true false = refl
and_turn false true = refl
and_turn false false = refl

share_sym : (w : ℕ → ℕ → ℤ) → ((u v : ℕ) → w u v ≡ w v u) → (at' : ℕ → ℕ) (x z u v : ℕ) → weight_between w at' x z u v ≡ weight_between w at' x z v u
share_sym w s at' x z u v =
    ap (λ k. only_if (k || (at' u == z && at' v == x)) (w u v)) (and_turn (at' u == x) (at' v == z)) ∙
    ap (λ k. only_if ((at' v == z && at' u == x) || k) (w u v)) (and_turn (at' u == z) (at' v == x)) ∙
    ap (λ k. only_if k (w u v)) (or_turn (at' v == z && at' u == x) (at' v == x && at' u == z)) ∙
    ap (only_if (are_pair (at' v) (at' u) x z)) (s u v)

row_is : (w : ℕ → ℕ → ℤ) (at' : ℕ → ℕ) (x z u : ℕ) (vs : List ℕ) → x ≢ z →
    total (weight_between w at' x z u) vs ≡ only_if (at' u == x) (total (λ v. only_if (at' v == z) (w u v)) vs) +ℤ only_if (at' u == z) (total (λ v. only_if (at' v == x) (w u v)) vs)
row_is w at' x z u vs d =
    let a = total_cong (weight_between w at' x z u) (λ v. only_if (at' u == x) (only_if (at' v == z) (w u v)) +ℤ only_if (at' u == z) (only_if (at' v == x) (w u v))) vs (λ v. pair_split (at' u == x) (at' v == z) (at' u == z) (at' v == x) (w u v) (not_both (at' u) x z d)) in
    let b = total_add (λ v. only_if (at' u == x) (only_if (at' v == z) (w u v))) (λ v. only_if (at' u == z) (only_if (at' v == x) (w u v))) vs in
    let c = only_if_total (at' u == x) (λ v. only_if (at' v == z) (w u v)) vs in
    let e = only_if_total (at' u == z) (λ v. only_if (at' v == x) (w u v)) vs in
    omega (arith, ints, a, b, c, e)

square : (w : ℕ → ℕ → ℤ) (at' : ℕ → ℕ) (x z : ℕ) (vs : List ℕ) → x ≢ z → cross_total (weight_between w at' x z) vs vs ≡ between w at' vs x z +ℤ between w at' vs z x
square w at' x z vs d =
    let a = total_cong (λ u. total (weight_between w at' x z u) vs) (λ u. only_if (at' u == x) (total (λ v. only_if (at' v == z) (w u v)) vs) +ℤ only_if (at' u == z) (total (λ v. only_if (at' v == x) (w u v)) vs)) vs (λ u. row_is w at' x z u vs d) in
    let b = total_add (λ u. only_if (at' u == x) (total (λ v. only_if (at' v == z) (w u v)) vs)) (λ u. only_if (at' u == z) (total (λ v. only_if (at' v == x) (w u v)) vs)) vs in
    let c = between_is w at' vs x z in
    let e = between_is w at' vs z x in
    omega (arith, ints, a, b, c, e)

-- the weights of the pairs that share with two places are those between them
pub share_is : (w : ℕ → ℕ → ℤ) → ((u v : ℕ) → w u v ≡ w v u) → (at' : ℕ → ℕ) (x z : ℕ) (vs : List ℕ) → x ≢ z → pair_total (weight_between w at' x z) vs ≡ between w at' vs x z
share_is w s at' x z vs d =
    let a = square_is (weight_between w at' x z) (share_sym w s at' x z) vs in
    let b = square w at' x z vs d in
    let c = between_sym w s at' vs x z in
    let e = total_cong (λ u. weight_between w at' x z u u) (λ _. pos 0) vs (λ u. ap (λ k. only_if k (w u u)) (not_pair (at' u) (at' u) x z (λ k. d (sym k.0 ∙ k.1)) (λ k. d (sym k.1 ∙ k.0)))) in
    let f = total_zero {A = ℕ} vs in
    omega (arith, ints, a, b, c, e, f)

-- ---- places for groups
same_place : (members place : List ℕ) (a b : ℕ) → ArePlaces members place → Contains members a → Contains members b → (slice_index place a == slice_index place b) ≡ (a == b)
same_place members place a b at' ca cb = ⊎_elim
    (λ e. eq-eqb (slice_index place a) (slice_index place b) (ap (slice_index place) e) ∙ sym (eq-eqb a b e))
    (λ n. ne_eqb (slice_index place a) (slice_index place b) (places_differ members place a b at' ca cb n) ∙ sym (ne_eqb a b n))
    (cases_eq a b)

filter_cong : (f g : ℕ → Bool) (xs : List ℕ) → Each (λ x. f x ≡ g x) xs → filter f xs ≡ filter g xs
filter_cong f g [] e = refl
filter_cong f g (x ∷ xs) e = ap (λ b. cond b (x ∷ filter f xs) (filter f xs)) e.0 ∙ ap (λ ys. cond (g x) (x ∷ ys) ys) (filter_cong f g xs e.1)

block_is : (group place members : List ℕ) (a : ℕ) → ArePlaces members place → ((v : ℕ) → Contains members v → Contains members (slice_index group v)) → Contains members a →
    group_members (home group place) members (slice_index place a) ≡ group_members (slice_index group) members a
block_is group place members a at' into c = filter_cong (λ u. home group place u == slice_index place a) (λ u. slice_index group u == a) members
    (each_from (λ u. (home group place u == slice_index place a) ≡ (slice_index group u == a)) members (λ u m. same_place members place (slice_index group u) a at' (into u m) c))

-- the weight between the places of two groups is that between the groups
pub between_places : (w : ℕ → ℕ → ℤ) (group place members : List ℕ) (a b : ℕ) → ArePlaces members place → ((v : ℕ) → Contains members v → Contains members (slice_index group v)) → Contains members a → Contains members b →
    between w (home group place) members (slice_index place a) (slice_index place b) ≡ between w (slice_index group) members a b
between_places w group place members a b at' into ca cb =
    ap (λ xs. cross_total w xs (group_members (home group place) members (slice_index place b))) (block_is group place members a at' into ca) ∙
    ap (cross_total w (group_members (slice_index group) members a)) (block_is group place members b at' into cb)

pub kept_is : (w : ℕ → ℕ → ℤ) (group place members : List ℕ) → ArePlaces members place → ((v : ℕ) → Contains members v → Contains members (slice_index group v)) →
    pair_total (weight_within w (home group place)) members ≡ value_on w (slice_index group) members
kept_is w group place members at' into = pair_cong_on (weight_within w (home group place)) (λ u v. only_if (slice_index group u == slice_index group v) (w u v)) (Contains members) members (each_from (Contains members) members (λ v c. c))
    (λ u v cu cv. ap (λ k. only_if k (w u v)) (same_place members place (slice_index group u) (slice_index group v) at' (into u cu) (into v cv)))
