-- The list of the free pairs: it rises, and where it is empty no two groups are free, a packing has no rows and a bound is the value
-- inside the groups.
use Rattle.std.proofs.Common.{◌≡◌, ◌≢◌, inl, inr, ⊎_elim, ℕ, ℤ, pos, ◌+ℤ◌, ◌-ℤ◌, ◌*ℤ◌, ◌<◌, List, [], ◌∷◌, ◌++◌, length, Bool, true, false, cond, not, All, refl, sym, ap, ◌∙◌, arith, true≢false}
use Rattle.std.proofs.lemmas.Int.{ints}
use Rattle.std.proofs.lemmas.List.Elements.{All-cons, All-nil, All-head, All-tail, All-append}
use Rattle.clu_partition.specs.Closed.{Precedes, AreRising}
use Rattle.clu_partition.specs.Sums.{total, pair_total, only_if, positive}
use Rattle.clu_partition.specs.Groups.{between}
use Rattle.clu_partition.specs.Pairs.{weight_of}
use Rattle.clu_partition.proofs.SumLaws.{Each, Among, Rising}
use Rattle.clu_partition.proofs.JoinLaws.{joins_turn, joins_same}
use Rattle.clu_partition.proofs.Regroup.{leaders_rising}
use Rattle.clu_state.specs.State.{State, IsState, leader, are_apart, kept_apart, group_leaders, free_with, free_of, free_pairs, fixed_value}
use Rattle.clu_partition.proofs.ListLaws.{each_map, every}
use Rattle.clu_state.proofs.Bridge.{state_are_groups, leader_among, each_here}
use Rattle.clu_state.proofs.GroupLaws.{leader_leads}
use Rattle.clu_rows.specs.Rows.{TwoSet, leaf_bound_of, priced, excess, floor_div}
use Rattle.clu_rows.specs.Packing.{IsPacking, nothing, one_more}
use Rattle.clu_node.specs.Node.{NoneFree}

-- ---- what holds of each free pair
unless : (P : ℕ × ℕ → Type 0) (apart : Bool) (p : ℕ × ℕ) (pairs : List (ℕ × ℕ)) → P p → All P pairs → All P (cond apart pairs (p ∷ pairs))
unless P true p pairs h all = all
unless P false p pairs h all = All-cons P p pairs h all

all_with : (P : ℕ × ℕ → Type 0) (s : State) (a : ℕ) (bs : List ℕ) → Each (λ b. P (a, b)) bs → All P (free_with s a bs)
all_with P s a [] each = All-nil P
all_with P s a (b ∷ bs) each = unless P (are_apart s a b) (a, b) (free_with s a bs) each.0 (all_with P s a bs each.1)

-- ---- the list rises
rising_unless : (apart : Bool) (p : ℕ × ℕ) (pairs : List (ℕ × ℕ)) → All (Precedes p) pairs → AreRising pairs → AreRising (cond apart pairs (p ∷ pairs))
rising_unless true p pairs before up = up
rising_unless false p pairs before up = (before, up)

with_rising : (s : State) (a : ℕ) (bs : List ℕ) → Rising bs → AreRising (free_with s a bs)
with_rising s a [] up = tt
with_rising s a (b ∷ bs) up =
    rising_unless (are_apart s a b) (a, b) (free_with s a bs)
    (all_with (Precedes (a, b)) s a bs (each_map (λ c. b < c) (λ c. Precedes (a, b) (a, c)) bs (λ c l. inr (refl, l)) up.0))
    (with_rising s a bs up.1)

of_after : (s : State) (a : ℕ) (groups : List ℕ) → Each (λ g. a < g) groups → All (λ p. a < p.0) (free_of s groups)
of_after s a [] after = All-nil (λ p. a < p.0)
of_after s a (g ∷ groups) after =
    All-append (λ p. a < p.0) (free_with s g groups) (free_of s groups)
    (all_with (λ p. a < p.0) s g groups (each_map (λ _. Unit {0}) (λ _. a < g) groups (λ _ _. after.0) (every groups)))
    (of_after s a groups after.1)

rising_append : (xs ys : List (ℕ × ℕ)) → AreRising xs → AreRising ys → All (λ x. All (Precedes x) ys) xs → AreRising (xs ++ ys)
rising_append [] ys up vp before = vp
rising_append (x ∷ xs) ys up vp before = (
  All-append (Precedes x) xs ys up.0 (All-head (λ p. All (Precedes p) ys) x xs before),
  rising_append xs ys up.1 vp (All-tail (λ p. All (Precedes p) ys) x xs before),
)

of_rising : (s : State) (groups : List ℕ) → Rising groups → AreRising (free_of s groups)
of_rising s [] up = tt
of_rising s (a ∷ groups) up =
    let after = of_after s a groups up.0 in
    rising_append (free_with s a groups) (free_of s groups) (with_rising s a groups up.1) (of_rising s groups up.1)
    (all_with (λ p. All (Precedes p) (free_of s groups)) s a groups
    (each_map (λ _. Unit {0}) (λ b. All (Precedes (a, b)) (free_of s groups)) groups (λ b _ k d n. inl (after k d n)) (every groups)))

pub free_rising : (s : State) → IsState s → AreRising (free_pairs s)
free_rising s h = of_rising s (group_leaders s) (leaders_rising (leader s) s.members (state_are_groups s h))

-- ---- the list is empty: no two groups are free
-- each group is apart from those after it
abbrev AllApart : State → List ℕ → Type 0
AllApart s [] = Unit {0}
AllApart s (a ∷ groups) = Each (λ b. are_apart s a b ≡ true) groups × AllApart s groups

no_first : {A : Type 0} (x : A) (xs : List A) → x ∷ xs ≡ [] → ⊥
no_first x xs e = let h = ap length e in omega (arith, h)

front_empty : (xs ys : List (ℕ × ℕ)) → xs ++ ys ≡ [] → (xs ≡ []) × (ys ≡ [])
front_empty [] ys e = (refl, e)
front_empty (x ∷ xs) ys e = absurd (no_first x (xs ++ ys) e)

apart_if : (apart : Bool) (p : ℕ × ℕ) (pairs : List (ℕ × ℕ)) → cond apart pairs (p ∷ pairs) ≡ [] → (apart ≡ true) × (pairs ≡ [])
apart_if true p pairs e = (refl, e)
apart_if false p pairs e = absurd (no_first p pairs e)

with_none : (s : State) (a : ℕ) (bs : List ℕ) → free_with s a bs ≡ [] → Each (λ b. are_apart s a b ≡ true) bs
with_none s a [] e = tt
with_none s a (b ∷ bs) e =
    let h = apart_if (are_apart s a b) (a, b) (free_with s a bs) e in
    (h.0, with_none s a bs h.1)

of_none : (s : State) (groups : List ℕ) → free_of s groups ≡ [] → AllApart s groups
of_none s [] e = tt
of_none s (a ∷ groups) e =
    let h = front_empty (free_with s a groups) (free_of s groups) e in
    (with_none s a groups h.0, of_none s groups h.1)

two_apart : (s : State) (groups : List ℕ) (a b : ℕ) → AllApart s groups → Among a groups → Among b groups → a ≢ b
    → are_apart s a b ≡ true
two_apart s [] a b all ia ib differ = absurd ia
two_apart s (g ∷ groups) a b all ia ib differ =
    ⊎_elim
    (λ e. ⊎_elim (λ f. absurd (differ (e ∙ sym f))) (λ m. ap (λ x. are_apart s x b) e ∙ each_here (λ x. are_apart s g x ≡ true) b groups all.0 m) ib)
    (λ n. ⊎_elim
    (λ f. joins_turn (leader s) (kept_apart s) a b ∙ ap (λ x. are_apart s x a) f ∙ each_here (λ x. are_apart s g x ≡ true) a groups all.0 n)
    (λ m. two_apart s groups a b all.1 n m differ) ib)
    ia

pub none_free : (s : State) → IsState s → free_pairs s ≡ [] → NoneFree s
none_free s h e u v free =
    let first = leader_leads s u h free.first in
    let second = leader_leads s v h free.second in
    let apart : are_apart s (leader s u) (leader s v) ≡ true =
    two_apart s (group_leaders s) (leader s u) (leader s v) (of_none s (group_leaders s) e)
    (leader_among s h u free.first) (leader_among s h v free.second) free.differ in
    let same = joins_same (leader s) (kept_apart s) u v (leader s u) (leader s v) (sym first.least) (sym second.least) in
    true≢false (sym (same ∙ apart) ∙ free.allowed)

-- ---- then nothing is left uncovered, a packing has no rows, and the bound is the value inside the groups
nothing_with : (s : State) (f : ℕ → ℤ) (a : ℕ) (bs : List ℕ) → Each (λ b. are_apart s a b ≡ true) bs
    → total (λ b. only_if (not (are_apart s a b)) (f b)) bs ≡ pos 0
nothing_with s f a [] all = refl
nothing_with s f a (b ∷ bs) all =
    let h : only_if (not (are_apart s a b)) (f b) ≡ pos 0 = ap (λ t. only_if (not t) (f b)) all.0 in
    let k = nothing_with s f a bs all.1 in
    omega (arith, ints, h, k)

nothing_of : (s : State) (f : ℕ → ℕ → ℤ) (groups : List ℕ) → AllApart s groups
    → pair_total (λ a b. only_if (not (are_apart s a b)) (f a b)) groups ≡ pos 0
nothing_of s f [] all = refl
nothing_of s f (a ∷ groups) all =
    let h = nothing_with s (f a) a groups all.0 in
    let k = nothing_of s f groups all.1 in
    omega (arith, ints, h, k)

no_excess : (s : State) (den : ℕ) (rows : List TwoSet) → free_pairs s ≡ []
    → excess (weight_of s.pairs) (leader s) (are_apart s) s.members den rows ≡ pos 0
no_excess s den rows e =
    nothing_of s (λ a b. pos (positive (pos den *ℤ between (weight_of s.pairs) (leader s) s.members a b -ℤ priced (leader s) rows a b)))
    (group_leaders s) (of_none s (group_leaders s) e)

no_rows : (s : State) (rows : List TwoSet) → NoneFree s → IsPacking s rows → rows ≡ []
no_rows s [] none nothing = refl
no_rows s _ none (one_more packing three some can) = absurd (none _ _ (record {
  first = three.first;
  second = three.second;
  differ = λ e. three.one_two (sym three.first_least ∙ e ∙ three.second_least);
  allowed = can.first_free;
}))

only_fixed : (s : State) → free_pairs s ≡ [] → leaf_bound_of s 1 [] ≡ fixed_value s
only_fixed s e =
    ap (λ z. fixed_value s +ℤ floor_div (pos 0 +ℤ z) 1) (no_excess s 1 [] e) ∙ omega (arith, ints)

pub settled : (s : State) (rows : List TwoSet) → free_pairs s ≡ [] → NoneFree s → IsPacking s rows → leaf_bound_of s 1 rows ≡ fixed_value s
settled s rows e none packing = ap (leaf_bound_of s 1) (no_rows s rows none packing) ∙ only_fixed s e
