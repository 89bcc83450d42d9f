-- Where a group's least vertex stands in the list of all, and the table that is filled by places.
use Rattle.std.proofs.Common.{◌≡◌, ◌≢◌, ◌⊎◌, inl, inr, ⊎_elim, ℕ, ◌+◌, ◌<◌, ◌≤◌, min, max, ℤ, pos, List, [], ◌∷◌, length, get_or, drop, slice_index, Bool, true, false, cond, Result, Ok, Err, All, Contains, sym, ap, ◌∙◌, subst, arith}
use Rattle.std.proofs.lemmas.List.{drop_more}
use Rattle.std.proofs.lemmas.List.Sorted.{searched}
use Rattle.std.proofs.lemmas.Grind.{get_or_default_zero}
use Rattle.std.proofs.lemmas.Bool.{cases_eq, cases_lt}
use Rattle.std.proofs.Common.{nat_cmp}
use Rattle.std.specs.List.Sorted.{IsBinarySearchResult}
use Rattle.clu_partition.specs.Grids.{IsGrid}
use Rattle.clu_partition.specs.Pairs.{Pairs, weight_of, with_weight}
use Rattle.clu_partition.proofs.TableLaws.{set_same, set_other, weight_sym}
use Rattle.clu_partition.proofs.PairLaws.{is_pair, not_pair}
use Rattle.clu_partition.proofs.SumLaws.{Among, Each, Rising}
use Rattle.clu_partition.proofs.ListLaws.{each_append, each_at, each_among, rising_at}
use Rattle.clu_partition.proofs.Membership.{no_less}
use Rattle.clu_partition.proofs.Regroup.{leaders_rising}
use Rattle.clu_state.specs.State.{State, IsState, leader, are_apart, group_leaders, free_with, free_of, free_pairs}
use Rattle.clu_state.proofs.Bridge.{contains_from, state_are_groups}
use Rattle.clu_state.proofs.FreePairs.{all_free}
use Rattle.clu_cuts.proofs.Tests.{InRange}
use Rattle.clu_cuts.specs.Point.{listed_share}

pub found_at : (groups : List ℕ) (v : ℕ) (r : Result ℕ ℕ) (i : ℕ) → r ≡ Ok i → ((i j : ℕ) → i < j → j < length groups → slice_index groups i < slice_index groups j)
    → IsBinarySearchResult (λ y. nat_cmp y v) groups r → slice_index groups i ≡ v
found_at groups v r i e up h = (searched groups v (Ok i) (subst (IsBinarySearchResult (λ y. nat_cmp y v) groups) e h) (no_less groups up)).1

pub not_missing : (groups : List ℕ) (v : ℕ) (r : Result ℕ ℕ) (i : ℕ) → r ≡ Err i → ((i j : ℕ) → i < j → j < length groups → slice_index groups i < slice_index groups j)
    → IsBinarySearchResult (λ y. nat_cmp y v) groups r → Contains groups v → ⊥
not_missing groups v r i e up h c =
    let f = searched groups v (Err i) (subst (IsBinarySearchResult (λ y. nat_cmp y v) groups) e h) (no_less groups up) in
    let at_v : get_or groups c.0 0 ≡ v = sym (get_or_default_zero groups c.0 v c.1) ∙ c.2 in
    ⊎_elim (λ (l : c.0 < i). let k = f.1 c.0 l in omega (arith, k, at_v)) (λ (l : i ≤ c.0). let k = f.2 c.0 l c.1 in omega (arith, k, at_v)) (cases_lt c.0 i)

-- ---- one more pair in the table
-- different places have different groups
abbrev pub Apart : List ℕ → Type 0
Apart groups = (i j : ℕ) → i < length groups → j < length groups → slice_index groups i ≡ slice_index groups j → i ≡ j

pub filled : (groups : List ℕ) (t : Pairs) (i j : ℕ) (p : ℕ × ℕ) (x : ℤ) (pairs : List (ℕ × ℕ)) (xs : List ℤ) → Apart groups → t.n ≡ length groups
    → IsGrid t → i < length groups → j < length groups → p.0 ≢ p.1 → slice_index groups i ≡ p.0 → slice_index groups j ≡ p.1
    → ((a b : ℕ) → a < length groups → b < length groups → weight_of t a b ≡ listed_share pairs xs (slice_index groups a) (slice_index groups b))
    → (a b : ℕ) → a < length groups → b < length groups → weight_of (with_weight t i j x) a b ≡ listed_share (p ∷ pairs) (x ∷ xs) (slice_index groups a) (slice_index groups b)
filled groups t i j p x pairs xs once n is li lj differ ei ej old a b la lb = ⊎_elim
    (λ (e : (a ≡ i) × (b ≡ j)). subst (λ a. weight_of (with_weight t i j x) a b ≡ listed_share (p ∷ pairs) (x ∷ xs) (slice_index groups a) (slice_index groups b)) (sym e.0)
    (subst (λ b. weight_of (with_weight t i j x) i b ≡ listed_share (p ∷ pairs) (x ∷ xs) (slice_index groups i) (slice_index groups b)) (sym e.1)
    (here i j x ij li' lj' ∙ sym (taken (slice_index groups i) (slice_index groups j) (inl (sym ei, sym ej))))))
    (λ off. ⊎_elim
    (λ (e : (a ≡ j) × (b ≡ i)). subst (λ a. weight_of (with_weight t i j x) a b ≡ listed_share (p ∷ pairs) (x ∷ xs) (slice_index groups a) (slice_index groups b)) (sym e.0)
    (subst (λ b. weight_of (with_weight t i j x) j b ≡ listed_share (p ∷ pairs) (x ∷ xs) (slice_index groups j) (slice_index groups b)) (sym e.1)
    (weight_sym (with_weight t i j x) j i ∙ here i j x ij li' lj' ∙ sym (taken (slice_index groups j) (slice_index groups i) (inr (sym ei, sym ej))))))
    (λ nor. set_other t i j a b x li' lj' (omega (arith, n, la)) (omega (arith, n, lb)) (λ h. not_same off nor h)
    ∙ old a b la lb
    ∙ sym (passed (slice_index groups a) (slice_index groups b)
    (λ h. off (once a i la li (sym h.0 ∙ sym ei), once b j lb lj (sym h.1 ∙ sym ej)))
    (λ h. nor (once a j la lj (sym h.1 ∙ sym ej), once b i lb li (sym h.0 ∙ sym ei)))))
    (which a j b i))
    (which a i b j)
  where
    li' : i < t.n
    li' = omega (arith, n, li)

    lj' : j < t.n
    lj' = omega (arith, n, lj)

    ij : i ≢ j
    ij e = differ (sym ei ∙ ap (slice_index groups) e ∙ ej)

    here : (i j : ℕ) (x : ℤ) → i ≢ j → i < t.n → j < t.n → weight_of (with_weight t i j x) i j ≡ x
    here i j x d p q = set_same t i j x p q d is

    taken : (u v : ℕ) → (p.0 ≡ u) × (p.1 ≡ v) ⊎ (p.0 ≡ v) × (p.1 ≡ u) → listed_share (p ∷ pairs) (x ∷ xs) u v ≡ x
    taken u v h = ap (λ t. cond t x (listed_share pairs xs u v)) (is_pair p.0 p.1 u v h)

    passed : (u v : ℕ) → ((p.0 ≡ u) × (p.1 ≡ v) → ⊥) → ((p.0 ≡ v) × (p.1 ≡ u) → ⊥) → listed_share (p ∷ pairs) (x ∷ xs) u v ≡ listed_share pairs xs u v
    passed u v n m = ap (λ t. cond t x (listed_share pairs xs u v)) (not_pair p.0 p.1 u v n m)

    which : (a i b j : ℕ) → (a ≡ i) × (b ≡ j) ⊎ ((a ≡ i) × (b ≡ j) → ⊥)
    which a i b j = ⊎_elim (λ e. ⊎_elim (λ f. inl (e, f)) (λ d. inr (λ h. d h.1)) (cases_eq b j)) (λ d. inr (λ h. d h.0)) (cases_eq a i)

    not_same : ((a ≡ i) × (b ≡ j) → ⊥) → ((a ≡ j) × (b ≡ i) → ⊥) → (min i j ≡ min a b) × (max i j ≡ max a b) → ⊥
    not_same off nor h = ⊎_elim
        (λ (l : a < i). nor (let m = h.0 in let k = h.1 in (omega (arith, m, k, l), omega (arith, m, k, l))))
        (λ (l : i ≤ a). ⊎_elim
        (λ (k : a < j). let m = h.0 in let q = h.1 in off (omega (arith, m, q, l, k), omega (arith, m, q, l, k)))
        (λ (k : j ≤ a). let m = h.0 in let q = h.1 in ⊎_elim
        (λ (r : i < j). nor (omega (arith, m, q, l, k, r), omega (arith, m, q, l, k, r)))
        (λ (r : j ≤ i). off (omega (arith, m, q, l, k, r), omega (arith, m, q, l, k, r)))
        (cases_lt i j))
        (cases_lt a j))
        (cases_lt a i)

-- ---- the groups of a free pair
abbrev pub BothIn : List ℕ → ℕ × ℕ → Type 0
BothIn groups p = Among p.0 groups × Among p.1 groups

both_with : (s : State) (all : List ℕ) (a : ℕ) (bs : List ℕ) → Among a all → Each (λ b. Among b all) bs → Each (BothIn all) (free_with s a bs)
both_with s all a [] m e = tt
both_with s all a (b ∷ bs) m e = by_test (are_apart s a b) (both_with s all a bs m e.1)
  where
    by_test : (t : Bool) → Each (BothIn all) (free_with s a bs) → Each (BothIn all) (cond t (free_with s a bs) ((a, b) ∷ free_with s a bs))
    by_test true h = h
    by_test false h = ((m, e.0), h)

both_of : (s : State) (all groups : List ℕ) → Each (λ b. Among b all) groups → Each (BothIn all) (free_of s groups)
both_of s all [] e = tt
both_of s all (a ∷ groups) e = each_append (BothIn all) (free_with s a groups) (free_of s groups) (both_with s all a groups e.0 e.1) (both_of s all groups e.1)

pub record InGroups (groups : List ℕ) (p : ℕ × ℕ) : Type 0 where
  pub first : Contains groups p.0
  pub second : Contains groups p.1
  pub differ : p.0 ≢ p.1

pub pair_places : (s : State) (groups : List ℕ) (pairs : List (ℕ × ℕ)) (k : ℕ) (d : ℕ × ℕ) → IsState s → groups ≡ group_leaders s → pairs ≡ free_pairs s → k < length pairs
    → InGroups groups (get_or pairs k d)
pair_places s groups pairs k d i e f l =
    let b = each_at (BothIn (group_leaders s)) (free_pairs s) k d (subst (λ ps. k < length ps) f l) (both_of s (group_leaders s) (group_leaders s) (each_among (group_leaders s))) in
    let free = all_free s i k d (subst (λ ps. k < length ps) f l) in
    subst (λ gs. InGroups gs (get_or pairs k d)) (sym e)
    (subst (λ ps. InGroups (group_leaders s) (get_or ps k d)) (sym f) (record {
      first = contains_from (group_leaders s) _ b.0;
      second = contains_from (group_leaders s) _ b.1;
      differ = λ h. free.differ (ap (leader s) h);
    }))

-- the list of groups rises
pub groups_rise : (s : State) (groups : List ℕ) → IsState s → groups ≡ group_leaders s → (i j : ℕ) → i < j → j < length groups → slice_index groups i < slice_index groups j
groups_rise s groups i e = λ a b l k. rising_at groups a b (subst Rising (sym e) (leaders_rising (leader s) s.members (state_are_groups s i))) l k

pub rise_apart : (groups : List ℕ) → ((i j : ℕ) → i < j → j < length groups → slice_index groups i < slice_index groups j) → Apart groups
rise_apart groups up i j li lj e = ⊎_elim
    (λ (l : i < j). absurd (let h = up i j l lj in omega (arith, h, e)))
    (λ (l : j ≤ i). ⊎_elim (λ (k : j < i). absurd (let h = up j i k li in omega (arith, h, e))) (λ (k : i ≤ j). omega (arith, l, k)) (cases_lt j i))
    (cases_lt i j)

-- one more pair, by its place in the list
pub more_filled : (groups : List ℕ) (t new : Pairs) (i j k : ℕ) (d : ℕ × ℕ) (x y : ℤ) (pairs : List (ℕ × ℕ)) (xs : List ℤ) → Apart groups → t.n ≡ length groups
    → IsGrid t → i < length groups → j < length groups → InGroups groups (get_or pairs k d) → slice_index groups i ≡ (get_or pairs k d).0
    → slice_index groups j ≡ (get_or pairs k d).1 → k < length pairs → k < length xs → y ≡ get_or xs k x → new ≡ with_weight t i j y
    → ((a b : ℕ) → a < length groups → b < length groups → weight_of t a b ≡ listed_share (drop (k + 1) pairs) (drop (k + 1) xs) (slice_index groups a) (slice_index groups b))
    → (a b : ℕ) → a < length groups → b < length groups → weight_of new a b ≡ listed_share (drop k pairs) (drop k xs) (slice_index groups a) (slice_index groups b)
more_filled groups t new i j k d x y pairs xs once n is li lj both ei ej lp lx ey e old a b la lb =
    ap (λ (t : Pairs). weight_of t a b) e
    ∙ filled groups t i j (get_or pairs k d) y (drop (k + 1) pairs) (drop (k + 1) xs) once n is li lj both.differ ei ej old a b la lb
    ∙ ap (λ z. listed_share (get_or pairs k d ∷ drop (k + 1) pairs) (z ∷ drop (k + 1) xs) (slice_index groups a) (slice_index groups b)) ey
    ∙ ap (λ ps. listed_share ps (get_or xs k x ∷ drop (k + 1) xs) (slice_index groups a) (slice_index groups b)) (sym (drop_more pairs k d lp))
    ∙ ap (λ zs. listed_share (drop k pairs) zs (slice_index groups a) (slice_index groups b)) (sym (drop_more xs k x lx))

-- a share of the list is in range
pub All-at : (den : ℤ) (x xs : List ℤ) (k : ℕ) → All (InRange den) x → xs ≡ x → k < length xs → InRange den (get_or xs k (pos 0))
All-at den x xs k all e l = subst (λ ys. InRange den (get_or ys k (pos 0))) (sym e) (all k (pos 0) (subst (λ ys. k < length ys) e l))
