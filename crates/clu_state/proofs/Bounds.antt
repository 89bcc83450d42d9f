-- No weight between groups passes the table's total.
use Rattle.std.proofs.Common.{◌≡◌, ℕ, ℤ, pos, neg_ℤ, ◌+◌, ◌≤◌, ◌<◌, ◌≢◌, ⊎_elim, ◌+ℤ◌, ◌≤ℤ◌, List, [], ◌∷◌, length, Bool, true, false, refl, ap, arith, zero, suc, ◌==◌, unsigned_abs, ◌^◌, Contains}
use Rattle.std.proofs.lemmas.Int.{ints}
use Rattle.std.proofs.lemmas.Bool.{cases_eq}
use Rattle.std.specs.List.{range_with_len}
use Rattle.clu_partition.specs.Sums.{total, pair_total, only_if}
use Rattle.clu_partition.specs.Values.{value_on}
use Rattle.clu_partition.specs.Groups.{leaders, group_members, between}
use Rattle.clu_partition.proofs.SumLaws.{Each, Among, Rising, total_least, pair_least, zero_least, only_least, pair_le}
use Rattle.clu_partition.proofs.Regroup.{AreGroups, value_split, leaders_rising, each_filter, between_sym}
use Rattle.clu_partition.proofs.TakeOut.{TwoOut, two_out, out_pairs}
use Rattle.clu_partition.proofs.ListLaws.{every, each_map, each_and, few_rising}
use Rattle.clu_state.specs.State.{State, IsState, fixed_value, leader, group_leaders, group_weight}
use Rattle.clu_state.proofs.Bridge.{state_are_groups, below_all, leader_among}
use Rattle.clu_partition.proofs.TableLaws.{weight_sym}
use Rattle.clu_partition.specs.Pairs.{weight_of}

-- z and its negation are at most k
record Within (z k : ℤ) : Type 0 where
  most : z ≤ℤ k
  least : neg_ℤ z ≤ℤ k

total_within : {A : Type 0} (f h : A → ℤ) (xs : List A) → ((x : A) → Within (f x) (h x)) → Within (total f xs) (total h xs)
total_within f h [] w = record { most = omega (arith, ints); least = omega (arith, ints) }
total_within f h (x ∷ xs) w =
    let i = total_within f h xs w in
    let k = w x in
    record { most = omega (arith, ints, i.most, k.most); least = omega (arith, ints, i.least, k.least) }

-- ---- a rising list of numbers below a + n
From : ℕ → ℕ → List ℕ → Type 0
From a n xs = Each (λ x. (a ≤ x) × (x < a + n)) xs

-- all that rise above x with a ≤ x are from a + 1 on
later : (a n x : ℕ) (xs : List ℕ) → a ≤ x → Each (λ y. x < y) xs → From a (suc n) xs → From (a + 1) n xs
unfolding From
later a n x xs l up all = each_map (λ y. (x < y) × ((a ≤ y) × (y < a + suc n))) (λ y. (a + 1 ≤ y) × (y < a + 1 + n)) xs (λ y p. (omega (arith, p.0, l), omega (arith, p.1.1))) (each_and (λ y. x < y) (λ y. (a ≤ y) × (y < a + suc n)) xs up all)

sub_total : (f : ℕ → ℤ) → ((x : ℕ) → pos 0 ≤ℤ f x) → (n a : ℕ) (xs : List ℕ) → Rising xs → From a n xs → total f xs ≤ℤ total f (range_with_len a n)
unfolding From
sub_total f h n a [] up all = total_least f (range_with_len a n) h
sub_total f h zero a (x ∷ xs) up all = absurd (omega (arith, all.0.0, all.0.1))
sub_total f h (suc n) a (x ∷ xs) up all = ⊎_elim
    (λ e. let i = sub_total f h n (a + 1) xs up.1 (later a n x xs all.0.0 up.0 all.1) in let k = ap f e in omega (arith, ints, i, k))
    (λ d. let l : a + 1 ≤ x = omega (arith, all.0.0, d) in let i = sub_total f h n (a + 1) (x ∷ xs) up ((l, omega (arith, all.0.1)), later a n x xs all.0.0 up.0 all.1) in let k = h a in omega (arith, ints, i, k))
    (cases_eq x a)

sub_pairs : (f : ℕ → ℕ → ℤ) → ((x y : ℕ) → pos 0 ≤ℤ f x y) → (n a : ℕ) (xs : List ℕ) → Rising xs → From a n xs → pair_total f xs ≤ℤ pair_total f (range_with_len a n)
unfolding From
sub_pairs f h n a [] up all = pair_least f (range_with_len a n) h
sub_pairs f h zero a (x ∷ xs) up all = absurd (omega (arith, all.0.0, all.0.1))
sub_pairs f h (suc n) a (x ∷ xs) up all = ⊎_elim
    (λ e.
    let t = later a n x xs all.0.0 up.0 all.1 in
    let i = sub_pairs f h n (a + 1) xs up.1 t in
    let k = ap (λ (z : ℕ). total (f z) xs) e in
    let j = sub_total (f a) (h a) n (a + 1) xs up.1 t in
    omega (arith, ints, i, k, j))
    (λ d.
    let l : a + 1 ≤ x = omega (arith, all.0.0, d) in
    let i = sub_pairs f h n (a + 1) (x ∷ xs) up ((l, omega (arith, all.0.1)), later a n x xs all.0.0 up.0 all.1) in
    let k = total_least (f a) (range_with_len (a + 1) n) (h a) in
    omega (arith, ints, i, k))
    (cases_eq x a)

-- ---- groups
abbrev pub size_of : (ℕ → ℕ → ℤ) → ℕ → ℕ → ℤ
size_of w u v = pos (unsigned_abs (w u v))

within_size : (z : ℤ) → Within z (pos (unsigned_abs z))
within_size z = record { most = omega (arith, ints); least = omega (arith, ints) }

pub between_small : (w : ℕ → ℕ → ℤ) → ((u v : ℕ) → w u v ≡ w v u) → (group : ℕ → ℕ) (members : List ℕ) (n : ℕ) → AreGroups group members → Each (λ v. v < n) members →
    (a b : ℕ) → Among a (leaders group members) → Among b (leaders group members) → a ≢ b →
    pos (unsigned_abs (between w group members a b)) ≤ℤ pair_total (size_of w) (range_with_len 0 n)
unfolding From
between_small w s group members n g below a b ma mb d =
    let l = leaders group members in
    let z = size_of w in
    let zs : ((x y : ℕ) → size_of w x y ≡ size_of w y x) = λ x y. ap (λ k. pos (unsigned_abs k)) (s x y) in
    let near : Within (between w group members a b) (between (size_of w) group members a b) = total_within (λ u. total (w u) (group_members group members b)) (λ u. total (size_of w u) (group_members group members b)) (group_members group members a) (λ u. total_within (w u) (size_of w u) (group_members group members b) (λ v. within_size (w u v))) in
    let split = value_split (size_of w) zs (λ _. 0) group members g (each_map (λ v. v < n) (λ _. 0 ≡ 0) members (λ _ _. refl) below) in
    let inside = pair_least (λ u v. only_if (group u == group v) (size_of w u v)) members (λ u v. only_least (group u == group v) (unsigned_abs (w u v))) in
    let o : TwoOut (leaders group members) a b = two_out (leaders group members) a b (leaders_rising group members g) ma mb d in
    let pairs = out_pairs (between (size_of w) group members) (λ x y. between_sym (size_of w) zs group members x y) (leaders group members) a b o in
    let pl : ((x y : ℕ) → pos 0 ≤ℤ between (size_of w) group members x y) = λ x y. total_least (λ u. total (size_of w u) (group_members group members y)) (group_members group members x) (λ u. total_least (size_of w u) (group_members group members y) (λ v. zero_least (unsigned_abs (w u v)))) in
    let one = total_least (between (size_of w) group members a) o.rest (pl a) in
    let two = total_least (between (size_of w) group members b) o.rest (pl b) in
    let three = pair_least (between (size_of w) group members) o.rest pl in
    let all : Each (λ x. (0 ≤ x) × (x < 0 + n)) members = each_map (λ v. v < n) (λ x. (0 ≤ x) × (x < 0 + n)) members (λ x h. (omega arith, omega (arith, h))) below in
    let four = sub_pairs (size_of w) (λ x y. zero_least (unsigned_abs (w x y))) n 0 members g.rising all in
    let m = near.most in
    let k = near.least in
    omega (arith, ints, m, k, split, inside, pairs, one, two, three, four)

pair_within : (f h : ℕ → ℕ → ℤ) (xs : List ℕ) → ((x y : ℕ) → Within (f x y) (h x y)) → Within (pair_total f xs) (pair_total h xs)
pair_within f h [] w = record { most = omega (arith, ints); least = omega (arith, ints) }
pair_within f h (x ∷ xs) w =
    let i = pair_within f h xs w in
    let k = total_within (f x) (h x) xs (w x) in
    record { most = omega (arith, ints, i.most, k.most); least = omega (arith, ints, i.least, k.least) }

only_within : (b : Bool) (z : ℤ) → Within (only_if b z) (only_if b (pos (unsigned_abs z)))
only_within true z = within_size z
only_within false z = record { most = omega (arith, ints); least = omega (arith, ints) }

pub value_small : (w : ℕ → ℕ → ℤ) → ((u v : ℕ) → w u v ≡ w v u) → (group : ℕ → ℕ) (members : List ℕ) (n : ℕ) → AreGroups group members → Each (λ v. v < n) members →
    pos (unsigned_abs (value_on w group members)) ≤ℤ pair_total (size_of w) (range_with_len 0 n)
unfolding From
value_small w s group members n g below =
    let zs : ((x y : ℕ) → size_of w x y ≡ size_of w y x) = λ x y. ap (λ k. pos (unsigned_abs k)) (s x y) in
    let near = pair_within (λ u v. only_if (group u == group v) (w u v)) (λ u v. only_if (group u == group v) (size_of w u v)) members (λ u v. only_within (group u == group v) (w u v)) in
    let split = value_split (size_of w) zs (λ _. 0) group members g (each_map (λ v. v < n) (λ _. 0 ≡ 0) members (λ _ _. refl) below) in
    let pl : ((x y : ℕ) → pos 0 ≤ℤ between (size_of w) group members x y) = λ x y. total_least (λ u. total (size_of w u) (group_members group members y)) (group_members group members x) (λ u. total_least (size_of w u) (group_members group members y) (λ v. zero_least (unsigned_abs (w u v)))) in
    let three = pair_least (between (size_of w) group members) (leaders group members) pl in
    let all : Each (λ x. (0 ≤ x) × (x < 0 + n)) members = each_map (λ v. v < n) (λ x. (0 ≤ x) × (x < 0 + n)) members (λ x h. (omega arith, omega (arith, h))) below in
    let four = sub_pairs (size_of w) (λ x y. zero_least (unsigned_abs (w x y))) n 0 members g.rising all in
    let m = near.most in
    let k = near.least in
    omega (arith, ints, m, k, split, three, four)

size_most : (z k : ℤ) → Within z k → pos (unsigned_abs z) ≤ℤ k
size_most z k w = let a = w.most in let b = w.least in omega (arith, ints, a, b)

-- the weight inside groups and all weights between them together
pub whole_small : (w : ℕ → ℕ → ℤ) → ((u v : ℕ) → w u v ≡ w v u) → (group : ℕ → ℕ) (members : List ℕ) (n : ℕ) → AreGroups group members → Each (λ v. v < n) members →
    (pos (unsigned_abs (value_on w group members)) +ℤ pair_total (size_of (between w group members)) (leaders group members)) ≤ℤ pair_total (size_of w) (range_with_len 0 n)
unfolding From
whole_small w s group members n g below =
    let zs : ((x y : ℕ) → size_of w x y ≡ size_of w y x) = λ x y. ap (λ k. pos (unsigned_abs k)) (s x y) in
    let near = pair_within (λ u v. only_if (group u == group v) (w u v)) (λ u v. only_if (group u == group v) (size_of w u v)) members (λ u v. only_within (group u == group v) (w u v)) in
    let terms = pair_le (size_of (between w group members)) (between (size_of w) group members) (λ _. Unit {0}) (leaders group members) (every (leaders group members)) (λ a b _ _. size_most (between w group members a b) (between (size_of w) group members a b)
    (total_within (λ u. total (w u) (group_members group members b)) (λ u. total (size_of w u) (group_members group members b)) (group_members group members a) (λ u. total_within (w u) (size_of w u) (group_members group members b) (λ v. within_size (w u v))))) in
    let split = value_split (size_of w) zs (λ _. 0) group members g (each_map (λ v. v < n) (λ _. 0 ≡ 0) members (λ _ _. refl) below) in
    let all : Each (λ x. (0 ≤ x) × (x < 0 + n)) members = each_map (λ v. v < n) (λ x. (0 ≤ x) × (x < 0 + n)) members (λ x h. (omega arith, omega (arith, h))) below in
    let four = sub_pairs (size_of w) (λ x y. zero_least (unsigned_abs (w x y))) n 0 members g.rising all in
    let m = near.most in
    let k = near.least in
    omega (arith, ints, m, k, terms, split, four)

-- all weights between groups together
pub all_small : (w : ℕ → ℕ → ℤ) → ((u v : ℕ) → w u v ≡ w v u) → (group : ℕ → ℕ) (members : List ℕ) (n : ℕ) → AreGroups group members → Each (λ v. v < n) members →
    pair_total (size_of (between w group members)) (leaders group members) ≤ℤ pair_total (size_of w) (range_with_len 0 n)
all_small w s group members n g below = let h = whole_small w s group members n g below in let k = zero_least (unsigned_abs (value_on w group members)) in omega (arith, ints, h, k)

-- the weights of the members are among those of all vertices
pub members_small : (w : ℕ → ℕ → ℤ) (members : List ℕ) (n : ℕ) → Rising members → Each (λ v. v < n) members → pair_total (size_of w) members ≤ℤ pair_total (size_of w) (range_with_len 0 n)
unfolding From
members_small w members n up below = sub_pairs (size_of w) (λ x y. zero_least (unsigned_abs (w x y))) n 0 members up (each_map (λ v. v < n) (λ x. (0 ≤ x) × (x < 0 + n)) members (λ x h. (omega arith, omega (arith, h))) below)

-- the value inside the groups of a state
pub fixed_size : (s : State) → IsState s → unsigned_abs (fixed_value s) ≤ 2 ^ 88
fixed_size s i =
    let b = value_small (weight_of s.pairs) (weight_sym s.pairs) (leader s) s.members s.pairs.n (state_are_groups s i) (below_all s i) in
    let t = i.total in
    omega (arith, ints, b, t)

-- the weight of two groups of a state
pub weight_small : (s : State) → IsState s → (a b : ℕ) → Contains s.members a → Contains s.members b → leader s a ≢ leader s b → unsigned_abs (group_weight s a b) ≤ 2 ^ 88
weight_small s i a b ca cb d =
    let h = between_small (weight_of s.pairs) (weight_sym s.pairs) (leader s) s.members s.pairs.n (state_are_groups s i) (below_all s i) (leader s a) (leader s b) (leader_among s i a ca) (leader_among s i b cb) d in
    let t = i.total in
    omega (arith, ints, h, t)

-- ---- how many members and groups
pub few_members : (s : State) → IsState s → length s.members ≤ 1000
few_members s i =
    let h = few_rising s.members s.pairs.n (state_are_groups s i).rising (below_all s i) in
    let k = i.small in
    omega (arith, h, k)

pub few_groups : (s : State) (groups : List ℕ) → IsState s → groups ≡ group_leaders s → length groups ≤ 1000
few_groups s groups i e =
    let h = few_rising (group_leaders s) s.pairs.n (leaders_rising (leader s) s.members (state_are_groups s i)) (each_filter (λ v. v < s.pairs.n) _ s.members (below_all s i)) in
    let k = ap length e in
    let l = i.small in
    omega (arith, h, k, l)
