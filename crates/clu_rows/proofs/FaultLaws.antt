-- When a row is one that a leaf may have.
use Rattle.std.proofs.Common.{◌≡◌, ◌≢◌, ℕ, ◌<◌, ◌≤◌, ◌+◌, ◌*◌, ◌^◌, ◌-◌, ◌/◌, pos, ◌≤ℤ◌, List, [], ◌∷◌, ◌++◌, length, take, drop, get_or, Bool, true, false, ◌==◌, refl, sym, ap, ◌∙◌, subst, arith, zero, suc, All, Contains, le-div_iff_mul-le, div-lt_iff_lt-mul, length-take, get_or-take, pow-suc, one-mul, length-append, append-nil}
use Rattle.std.proofs.lemmas.Int.{ints}
use Rattle.std.proofs.lemmas.List.Elements.{All-take, All-more, All-head, All-tail, All-append, All-cons, All-nil}
use Rattle.std.proofs.lemmas.List.Sums.{sum_by-take-le, sum_by_more}
use Rattle.std.proofs.lemmas.List.{drop_more}
use Rattle.std.proofs.Math.Seq.{take-length}
use Rattle.std.proofs.Math.Nat.{mul-le-mul_left, pow-zero}
use Rattle.clu_partition.specs.Sums.{total, only_if}
use Rattle.clu_partition.specs.Groups.{leaders}
use Rattle.clu_partition.proofs.SumLaws.{total_le, total_cong_on, total_swap, pick_one, total_ones}
use Rattle.clu_partition.proofs.Regroup.{filter_total, leaders_rising}
use Rattle.clu_state.specs.State.{State, IsState, leader, group_leaders}
use Rattle.clu_state.proofs.Bridge.{state_are_groups, leader_among}
use Rattle.clu_rows.specs.Rows.{TwoSet, names_group}
use Rattle.clu_partition.specs.Groups.{NamesOnce}
use Rattle.clu_rows.specs.Faults.{IsRow, IsFirstBadRow, rows_mass}
use Rattle.clu_rows.proofs.HitLaws.{each_all, once, once_from}
use Rattle.clu_partition.proofs.ListLaws.{every}

-- ---- what holds of each of a list
pub all_next : (P : ℕ → Type 0) (i v : ℕ) (xs : List ℕ) → i < length xs → v ≡ get_or xs i v → All P (take i xs) → P v → All P (take (i + 1) xs)
all_next P i v xs l e a p = All-more P xs i v l a (subst P e p)

pub all_done : (P : ℕ → Type 0) (i : ℕ) (xs : List ℕ) → i ≡ length xs → All P (take i xs) → All P xs
all_done P i xs e a = subst (All P) (ap (λ j. take j xs) e ∙ take-length xs) a

pub all_at : (P : ℕ → Type 0) (i v : ℕ) (xs : List ℕ) → i < length xs → v ≡ get_or xs i v → All P xs → P v
all_at P i v xs l e a = subst P (sym e) (a i v l)

pub all_left : (P : ℕ → Type 0) (xs ys : List ℕ) → All P (xs ++ ys) → All P xs
all_left P [] ys a = All-nil P
all_left P (x ∷ xs) ys a = All-cons P x xs (All-head P x (xs ++ ys) a) (all_left P xs ys (All-tail P x (xs ++ ys) a))

pub all_right : (P : ℕ → Type 0) (xs ys : List ℕ) → All P (xs ++ ys) → All P ys
all_right P [] ys a = a
all_right P (x ∷ xs) ys a = all_right P xs ys (All-tail P x (xs ++ ys) a)

-- ---- names
-- no two vertices of the two lists name one group, where those of the second don't, none of the first names one of the second's, and so on
pub once_none : (group : ℕ → ℕ) → NamesOnce group []
once_none group = tt

pub once_next : (group : ℕ → ℕ) (i v : ℕ) (xs tail others : List ℕ) → i < length xs → v ≡ get_or xs i v → tail ≡ drop (i + 1) xs → All (λ w. group v ≢ group w) tail → All (λ w. group v ≢ group w) others →
    (NamesOnce group (drop i xs ++ others) → NamesOnce group (xs ++ others)) → NamesOnce group (drop (i + 1) xs ++ others) → NamesOnce group (xs ++ others)
once_next group i v xs tail others l e t a b h o = h (subst (λ zs. NamesOnce group (zs ++ others)) (sym (drop_more xs i v l))
    (subst (λ w. NamesOnce group (w ∷ drop (i + 1) xs ++ others)) e
    (All-append (λ w. group v ≢ group w) (drop (i + 1) xs) others (subst (All (λ w. group v ≢ group w)) t a) b, o)))

once_drop : (group : ℕ → ℕ) (i : ℕ) (xs others : List ℕ) → NamesOnce group (xs ++ others) → NamesOnce group (drop i xs ++ others)
once_drop group zero xs others o = o
once_drop group (suc i) [] others o = o
once_drop group (suc i) (x ∷ xs) others o = once_drop group i xs others o.1

pub once_at : (group : ℕ → ℕ) (i v : ℕ) (xs tail others : List ℕ) → i < length xs → v ≡ get_or xs i v → tail ≡ drop (i + 1) xs → NamesOnce group (xs ++ others) →
    All (λ w. group v ≢ group w) tail × All (λ w. group v ≢ group w) others
once_at group i v xs tail others l e t o =
    let h = subst (λ w. NamesOnce group (w ∷ drop (i + 1) xs ++ others)) (sym e) (subst (λ zs. NamesOnce group (zs ++ others)) (drop_more xs i v l) (once_drop group i xs others o)) in
    (subst (All (λ w. group v ≢ group w)) (sym t) (all_left (λ w. group v ≢ group w) (drop (i + 1) xs) others h.0), all_right (λ w. group v ≢ group w) (drop (i + 1) xs) others h.0)

-- ---- no more names than members
at_most : (b : Bool) → only_if b (pos 1) ≤ℤ pos 1
at_most true = omega (arith, ints)
at_most false = omega (arith, ints)

few_leaders : (group : ℕ → ℕ) (members : List ℕ) → total (λ _. pos 1) (leaders group members) ≤ℤ pos (length members)
few_leaders group members =
    let a = filter_total (λ _. pos 1) (λ u. group u == u) members in
    let b = total_le (λ u. only_if (group u == u) (pos 1)) (λ _. pos 1) (λ _. Unit {0}) members (every members) (λ u _. at_most (group u == u)) in
    let c = total_ones members in
    omega (arith, ints, a, b, c)

pub few_names : (s : State) → IsState s → (vs : List ℕ) → All (Contains s.members) vs → NamesOnce (leader s) vs → length vs ≤ length s.members
few_names s i vs m o =
    let l = group_leaders s in
    let up = leaders_rising (leader s) s.members (state_are_groups s i) in
    let a = total_cong_on (λ v. total (λ x. only_if (leader s v == x) (pos 1)) (group_leaders s)) (λ _. pos 1) (Contains s.members) vs (each_all (Contains s.members) vs m) (λ v c. pick_one (leader s v) (λ _. pos 1) (group_leaders s) up (leader_among s i v c)) in
    let b = total_swap (λ v x. only_if (leader s v == x) (pos 1)) vs (group_leaders s) in
    let c = total_le (λ x. total (λ v. only_if (leader s v == x) (pos 1)) vs) (λ _. pos 1) (λ _. Unit {0}) (group_leaders s) (every (group_leaders s)) (λ x _.
    let e = once (leader s) x (pos 1) vs (once_from (leader s) vs o) in
    let k = at_most (names_group (leader s) vs x) in
    omega (arith, ints, e, k)) in
    let d = few_leaders (leader s) s.members in
    let e = total_ones vs in
    omega (arith, ints, a, b, c, d, e)

-- ---- rows
pub row_holds : (s : State) (r : TwoSet) → 0 < length r.s → 0 < length r.t → 0 < r.y → All (Contains s.members) r.s → All (Contains s.members) r.t → (NamesOnce (leader s) [] → NamesOnce (leader s) (r.t ++ [])) → (NamesOnce (leader s) r.t → NamesOnce (leader s) (r.s ++ r.t)) → IsRow s r
row_holds s r a b y m n t o = record {
  first = a;
  second = b;
  members = All-append (Contains s.members) r.s r.t m n;
  once = o (subst (NamesOnce (leader s)) (append-nil r.t) (t (once_none (leader s))));
  worth = y;
}

-- what a row has, in the form of the tests
pub record RowHas (s : State) (r : TwoSet) : Type 0 where
  pub few : length r.s + length r.t ≤ length s.members
  pub first : All (Contains s.members) r.s
  pub second : All (Contains s.members) r.t
  pub inner : NamesOnce (leader s) (r.t ++ [])

once_second : (group : ℕ → ℕ) (xs ys : List ℕ) → NamesOnce group (xs ++ ys) → NamesOnce group ys
once_second group [] ys o = o
once_second group (x ∷ xs) ys o = once_second group xs ys o.1

pub row_has : (s : State) (r : TwoSet) → IsState s → IsRow s r → RowHas s r
row_has s r i h = record {
  few = let f = few_names s i (r.s ++ r.t) h.members h.once in let l = length-append r.s r.t in omega (arith, f, l);
  first = all_left (Contains s.members) r.s r.t h.members;
  second = all_right (Contains s.members) r.s r.t h.members;
  inner = subst (NamesOnce (leader s)) (sym (append-nil r.t)) (once_second (leader s) r.s r.t h.once);
}

-- ---- the room that a row leaves
pub two_of : (a : ℕ) → a ^ 2 ≡ a * a
two_of a = pow-suc a 1 ∙ ap (λ k. k * a) (pow-suc a 0 ∙ ap (λ k. k * a) (pow-zero a) ∙ one-mul a)

pub square_above : (a : ℕ) → 0 < a → 0 < a * a
square_above a h = let k = mul-le-mul_left a h in omega (arith, h, k)

pub room_short : (y room a b : ℕ) (r : TwoSet) → y ≡ r.y → a ≡ length r.s → b ≡ length r.t → 0 < length r.s → room / ((a + b) * (a + b)) < y → room < r.y * (length r.s + length r.t) ^ 2
room_short y room a b r ey ea eb p l =
    let q : 0 < (a + b) * (a + b) = square_above (a + b) (omega (arith, ea, p)) in
    let h : room < y * ((a + b) * (a + b)) = (div-lt_iff_lt-mul {k = (a + b) * (a + b)} {x = room} {y = y} q).0 l in
    same y a b r.y (length r.s) (length r.t) room ey ea eb h
  where
    same : (y a b z s t room : ℕ) → y ≡ z → a ≡ s → b ≡ t → room < y * ((a + b) * (a + b)) → room < z * (s + t) ^ 2
    same y a b z s t room ey ea eb h = subst (λ k. room < k * (s + t) ^ 2) ey (subst (λ k. room < y * (k + t) ^ 2) ea (subst (λ k. room < y * (a + k) ^ 2) eb (subst (λ k. room < y * k) (sym (two_of (a + b))) h)))

pub room_kept : (y room a b : ℕ) (r : TwoSet) → y ≡ r.y → a ≡ length r.s → b ≡ length r.t → 0 < length r.s → y ≤ room / ((a + b) * (a + b)) → room - y * ((a + b) * (a + b)) + r.y * (length r.s + length r.t) ^ 2 ≡ room
room_kept y room a b r ey ea eb p l =
    let q : 0 < (a + b) * (a + b) = square_above (a + b) (omega (arith, ea, p)) in
    let h : y * ((a + b) * (a + b)) ≤ room = (le-div_iff_mul-le q).0 l in
    same y a b r.y (length r.s) (length r.t) room ey ea eb h
  where
    same : (y a b z s t room : ℕ) → y ≡ z → a ≡ s → b ≡ t → y * ((a + b) * (a + b)) ≤ room → room - y * ((a + b) * (a + b)) + z * (s + t) ^ 2 ≡ room
    same y a b z s t room ey ea eb h =
        subst (λ k. room - y * ((a + b) * (a + b)) + k * (s + t) ^ 2 ≡ room) ey (subst (λ k. room - y * ((a + b) * (a + b)) + y * (k + t) ^ 2 ≡ room) ea (subst (λ k. room - y * ((a + b) * (a + b)) + y * (a + k) ^ 2 ≡ room) eb (let q = ap (λ k. y * k) (two_of (a + b)) in omega (arith, h, q))))

-- ---- all rows
pub worth_next : (i : ℕ) (r : TwoSet) (rows : List TwoSet) → i < length rows → r ≡ get_or rows i r → rows_mass (take (i + 1) rows) ≡ rows_mass (take i rows) + r.y * (length r.s + length r.t) ^ 2
worth_next i r rows l e = sum_by_more (λ (r : TwoSet). r.y * (length r.s + length r.t) ^ 2) rows i r l ∙ ap (λ (q : TwoSet). rows_mass (take i rows) + q.y * (length q.s + length q.t) ^ 2) (sym e)

pub room_next : (i : ℕ) (r : TwoSet) (rows : List TwoSet) (room left : ℕ) → i < length rows → r ≡ get_or rows i r → left + r.y * (length r.s + length r.t) ^ 2 ≡ room → room + rows_mass (take i rows) ≡ 2 ^ 120 → left + rows_mass (take (i + 1) rows) ≡ 2 ^ 120
room_next i r rows room left l e k q = let n = worth_next i r rows l e in omega (arith, n, k, q)

pub rows_next : (s : State) (i : ℕ) (r : TwoSet) (rows : List TwoSet) → i < length rows → r ≡ get_or rows i r → All (IsRow s) (take i rows) → IsRow s r → All (IsRow s) (take (i + 1) rows)
rows_next s i r rows l e a p = All-more (IsRow s) rows i r l a (subst (IsRow s) e p)

pub fault_at : (s : State) (i : ℕ) (r : TwoSet) (rows : List TwoSet) (room : ℕ) → i < length rows → r ≡ get_or rows i r → All (IsRow s) (take i rows) → room + rows_mass (take i rows) ≡ 2 ^ 120 →
    (IsRow s r → room < r.y * (length r.s + length r.t) ^ 2) → IsFirstBadRow s rows (i + 1)
fault_at s i r rows room l e a q n = record {
  counted = (omega arith, omega (arith, l));
  before = λ k m.
      let t : take k (take i rows) ≡ take k rows = front k i rows (omega (arith, m)) in
      let w = ap rows_mass t in
      let b = sum_by-take-le (λ (r : TwoSet). r.y * (length r.s + length r.t) ^ 2) (take i rows) k in
      record { each = subst (All (IsRow s)) t (All-take (IsRow s) k (take i rows) a); small = omega (arith, q, w, b) };
  at' = λ h.
      let w = worth_next i r rows l e in
      let p : IsRow s r = subst (IsRow s) (get_or-take (i + 1) rows i r (omega arith) ∙ sym e) (h.each i r (omega (arith, length-take (i + 1) rows, l))) in
      let o = n p in
      let c = h.small in
      omega (arith, w, o, c, q);
}
  where
    front : (k i : ℕ) (rows : List TwoSet) → k ≤ i → take k (take i rows) ≡ take k rows
    front zero i rows l = refl
    front (suc k) zero rows l = absurd (omega (arith, l))
    front (suc k) (suc i) [] l = refl
    front (suc k) (suc i) (x ∷ rows) l = ap (λ t. x ∷ t) (front k i rows (omega (arith, l)))
