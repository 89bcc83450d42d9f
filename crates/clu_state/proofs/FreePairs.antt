-- The least vertices of the groups, by their places in the list, and the free pairs of these.
use Rattle.std.proofs.Common.{◌≡◌, ◌≢◌, ℕ, ◌+◌, ◌-◌, ◌<◌, List, [], ◌∷◌, length, slice_index, get_or, take, drop, Contains, All, refl, sym, ap, ◌∙◌, subst, arith, ◌==◌, ◌++◌, append_assoc, append-nil, length-drop, ◌≤◌, Bool, true, false, cond}
use Rattle.std.proofs.lemmas.Grind.{get_or_default_zero}
use Rattle.std.proofs.lemmas.List.{get_or-drop, drop_more, drop_all}
use Rattle.std.proofs.lemmas.List.Elements.{All-cons, All-nil, All-head, All-tail, All-append}
use Rattle.clu_partition.proofs.SumLaws.{Each, Rising}
use Rattle.clu_partition.proofs.Regroup.{leaders_rising, leaders_lead}
use Rattle.clu_state.specs.State.{State, AreLater, IsState, IsFree, leader, are_apart, group_leaders, free_with, free_of, free_pairs}
use Rattle.clu_state.specs.Rebuilt.{Leads}
use Rattle.clu_state.proofs.Bridge.{among_from, contains_from, state_are_groups, contains_at}
use Rattle.clu_state.proofs.Class.{among_filtered}
use Rattle.clu_partition.proofs.ListLaws.{each_at, rising_at, tail_is}

pub leads_at : (s : State) (groups : List ℕ) (i : ℕ) → IsState s → groups ≡ group_leaders s → i < length groups → Leads s (slice_index groups i)
leads_at s groups i h e l = subst (λ gs. i < length gs → Leads s (slice_index gs i)) (sym e) (λ k. record {
  member = contains_from s.members (slice_index (group_leaders s) i) (among_filtered (λ u. leader s u == u) (slice_index (group_leaders s) i) s.members (among_from (group_leaders s) (slice_index (group_leaders s) i) (contains_at (group_leaders s) i k)));
  least = each_at (λ x. leader s x ≡ x) (group_leaders s) i 0 k (leaders_lead (leader s) s.members);
}) l

-- what a pair of the list's places needs, where the second is later
pub record Later (s : State) (a b : ℕ) : Type 0 where
  pub member : Contains s.members b
  pub differ : leader s a ≢ leader s b

pub later_at : (s : State) (groups : List ℕ) (i j : ℕ) → IsState s → groups ≡ group_leaders s → i < j → j < length groups → Later s (slice_index groups i) (slice_index groups j)
later_at s groups i j h e l k =
    let a = leads_at s groups i h e (omega (arith, l, k)) in
    let b = leads_at s groups j h e k in
    let up : slice_index groups i < slice_index groups j = rising_at groups i j (subst Rising (sym e) (leaders_rising (leader s) s.members (state_are_groups s h))) l k in
    record {
      member = b.member;
      differ = λ f. let p = a.least in let q = b.least in omega (arith, p, q, f, up);
    }

pub later_all : (s : State) (groups : List ℕ) (i a : ℕ) → IsState s → groups ≡ group_leaders s → i < length groups → a ≡ get_or groups i a → All (Later s a) (drop (i + 1) groups)
later_all s groups i a h e l f = λ k d n.
    let m : i + 1 + k < length groups = let q = length-drop (i + 1) groups in omega (arith, n, q) in
    let at_k : get_or (drop (i + 1) groups) k d ≡ slice_index groups (i + 1 + k) = get_or-drop (i + 1) groups k d ∙ get_or_default_zero groups (i + 1 + k) d m in
    subst (Later s a) (sym at_k)
    (subst (λ x. Later s x (slice_index groups (i + 1 + k))) (sym (f ∙ get_or_default_zero groups i a l)) (later_at s groups i (i + 1 + k) h e (omega arith) m))

-- a group's leader, and those behind it in the list
pub with_later : (s : State) (groups later : List ℕ) (i a : ℕ) → IsState s → groups ≡ group_leaders s → i < length groups → a ≡ get_or groups i a → later ≡ drop (i + 1) groups → AreLater s a later
with_later s groups later i a h e l f is = record {
  member = subst (Contains s.members) (sym (f ∙ get_or_default_zero groups i a l)) (leads_at s groups i h e l).member;
  members = subst (All (Contains s.members)) (sym is) (λ k d n. (later_all s groups i a h e l f k d n).member);
  differ = subst (All (λ b. leader s a ≢ leader s b)) (sym is) (λ k d n. (later_all s groups i a h e l f k d n).differ);
}

pub free_next : (s : State) (groups : List ℕ) (i a : ℕ) (old new whole : List (ℕ × ℕ)) → i < length groups → a ≡ get_or groups i a →
    new ≡ old ++ free_with s a (take (length groups - (i + 1)) (drop (i + 1) groups)) → old ++ free_of s (drop i groups) ≡ whole → new ++ free_of s (drop (i + 1) groups) ≡ whole
free_next s groups i a old new whole l f e m =
    ap (λ ps. ps ++ free_of s (drop (i + 1) groups)) (e ∙ ap (λ gs. old ++ free_with s a gs) (tail_is (i + 1) groups)) ∙
    append_assoc old (free_with s a (drop (i + 1) groups)) (free_of s (drop (i + 1) groups)) ∙
    ap (λ gs. old ++ free_of s gs) (sym (drop_more groups i a l ∙ ap (λ x. x ∷ drop (i + 1) groups) (sym f))) ∙
    m

-- ---- each pair of the list is free
abbrev pub IsFreePair : State → ℕ × ℕ → Type 0
IsFreePair s p = IsFree s p.0 p.1

all_unless : (s : State) (b : Bool) (p : ℕ × ℕ) (ps : List (ℕ × ℕ)) → (b ≡ false → IsFreePair s p) → All (IsFreePair s) ps → All (IsFreePair s) (cond b ps (p ∷ ps))
all_unless s true p ps f a = a
all_unless s false p ps f a = All-cons (IsFreePair s) p ps (f refl) a

all_with : (s : State) (a : ℕ) (bs : List ℕ) → Contains s.members a → All (Later s a) bs → All (IsFreePair s) (free_with s a bs)
all_with s a [] c l = All-nil (IsFreePair s)
all_with s a (b ∷ bs) c l =
    let h = All-head (Later s a) b bs l in
    all_unless s (are_apart s a b) (a, b) (free_with s a bs) (λ e. record { first = c; second = h.member; differ = h.differ; allowed = e }) (all_with s a bs c (All-tail (Later s a) b bs l))

later_than : (s : State) (a : ℕ) (bs : List ℕ) → Leads s a → All (Leads s) bs → Each (λ b. a < b) bs → All (Later s a) bs
later_than s a [] la lb up = All-nil (Later s a)
later_than s a (b ∷ bs) la lb up =
    let h = All-head (Leads s) b bs lb in
    All-cons (Later s a) b bs
    (record { member = h.member; differ = λ e. let p = la.least in let q = h.least in let r = up.0 in omega (arith, p, q, e, r) })
    (later_than s a bs la (All-tail (Leads s) b bs lb) up.1)

all_of : (s : State) (groups : List ℕ) → All (Leads s) groups → Rising groups → All (IsFreePair s) (free_of s groups)
all_of s [] l up = All-nil (IsFreePair s)
all_of s (a ∷ gs) l up =
    let h = All-head (Leads s) a gs l in
    let t = All-tail (Leads s) a gs l in
    All-append (IsFreePair s) (free_with s a gs) (free_of s gs) (all_with s a gs h.member (later_than s a gs h t up.0)) (all_of s gs t up.1)

pub all_free : (s : State) → IsState s → All (IsFreePair s) (free_pairs s)
all_free s h = all_of s (group_leaders s)
    (λ k d n. subst (Leads s) (sym (get_or_default_zero (group_leaders s) k d n)) (leads_at s (group_leaders s) k h refl n))
    (leaders_rising (leader s) s.members (state_are_groups s h))

-- at the end of the loop
pub all_found : (s : State) (groups : List ℕ) (i : ℕ) (pairs : List (ℕ × ℕ)) → IsState s → groups ≡ group_leaders s → length groups ≤ i → pairs ++ free_of s (drop i groups) ≡ free_of s groups → All (IsFreePair s) pairs
all_found s groups i pairs h e l m = subst (All (IsFreePair s)) (sym (sym (append-nil pairs) ∙ ap (λ gs. pairs ++ free_of s gs) (sym (drop_all i groups l)) ∙ m ∙ ap (free_of s) e)) (all_free s h)
