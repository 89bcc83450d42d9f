-- The heaviest one of a list of pairs, found from the front.
use Rattle.std.proofs.Common.{◌≡◌, ◌⊎◌, inl, inr, ℕ, ◌+◌, ◌-◌, ◌<◌, ◌≤◌, List, [], ◌∷◌, ◌++◌, length, get_or, take, drop, Bool, true, false, nat_lt, cond, All, Option, Some, None, IfSome, refl, sym, ap, ◌∙◌, subst, arith}
use Rattle.std.proofs.lemmas.List.{drop_more, drop_all}
use Rattle.std.proofs.lemmas.List.Elements.{All-cons, All-nil, All-head, All-tail}
use Rattle.std.proofs.lemmas.Bool.Decides.{nat_tests}
use Rattle.clu_partition.specs.Closed.{Precedes, AreRising}
use Rattle.clu_partition.proofs.ListLaws.{tail_is}
use Rattle.clu_state.specs.State.{State, IsState, are_apart, group_leaders, free_with, free_of, free_pairs}
use Rattle.clu_state.proofs.FreePairs.{all_free, IsFreePair}
use Rattle.clu_node.specs.Node.{HasPair, IsHeaviest, size_of}
use Rattle.clu_node.specs.Heavier.{heavier, heaviest_of}
use Rattle.clu_node.proofs.FreeLists.{none_free, free_rising}

-- the heaviest one of these and the best before them
abbrev heaviest_from : State → ℕ × ℕ → List (ℕ × ℕ) → ℕ × ℕ
heaviest_from s best [] = best
heaviest_from s best (pair ∷ pairs) = heaviest_from s (heavier s (Some best) pair) pairs

-- ---- it is one of them
either : (P : ℕ × ℕ → Type 0) (b : Bool) (p q : ℕ × ℕ) → P p → P q → P (cond b p q)
either P true p q hp hq = hp
either P false p q hp hq = hq

pub heaviest_has : (s : State) (P : ℕ × ℕ → Type 0) (best : ℕ × ℕ) (pairs : List (ℕ × ℕ)) → P best → All P pairs
    → P (heaviest_from s best pairs)
heaviest_has s P best [] h all = h
heaviest_has s P best (pair ∷ pairs) h all =
    heaviest_has s P (heavier s (Some best) pair) pairs
    (either P (nat_lt (size_of s best) (size_of s pair)) pair best (All-head P pair pairs all) h) (All-tail P pair pairs all)

-- ---- none weighs more, and none before it as much
abbrev NoHeavier : State → ℕ × ℕ → ℕ × ℕ → Type 0
NoHeavier s top other = size_of s other ≤ size_of s top

abbrev NoEarlier : State → ℕ × ℕ → ℕ × ℕ → Type 0
NoEarlier s top other = size_of s other ≡ size_of s top → (other ≡ top) ⊎ Precedes top other

-- none of the pairs, nor the best before them, weighs more in size than top, and none of the same size comes before it
record Tops (s : State) (best : ℕ × ℕ) (pairs : List (ℕ × ℕ)) (top : ℕ × ℕ) : Type 0 where
  own : NoHeavier s top best
  kept : size_of s best ≡ size_of s top → best ≡ top
  sizes : All (NoHeavier s top) pairs
  first : All (NoEarlier s top) pairs

takes : (s : State) (best pair : ℕ × ℕ) (pairs : List (ℕ × ℕ)) (top : ℕ × ℕ) → size_of s best < size_of s pair
    → Tops s pair pairs top → Tops s best (pair ∷ pairs) top
takes s best pair pairs top l t = record {
  own = let h = t.own in omega (arith, h, l);
  kept = λ e. absurd (let h = t.own in omega (arith, h, l, e));
  sizes = All-cons (NoHeavier s top) pair pairs t.own t.sizes;
  first = All-cons (NoEarlier s top) pair pairs (λ e. inl (t.kept e)) t.first;
}

keeps : (s : State) (best pair : ℕ × ℕ) (pairs : List (ℕ × ℕ)) (top : ℕ × ℕ) → size_of s pair ≤ size_of s best → Precedes best pair
    → Tops s best pairs top → Tops s best (pair ∷ pairs) top
keeps s best pair pairs top l before t = record {
  own = t.own;
  kept = t.kept;
  sizes = All-cons (NoHeavier s top) pair pairs (let h = t.own in omega (arith, h, l)) t.sizes;
  first = All-cons (NoEarlier s top) pair pairs
      (λ e. inr (subst (λ p. Precedes p pair) (t.kept (let h = t.own in omega (arith, h, l, e))) before)) t.first;
}

tops_by : (s : State) (best pair : ℕ × ℕ) (pairs : List (ℕ × ℕ)) (b : Bool) → nat_lt (size_of s best) (size_of s pair) ≡ b
    → Precedes best pair → Tops s pair pairs (heaviest_from s pair pairs) → Tops s best pairs (heaviest_from s best pairs)
    → Tops s best (pair ∷ pairs) (heaviest_from s (cond b pair best) pairs)
tops_by s best pair pairs true e before new old = takes s best pair pairs (heaviest_from s pair pairs) (grind (arith, nat_tests)) new
tops_by s best pair pairs false e before new old = keeps s best pair pairs (heaviest_from s best pairs) (grind (arith, nat_tests)) before old

tops : (s : State) (best : ℕ × ℕ) (pairs : List (ℕ × ℕ)) → AreRising (best ∷ pairs) → Tops s best pairs (heaviest_from s best pairs)
tops s best [] up = record {
  own = omega arith;
  kept = λ _. refl;
  sizes = All-nil (NoHeavier s best);
  first = All-nil (NoEarlier s best);
}
tops s best (pair ∷ pairs) up =
    tops_by s best pair pairs (nat_lt (size_of s best) (size_of s pair)) refl (All-head (Precedes best) pair pairs up.0)
    (tops s pair pairs up.1) (tops s best pairs (All-tail (Precedes best) pair pairs up.0, up.1.1))

top_of : (s : State) (best : ℕ × ℕ) (pairs : List (ℕ × ℕ)) (top : ℕ × ℕ) → best ∷ pairs ≡ free_pairs s → Tops s best pairs top → IsHeaviest s top
top_of s best pairs top are t = record {
  heaviest = subst (All (NoHeavier s top)) are (All-cons (NoHeavier s top) best pairs t.own t.sizes);
  first = subst (All (NoEarlier s top)) are (All-cons (NoEarlier s top) best pairs (λ e. inl (t.kept e)) t.first);
}

-- ---- what a walk over the pairs finds
found_from : (s : State) (best : ℕ × ℕ) (pairs : List (ℕ × ℕ)) → heaviest_of s (Some best) pairs ≡ Some (heaviest_from s best pairs)
found_from s best [] = refl
found_from s best (pair ∷ pairs) = found_from s (heavier s (Some best) pair) pairs

heaviest_in : (s : State) (all : List (ℕ × ℕ)) → all ≡ free_pairs s → AreRising all → IfSome (heaviest_of s None all) (IsHeaviest s)
heaviest_in s [] e up = tt
heaviest_in s (best ∷ pairs) e up =
    subst (λ r. IfSome r (IsHeaviest s)) (sym (found_from s best pairs))
    (top_of s best pairs (heaviest_from s best pairs) e (tops s best pairs up))

pub is_heaviest : (s : State) (r : Option (ℕ × ℕ)) → IsState s → r ≡ heaviest_of s None (free_pairs s) → IfSome r (IsHeaviest s)
is_heaviest s r h e = subst (λ r. IfSome r (IsHeaviest s)) (sym e) (heaviest_in s (free_pairs s) refl (free_rising s h))

free_in : (s : State) (all : List (ℕ × ℕ)) → IsState s → all ≡ free_pairs s → All (IsFreePair s) all → HasPair s (heaviest_of s None all)
free_in s [] h e free = none_free s h (sym e)
free_in s (best ∷ pairs) h e free =
    subst (HasPair s) (sym (found_from s best pairs))
    (heaviest_has s (IsFreePair s) best pairs (All-head (IsFreePair s) best pairs free) (All-tail (IsFreePair s) best pairs free))

pub has_pair : (s : State) (r : Option (ℕ × ℕ)) → IsState s → r ≡ heaviest_of s None (free_pairs s) → HasPair s r
has_pair s r h e = subst (HasPair s) (sym e) (free_in s (free_pairs s) h refl (all_free s h))

none_in : (s : State) (all : List (ℕ × ℕ)) → heaviest_of s None all ≡ None → all ≡ []
none_in s [] e = refl
none_in s (best ∷ pairs) e = absurd (some_one (heaviest_from s best pairs) (sym (found_from s best pairs) ∙ e))
  where
    some_one : (p : ℕ × ℕ) → Some p ≡ None → ⊥
    some_one p e = cc

pub none_found : (s : State) (r : Option (ℕ × ℕ)) → r ≡ heaviest_of s None (free_pairs s) → r ≡ None → free_pairs s ≡ []
none_found s r e n = none_in s (free_pairs s) (sym e ∙ n)

-- ---- one step of the walk
found_append : (s : State) (best : Option (ℕ × ℕ)) (xs ys : List (ℕ × ℕ)) → heaviest_of s best (xs ++ ys) ≡ heaviest_of s (heaviest_of s best xs) ys
found_append s best [] ys = refl
found_append s best (x ∷ xs) ys = found_append s (Some (heavier s best x)) xs ys

found_unless : (s : State) (best : Option (ℕ × ℕ)) (apart : Bool) (p : ℕ × ℕ) (pairs : List (ℕ × ℕ))
    → heaviest_of s best (cond apart pairs (p ∷ pairs)) ≡ heaviest_of s (heaviest_of s best (cond apart [] (p ∷ []))) pairs
found_unless s best true p pairs = refl
found_unless s best false p pairs = refl

-- a later group more
pub next_with : (s : State) (old new whole : Option (ℕ × ℕ)) (a b i : ℕ) (later : List ℕ) → i < length later → b ≡ get_or later i b
    → new ≡ heaviest_of s old (free_with s a (b ∷ [])) → heaviest_of s old (free_with s a (drop i later)) ≡ whole
    → heaviest_of s new (free_with s a (drop (i + 1) later)) ≡ whole
next_with s old new whole a b i later l is e k =
    ap (λ r. heaviest_of s r (free_with s a (drop (i + 1) later))) e ∙
    sym (found_unless s old (are_apart s a b) (a, b) (free_with s a (drop (i + 1) later))) ∙
    ap (λ bs. heaviest_of s old (free_with s a bs)) (sym (drop_more later i b l ∙ ap (λ x. x ∷ drop (i + 1) later) (sym is))) ∙
    k

-- a group more, with all later ones
pub next_group : (s : State) (old new whole : Option (ℕ × ℕ)) (a i : ℕ) (groups : List ℕ) → i < length groups → a ≡ get_or groups i a
    → new ≡ heaviest_of s old (free_with s a (take (length groups - (i + 1)) (drop (i + 1) groups)))
    → heaviest_of s old (free_of s (drop i groups)) ≡ whole → heaviest_of s new (free_of s (drop (i + 1) groups)) ≡ whole
next_group s old new whole a i groups l is e k =
    ap (λ r. heaviest_of s r (free_of s (drop (i + 1) groups))) (e ∙ ap (λ gs. heaviest_of s old (free_with s a gs)) (tail_is (i + 1) groups)) ∙
    sym (found_append s old (free_with s a (drop (i + 1) groups)) (free_of s (drop (i + 1) groups))) ∙
    ap (λ gs. heaviest_of s old (free_of s gs)) (sym (drop_more groups i a l ∙ ap (λ x. x ∷ drop (i + 1) groups) (sym is))) ∙
    k

-- after the last group
pub all_visited : (s : State) (r : Option (ℕ × ℕ)) (i : ℕ) (groups : List ℕ) → groups ≡ group_leaders s → length groups ≤ i
    → heaviest_of s r (free_of s (drop i groups)) ≡ heaviest_of s None (free_of s groups) → r ≡ heaviest_of s None (free_pairs s)
all_visited s r i groups is l e =
    ap (λ gs. heaviest_of s r (free_of s gs)) (sym (drop_all i groups l)) ∙ e ∙ ap (λ gs. heaviest_of s None (free_of s gs)) is
