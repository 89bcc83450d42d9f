-- The first of a list that pass a test, found one after the other.
use Rattle.std.proofs.Common.{◌≡◌, ℕ, zero, suc, ◌+◌, ◌<◌, ◌≤◌, List, [], ◌∷◌, ◌++◌, length, take, drop, map, Bool, true, false, cond, Result, IfOk, refl, sym, ap, ◌∙◌, arith, append_assoc, append-nil, length-append}
use Rattle.std.proofs.lemmas.List.{drop_more, drop_all}
use Rattle.std.proofs.lemmas.List.Elements.{filter-append}
use Rattle.std.proofs.lemmas.Result.{IfOk-weaker}
use Rattle.std.proofs.Math.Seq.{take-append_seam}
use Rattle.std.specs.Prelude.{slice_index, ◌≢◌}
use Rattle.clu_cuts.specs.declared.point.Point.{Point}
use Rattle.clu_cuts.specs.declared.point.Cut.{Cut}
use Rattle.clu_cuts.specs.Stars.{breaks, broken, first_broken, star, pairs_with, triples_with, with_two, with_two_more, with_three, triangles_at, claws_at}

-- n of these are had, whatever comes
pub full : {A : Type 0} (n : ℕ) (xs ys : List A) → length xs ≡ n → xs ≡ take n (xs ++ ys)
full n xs ys e = sym (take-append_seam xs ys) ∙ ap (λ k. take k (xs ++ ys)) e

few_more : {A : Type 0} (n : ℕ) (xs : List A) → length xs ≤ n → take n (xs ++ []) ≡ xs
few_more zero [] l = refl
few_more (suc n) [] l = refl
few_more zero (x ∷ xs) l = absurd (omega (arith, l))
few_more (suc n) (x ∷ xs) l = ap (λ ys. x ∷ ys) (few_more n xs (omega (arith, l)))

pub few : {A : Type 0} (n : ℕ) (xs : List A) → length xs ≤ n → take n xs ≡ xs
few n xs l = ap (λ ys. take n ys) (sym (append-nil xs)) ∙ few_more n xs l

pub front_short : {A : Type 0} (n : ℕ) (xs : List A) → length (take n xs) ≤ n
front_short zero [] = omega arith
front_short zero (x ∷ xs) = omega arith
front_short (suc n) [] = omega arith
front_short (suc n) (x ∷ xs) = let h = front_short n xs in omega (arith, h)

-- the front of a front and more is that of all
pub front_front : {A : Type 0} (n : ℕ) (xs ys : List A) → take n (take n xs ++ ys) ≡ take n (xs ++ ys)
front_front zero [] ys = refl
front_front zero (x ∷ xs) ys = refl
front_front (suc n) [] ys = refl
front_front (suc n) (x ∷ xs) ys = ap (λ zs. x ∷ zs) (front_front n xs ys)

-- ---- a walk over a list, of which f makes cuts
-- what is had and what is still to be found are the front of the whole
abbrev pub Left : Point → (ℕ → Cut) → List Cut → List ℕ → List Cut → Type 0
Left p f cuts rest whole = take 50 (cuts ++ broken p (map f rest)) ≡ whole

one_more : (p : Point) (cut : Cut) (t : Bool) (cuts rest : List Cut) → t ≡ breaks p cut
    → cond t (cuts ++ cut ∷ []) cuts ++ broken p rest ≡ cuts ++ broken p (cut ∷ rest)
one_more p cut true cuts rest e = append_assoc cuts (cut ∷ []) (broken p rest) ∙ ap (λ b. cuts ++ cond b (cut ∷ broken p rest) (broken p rest)) e
one_more p cut false cuts rest e = ap (λ b. cuts ++ cond b (cut ∷ broken p rest) (broken p rest)) e

pub next_left : (p : Point) (f : ℕ → Cut) (groups : List ℕ) (c : ℕ) (t : Bool) (cuts new whole : List Cut) → c < length groups
    → t ≡ breaks p (f (slice_index groups c)) → new ≡ cond t (cuts ++ f (slice_index groups c) ∷ []) cuts
    → Left p f cuts (drop c groups) whole → Left p f new (drop (c + 1) groups) whole
next_left p f groups c t cuts new whole l e is h =
    ap (λ cs. take 50 (cs ++ broken p (map f (drop (c + 1) groups)))) is
    ∙ ap (λ cs. take 50 cs) (one_more p (f (slice_index groups c)) t cuts (map f (drop (c + 1) groups)) e)
    ∙ ap (λ gs. take 50 (cuts ++ broken p (map f gs))) (sym (drop_more groups c 0 l))
    ∙ h

pub next_room : (t : Bool) (cut : Cut) (cuts new : List Cut) → length cuts ≤ 50 → length cuts ≢ 50 → new ≡ cond t (cuts ++ cut ∷ []) cuts → length new ≤ 50
next_room true cut cuts new l n e = let h = ap length e in let k = length-append cuts (cut ∷ []) in omega (arith, h, k, l, n)
next_room false cut cuts new l n e = let h = ap length e in omega (arith, h, l)

pub end_left : (p : Point) (f : ℕ → Cut) (groups : List ℕ) (c : ℕ) (cuts whole : List Cut) → length groups ≤ c → length cuts ≤ 50
    → Left p f cuts (drop c groups) whole → cuts ≡ whole
end_left p f groups c cuts whole l r h =
    sym (few 50 cuts r) ∙ ap (λ cs. take 50 cs) (sym (append-nil cuts)) ∙ ap (λ gs. take 50 (cuts ++ broken p (map f gs))) (sym (drop_all c groups l)) ∙ h

pub full_left : (p : Point) (f : ℕ → Cut) (rest : List ℕ) (cuts whole : List Cut) → length cuts ≡ 50 → Left p f cuts rest whole → cuts ≡ whole
full_left p f rest cuts whole e h = full 50 cuts (broken p (map f rest)) e ∙ h

-- the cut that is appended, by the places of its groups
pub pushed : (t : Bool) (cuts : List Cut) (u v w a b c : ℕ) → u ≡ a → v ≡ b → w ≡ c
    → cond t (cuts ++ star u (v ∷ w ∷ []) ∷ []) cuts ≡ cond t (cuts ++ star a (b ∷ c ∷ []) ∷ []) cuts
pushed t cuts u v w a b c e f g =
    ap (λ x. cond t (cuts ++ star x (v ∷ w ∷ []) ∷ []) cuts) e ∙ ap (λ x. cond t (cuts ++ star a (x ∷ w ∷ []) ∷ []) cuts) f ∙ ap (λ x. cond t (cuts ++ star a (b ∷ x ∷ []) ∷ []) cuts) g

-- ---- a walk over a list, of which each item has cuts with those after it
-- at most 50 are had, and what is had and what is still to be found are the front of the whole
pub record Goes (p : Point) (cuts rest whole : List Cut) : Type 0 where
  pub room : length cuts ≤ 50
  pub left : take 50 (cuts ++ broken p rest) ≡ whole

-- what one item adds, and what is left
pub item_left : (p : Point) (mine rest cuts new whole : List Cut) → new ≡ take 50 (cuts ++ broken p mine)
    → take 50 (cuts ++ broken p (mine ++ rest)) ≡ whole → take 50 (new ++ broken p rest) ≡ whole
item_left p mine rest cuts new whole is h =
    ap (λ cs. take 50 (cs ++ broken p rest)) is
    ∙ front_front 50 (cuts ++ broken p mine) (broken p rest)
    ∙ ap (λ cs. take 50 cs) (append_assoc cuts (broken p mine) (broken p rest) ∙ ap (λ cs. cuts ++ cs) (sym (filter-append (breaks p) mine rest)))
    ∙ h

pub new_room : (xs new : List Cut) → new ≡ take 50 xs → length new ≤ 50
new_room xs new e = let h = ap length e in let k = front_short 50 xs in omega (arith, h, k)

-- at the end nothing is left
pub none_left : (p : Point) (list : List ℕ → List Cut) (groups : List ℕ) (i : ℕ) (cuts whole : List Cut) → list [] ≡ [] → length groups ≤ i
    → Goes p cuts (list (drop i groups)) whole → cuts ≡ whole
none_left p list groups i cuts whole none e h =
    sym (few 50 cuts h.room) ∙ ap (λ cs. take 50 cs) (sym (append-nil cuts))
    ∙ ap (λ gs. take 50 (cuts ++ broken p gs)) (sym (ap list (drop_all i groups e) ∙ none)) ∙ h.left

-- the walk's next item: `list` is what all items add, `mine` what the first of them adds
next_item : (p : Point) (mine : ℕ → List ℕ → List Cut) (list : List ℕ → List Cut) → ((x : ℕ) (xs : List ℕ) → list (x ∷ xs) ≡ mine x xs ++ list xs)
    → (groups : List ℕ) (i : ℕ) (cuts new whole : List Cut) → i < length groups
    → new ≡ take 50 (cuts ++ broken p (mine (slice_index groups i) (drop (i + 1) groups)))
    → Goes p cuts (list (drop i groups)) whole → Goes p new (list (drop (i + 1) groups)) whole
next_item p mine list split groups i cuts new whole l is h = record {
  room = new_room _ new is;
  left = item_left p (mine (slice_index groups i) (drop (i + 1) groups)) (list (drop (i + 1) groups)) cuts new whole is
      (ap (λ cs. take 50 (cuts ++ broken p cs)) (sym (ap list (drop_more groups i 0 l) ∙ split (slice_index groups i) (drop (i + 1) groups))) ∙ h.left);
}

pub second_left : (p : Point) (a b : ℕ) (groups : List ℕ) (cuts new whole : List Cut) → b < length groups
    → new ≡ take 50 (cuts ++ broken p (pairs_with a (slice_index groups b) (drop (b + 1) groups)))
    → Goes p cuts (with_two a (drop b groups)) whole → Goes p new (with_two a (drop (b + 1) groups)) whole
second_left p a b groups = next_item p (pairs_with a) (with_two a) (λ x xs. refl) groups b

pub centre_left : (p : Point) (a : ℕ) (groups : List ℕ) (cuts new whole : List Cut) → a < length groups
    → new ≡ take 50 (cuts ++ broken p (with_two (slice_index groups a) groups))
    → Goes p cuts (triangles_at groups (drop a groups)) whole → Goes p new (triangles_at groups (drop (a + 1) groups)) whole
centre_left p a groups = next_item p (λ x _. with_two x groups) (triangles_at groups) (λ x xs. refl) groups a

pub third_left : (p : Point) (a b c : ℕ) (groups : List ℕ) (cuts new whole : List Cut) → c < length groups
    → new ≡ take 50 (cuts ++ broken p (triples_with a b (slice_index groups c) (drop (c + 1) groups)))
    → Goes p cuts (with_two_more a b (drop c groups)) whole → Goes p new (with_two_more a b (drop (c + 1) groups)) whole
third_left p a b c groups = next_item p (triples_with a b) (with_two_more a b) (λ x xs. refl) groups c

pub claw_second_left : (p : Point) (a b : ℕ) (groups : List ℕ) (cuts new whole : List Cut) → b < length groups
    → new ≡ take 50 (cuts ++ broken p (with_two_more a (slice_index groups b) (drop (b + 1) groups)))
    → Goes p cuts (with_three a (drop b groups)) whole → Goes p new (with_three a (drop (b + 1) groups)) whole
claw_second_left p a b groups = next_item p (with_two_more a) (with_three a) (λ x xs. refl) groups b

pub claw_centre_left : (p : Point) (a : ℕ) (groups : List ℕ) (cuts new whole : List Cut) → a < length groups
    → new ≡ take 50 (cuts ++ broken p (with_three (slice_index groups a) groups))
    → Goes p cuts (claws_at groups (drop a groups)) whole → Goes p new (claws_at groups (drop (a + 1) groups)) whole
claw_centre_left p a groups = next_item p (λ x _. with_three x groups) (claws_at groups) (λ x xs. refl) groups a

pub pushed_three : (t : Bool) (cuts : List Cut) (u v w x a b c d : ℕ) → u ≡ a → v ≡ b → w ≡ c → x ≡ d
    → cond t (cuts ++ star u (v ∷ w ∷ x ∷ []) ∷ []) cuts ≡ cond t (cuts ++ star a (b ∷ c ∷ d ∷ []) ∷ []) cuts
pushed_three t cuts u v w x a b c d e f g h =
    ap (λ k. cond t (cuts ++ star k (v ∷ w ∷ x ∷ []) ∷ []) cuts) e ∙ ap (λ k. cond t (cuts ++ star a (k ∷ w ∷ x ∷ []) ∷ []) cuts) f
    ∙ ap (λ k. cond t (cuts ++ star a (b ∷ k ∷ x ∷ []) ∷ []) cuts) g ∙ ap (λ k. cond t (cuts ++ star a (b ∷ c ∷ k ∷ []) ∷ []) cuts) h

-- ---- what is passed over
pub none_broken : (p : Point) (f : ℕ → Cut) (rest : List ℕ) → ((x : ℕ) → breaks p (f x) ≡ false) → broken p (map f rest) ≡ []
none_broken p f [] h = refl
none_broken p f (x ∷ rest) h = ap (λ b. cond b (f x ∷ broken p (map f rest)) (broken p (map f rest))) (h x) ∙ none_broken p f rest h

pub passed : (p : Point) (f : ℕ → Cut) (rest : List ℕ) (cuts : List Cut) → length cuts ≤ 50 → ((x : ℕ) → breaks p (f x) ≡ false) → cuts ≡ take 50 (cuts ++ broken p (map f rest))
passed p f rest cuts r h = sym (few 50 cuts r) ∙ ap (λ cs. take 50 cs) (sym (append-nil cuts)) ∙ ap (λ gs. take 50 (cuts ++ gs)) (sym (none_broken p f rest h))

-- ---- the answer of a search
-- what holds of the first ones over the state's groups holds of what is found over the same list
pub over_first : {E : Type 0} (p q : Point) → q ≡ p → (kind : List ℕ → List ℕ → List Cut) (groups leaders : List ℕ) (P : List Cut → Type 0) (r : Result (List Cut) E)
    → groups ≡ leaders → ((cuts : List Cut) → cuts ≡ first_broken p (kind leaders leaders) → P cuts) → IfOk r (λ cuts. cuts ≡ first_broken q (kind groups groups)) → IfOk r P
over_first p q point kind groups leaders P r same h ok =
    IfOk-weaker r (λ cuts. cuts ≡ first_broken q (kind groups groups)) P
    (λ cuts is. h cuts (is ∙ ap (λ gs. first_broken q (kind gs gs)) same ∙ ap (λ p. first_broken p (kind leaders leaders)) point)) ok
