-- The list behind the count has each permitted partition, once, and nothing else.
use Rattle.std.proofs.Common.{◌≡◌, ◌≢◌, ℕ, ◌+◌, ◌<◌, ◌≤◌, inl, inr, ⊎_elim, List, [], ◌∷◌, ◌++◌, length, map, max, filter, get_or, slice_index, AllPairs, Contains, Bool, true, false, cond, not, ◌==◌, refl, sym, ap, ◌∙◌, subst, arith, zero, suc}
use Rattle.std.proofs.lemmas.Bool.{and_from, and_parts, cases_eq, eq-eqb, eqb-true, ne_eqb, true≢false}
use Rattle.std.proofs.lemmas.List.Elements.{Contains-append_right}
use Rattle.std.proofs.lemmas.List.FromFn.{get_or-range_with_len, length-range_with_len}
use Rattle.std.proofs.lemmas.List.Kept.{AllPairs-cons, AllPairs-filter}
use Rattle.std.proofs.lemmas.List.Sums.{list_all-from_AllPass, AllPass-from_list_all}
use Rattle.clu_partition.specs.Closed.{Closed, IsPermitted}
use Rattle.clu_partition.specs.Partition.{below, IsNumberedFrom}
use Rattle.clu_partition.proofs.SumLaws.{Each, Among}
use Rattle.clu_partition.proofs.ListLaws.{each_append, each_at, each_map, every}
use Rattle.clu_search.specs.Count.{HasEachPermitted, begun_below, label_lists, partitions, permits, permitted_of}
use Rattle.clu_search.proofs.Canon.{first_or, rest_of}
use Rattle.clu_search.proofs.Pigeon.{Pairwise, among_filtered, among_left, among_mapped, among_right, each_cross, each_mapped, pairwise_append, pairwise_mapped}

-- ---- from recursion to places
contains_among : {A : Type 0} (xs : List A) (c : A) → Among c xs → Contains xs c
contains_among [] c m = absurd m
contains_among (x ∷ xs) c (inl e) = (0, omega arith, sym e)
contains_among (x ∷ xs) c (inr m) = Contains-append_right (x ∷ []) xs c (contains_among xs c m)

pairs_differ : {A : Type 0} (R : A → A → Type 0) (xs : List A) → Pairwise R xs → AllPairs R xs
pairs_differ R [] p = λ i j d l m. absurd (omega (arith, m))
pairs_differ R (x ∷ xs) p = AllPairs-cons R x xs (λ k d l. each_at (R x) xs k d l p.0) (pairs_differ R xs p.1)

-- what is left of a list passes the test
each_passed : {A : Type 0} (P : A → Type 0) (test : A → Bool) (xs : List A) → Each P xs → Each (λ x. P x × (test x ≡ true)) (filter test xs)
each_passed P test [] a = tt
each_passed P test (x ∷ xs) a = by (test x) (λ e. e) (each_passed P test xs a.1)
  where
    by : (b : Bool) → (b ≡ true → test x ≡ true) → Each (λ y. P y × (test y ≡ true)) (filter test xs)
        → Each (λ y. P y × (test y ≡ true)) (cond b (x ∷ filter test xs) (filter test xs))
    by true f r = ((a.0, f refl), r)
    by false f r = r

-- ---- the lists that begin with a label in use, and those that begin with a new one
begun : (label next : ℕ) (labels : List ℕ) (lists : List (List ℕ)) → label < next → Among labels lists →
    Among (label ∷ labels) (begun_below next lists)
begun label zero labels lists l m = absurd (omega arith)
begun label (suc next) labels lists l m = ⊎_elim
    (λ e. among_right (label ∷ labels) (begun_below next lists) (map (λ ls. next ∷ ls) lists)
    (subst (λ k. Among (k ∷ labels) (map (λ ls. next ∷ ls) lists)) (sym e) (among_mapped (λ ls. next ∷ ls) labels lists m)))
    (λ n. among_left (label ∷ labels) (begun_below next lists) (map (λ ls. next ∷ ls) lists) (begun label next labels lists (omega arith) m))
    (cases_eq label next)

-- a label in use, before a list
put_old : (label n next : ℕ) (labels : List ℕ) → label < next → Among labels (label_lists n next) →
    Among (label ∷ labels) (label_lists (suc n) next)
put_old label n next labels l m = among_left (label ∷ labels) (begun_below next (label_lists n next))
    (map (λ ls. next ∷ ls) (label_lists n (suc next))) (begun label next labels (label_lists n next) l m)

-- the next new label, before a list
put_new : (n next : ℕ) (labels : List ℕ) → Among labels (label_lists n (suc next)) → Among (next ∷ labels) (label_lists (suc n) next)
put_new n next labels m = among_right (next ∷ labels) (begun_below next (label_lists n next))
    (map (λ ls. next ∷ ls) (label_lists n (suc next))) (among_mapped (λ ls. next ∷ ls) labels (label_lists n (suc next)) m)

begun_each : (P Q : List ℕ → Type 0) (next : ℕ) (lists : List (List ℕ)) → ((label : ℕ) (labels : List ℕ) → label < next → P labels → Q (label ∷ labels))
    → Each P lists → Each Q (begun_below next lists)
begun_each P Q zero lists f a = tt
begun_each P Q (suc next) lists f a = each_append Q (begun_below next lists) (map (λ labels. next ∷ labels) lists)
    (begun_each P Q next lists (λ label labels l p. f label labels (omega (arith, l)) p) a)
    (each_mapped Q (λ labels. next ∷ labels) lists (each_map P (λ labels. Q (next ∷ labels)) lists (λ labels p. f next labels (omega arith) p) a))

-- those that begin with a lesser label differ from those that begin with this one
put_differ : (next : ℕ) (lists later : List (List ℕ)) → Pairwise (λ x y. x ≢ y) (begun_below next lists) → Pairwise (λ x y. x ≢ y) later
    → Pairwise (λ x y. x ≢ y) (begun_below next lists ++ map (λ labels. next ∷ labels) later)
unfolding first_or rest_of
put_differ next lists later p q = pairwise_append (λ x y. x ≢ y) (begun_below next lists) (map (λ labels. next ∷ labels) later) p
    (pairwise_mapped (λ x y. x ≢ y) (λ x y. x ≢ y) (λ labels. next ∷ labels) later (λ x y d e. d (ap rest_of e)) q)
    (each_cross (λ x. first_or x < next) (λ y. first_or y ≡ next) (λ x y. x ≢ y) (begun_below next lists) (map (λ labels. next ∷ labels) later)
    (λ x y l e f. let h = ap first_or f in absurd (omega (arith, l, e, h)))
    (begun_each (λ _. Unit {0}) (λ x. first_or x < next) next lists (λ label labels l _. l) (every lists))
    (each_mapped (λ y. first_or y ≡ next) (λ labels. next ∷ labels) later (each_map (λ _. Unit {0}) (λ _. next ≡ next) later (λ _ _. refl) (every later))))

begun_differ : (next : ℕ) (lists : List (List ℕ)) → Pairwise (λ x y. x ≢ y) lists → Pairwise (λ x y. x ≢ y) (begun_below next lists)
begun_differ zero lists p = tt
begun_differ (suc next) lists p = put_differ next lists lists (begun_differ next lists p) p

-- ---- the lists of labels are those of this length that are numbered from `next`, and each is there once
abbrev pub IsLabelList : ℕ → ℕ → List ℕ → Type 0
IsLabelList n next labels = (length labels ≡ n) × IsNumberedFrom next labels

numbered_more : (n next label later : ℕ) (labels : List ℕ) → label ≤ next → max next (label + 1) ≡ later → IsLabelList n later labels
    → IsLabelList (suc n) next (label ∷ labels)
numbered_more n next label later labels l e p = (ap suc p.0, (l, subst (λ k. IsNumberedFrom k labels) (sym e) p.1))

only_numbered : (n next : ℕ) → Each (IsLabelList n next) (label_lists n next)
only_numbered zero next = ((refl, tt), tt)
only_numbered (suc n) next = each_append (IsLabelList (suc n) next) (begun_below next (label_lists n next)) (map (λ labels. next ∷ labels) (label_lists n (suc next)))
    (begun_each (IsLabelList n next) (IsLabelList (suc n) next) next (label_lists n next)
    (λ label labels l p. numbered_more n next label next labels (omega (arith, l)) (omega (arith, l)) p) (only_numbered n next))
    (each_mapped (IsLabelList (suc n) next) (λ labels. next ∷ labels) (label_lists n (suc next))
    (each_map (IsLabelList n (suc next)) (λ labels. IsLabelList (suc n) next (next ∷ labels)) (label_lists n (suc next))
    (λ labels p. numbered_more n next next (suc next) labels (omega arith) (omega arith) p) (only_numbered n (suc next))))

each_numbered : (next : ℕ) (labels : List ℕ) → IsNumberedFrom next labels → Among labels (label_lists (length labels) next)
each_numbered next [] p = inl refl
each_numbered next (label ∷ labels) p = ⊎_elim
    (λ e. subst (λ k. Among (k ∷ labels) (label_lists (suc (length labels)) next)) (sym e)
    (put_new (length labels) next labels (each_numbered (suc next) labels (subst (λ k. IsNumberedFrom k labels) (new e) p.1))))
    (λ d. put_old label (length labels) next labels (less d)
    (each_numbered next labels (subst (λ k. IsNumberedFrom k labels) (old d) p.1)))
    (cases_eq label next)
  where
    new : label ≡ next → max next (label + 1) ≡ suc next
    new e = omega (arith, e)

    less : label ≢ next → label < next
    less d = let l = p.0 in omega (arith, l, d)

    old : label ≢ next → max next (label + 1) ≡ next
    old d = let l = p.0 in omega (arith, l, d)

none_twice : (n next : ℕ) → Pairwise (λ x y. x ≢ y) (label_lists n next)
none_twice zero next = (tt, tt)
none_twice (suc n) next = put_differ next (label_lists n next) (label_lists n (suc next))
    (begun_differ next (label_lists n next) (none_twice n next)) (none_twice n (suc next))

-- ---- the test says whether the rules permit the labels
plus_zero : (k : ℕ) → 0 + k ≡ k
plus_zero k = omega arith

passes : (c : Closed) (label : ℕ → ℕ) → IsPermitted c label → permits c label ≡ true
passes c label p = and_from _ _
    (list_all-from_AllPass (λ v. label (slice_index c.group v) == label v) (below (length c.group)) (λ k d l.
    let size = length-range_with_len 0 (length c.group) in
    let at : get_or (below (length c.group)) k d ≡ k = get_or-range_with_len 0 (length c.group) k d (omega (arith, l, size)) ∙ plus_zero k in
    subst (λ v. (label (slice_index c.group v) == label v) ≡ true) (sym at) (eq-eqb _ _ (p.required k (omega (arith, l, size))))))
    (list_all-from_AllPass (λ q. not (label q.0 == label q.1)) c.forbidden (λ k d l. ap not (ne_eqb _ _ (p.forbidden k d l))))

obeys : (c : Closed) (label : ℕ → ℕ) → permits c label ≡ true → IsPermitted c label
obeys c label e = record {
  required = λ v l.
      let at : get_or (below (length c.group)) v 0 ≡ v = get_or-range_with_len 0 (length c.group) v 0 l ∙ plus_zero v in
      let size = length-range_with_len 0 (length c.group) in
      eqb-true _ _ (subst (λ u. (label (slice_index c.group u) == label u) ≡ true) at
      (AllPass-from_list_all (λ u. label (slice_index c.group u) == label u) (below (length c.group)) (and_parts _ _ e).0 v 0 (omega (arith, l, size))));
  forbidden = λ k d l f. true≢false
      (sym (AllPass-from_list_all (λ q. not (label q.0 == label q.1)) c.forbidden (and_parts _ _ e).1 k d l) ∙ ap not (eq-eqb _ _ f));
}

-- those of all partitions that pass are each permitted one, once
pub has_each_permitted : (c : Closed) → HasEachPermitted c (permitted_of c (partitions (length c.group)))
unfolding permitted_of
has_each_permitted c =
    let n : ℕ = length c.group in
    let test = λ (labels : List ℕ). permits c (slice_index labels) in
    let passing : List (List ℕ) = filter test (label_lists n 0) in record {
      each = λ labels p q. contains_among passing labels (among_filtered test labels (label_lists n 0)
          (subst (λ k. Among labels (label_lists k 0)) p.one_each (each_numbered 0 labels p.numbered)) (passes c (slice_index labels) q));
      only = λ k d l.
          let h = each_at (λ labels. IsLabelList n 0 labels × (test labels ≡ true)) passing k d l
          (each_passed (IsLabelList n 0) test (label_lists n 0) (only_numbered n 0)) in
          (record { one_each = h.0.0; numbered = h.0.1 }, obeys c _ h.1);
      once = AllPairs-filter (λ x y. x ≢ y) test (label_lists n 0) (pairs_differ (λ x y. x ≢ y) (label_lists n 0) (none_twice n 0));
    }
