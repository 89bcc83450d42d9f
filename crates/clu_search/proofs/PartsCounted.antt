-- The proofs of a valid certificate have fewer branch items in all than a list of all permitted partitions has elements.
use Rattle.std.proofs.Common.{◌≡◌, ℕ, ◌*◌, ◌<◌, ℤ, ⊎_elim, List, [], ◌∷◌, ◌++◌, length, get_or, slice_index, All, Contains, refl, sym, subst, arith, zero, suc}
use Rattle.std.specs.List.{concat, sum_by}
use Rattle.std.proofs.Math.Nat.{suc-mul}
use Rattle.std.proofs.lemmas.Nat.{mul-le}
use Rattle.std.proofs.lemmas.List.Sums.{sum_by-cons}
use Rattle.std.proofs.lemmas.List.Elements.{All-nil, All-append, All-contains, All-contains_itself, All-weaker, Contains-append_cases, Contains-append_left, Contains-append_right}
use Rattle.clu_partition.specs.Partition.{below}
use Rattle.clu_partition.specs.Closed.{Closed}
use Rattle.clu_partition.proofs.ListLaws.{each_map}
use Rattle.clu_objective.specs.Problem.{Posed}
use Rattle.clu_state.specs.State.{State}
use Rattle.clu_state.proofs.Whole.{all_members, among_below}
use Rattle.clu_reduce.specs.declared.step.Step.{Step}
use Rattle.clu_cert.specs.Valid.{whole_state, stepped, AllParts, part_state, HaveUppers, IsValid}
use Rattle.clu_cert.specs.declared.certificate.Certificate.{Certificate}
use Rattle.clu_cert.specs.declared.certificate.Proof.{Proof}
use Rattle.clu_cert.proofs.States.{IsTask, part_is_state}
use Rattle.clu_reduce.proofs.PartOf.{InPart, place_is, covered}
use Rattle.clu_cert.proofs.Uppers.{parts_in, HasRoot, root_members, HasProofs}
use Rattle.clu_cert.proofs.ValidLaws.{has_proofs}
use Rattle.clu_tree.specs.Items.{branch_items}
use Rattle.clu_search.specs.Count.{HasEachPermitted}
use Rattle.clu_search.specs.Outcome.{branchings_of}
use Rattle.clu_search.proofs.Pigeon.{pairwise_weaker}
use Rattle.clu_search.proofs.Canon.{Differ}
use Rattle.clu_search.proofs.Counting.{Permits, Permitted, family_permitted, permitted_counted}
use Rattle.clu_search.proofs.Counted.{tree_family}
use Rattle.clu_search.proofs.Products.{permitted_product}

-- ---- the sum is less than the product
-- the product of one more than the branch items of each proof
abbrev pub choices : List Proof → ℕ
choices [] = 1
choices (proof ∷ proofs) = suc (branch_items proof.items) * choices proofs

pub sum_below_choices : (proofs : List Proof) → sum_by (λ proof. branch_items proof.items) proofs < choices proofs
sum_below_choices [] = omega arith
sum_below_choices (proof ∷ proofs) =
    let h = sum_below_choices proofs in
    let s = sum_by-cons (λ proof. branch_items proof.items) proof proofs in
    let t = suc-mul (branch_items proof.items) (choices proofs) in
    let l = mul-le (branch_items proof.items) 1 (branch_items proof.items) (choices proofs) (omega arith) (omega (arith, h)) in
    omega (arith, h, s, t, l)

-- ---- the vertices of the parts
in_some : (parts : List (List ℕ)) (v : ℕ) → Contains (concat parts) v → InPart parts v
in_some [] v c = absurd (omega (arith, c.1))
in_some (part ∷ parts) v c = ⊎_elim
    (λ h. record { place = 0; within = omega arith; has = h })
    (λ h. let r = in_some parts v h in let l = r.within in record { place = suc r.place; within = omega (arith, l); has = r.has })
    (Contains-append_cases part (concat parts) v c)

in_all : (parts : List (List ℕ)) (k v : ℕ) → k < length parts → Contains (get_or parts k []) v → Contains (concat parts) v
in_all [] k v l c = absurd (omega arith)
in_all (part ∷ parts) zero v l c = Contains-append_left part (concat parts) v c
in_all (part ∷ parts) (suc k) v l c = Contains-append_right part (concat parts) v (in_all parts k v (omega arith) c)

-- no vertex of a later part is in the first
none_shared : (s : State) (earlier : List (List ℕ)) (part : List ℕ) (parts : List (List ℕ)) → AllParts s earlier (part ∷ parts) →
    (v : ℕ) → Contains (concat parts) v → Contains part v → ⊥
none_shared s earlier part parts a v c m =
    let r = in_some parts v c in
    let l = r.within in
    let h = place_is s earlier (part ∷ parts) a (suc r.place) (omega (arith, l)) v r.has in
    let k = place_is s earlier (part ∷ parts) a 0 (omega arith) v m in
    omega (arith, h, k)

parts_below : (problem : Posed) (start : Closed) (steps : List Step) (earlier parts : List (List ℕ)) → HasRoot problem start steps →
    AllParts (stepped (whole_state problem start) steps) earlier parts → All (λ v. v < length start.group) (concat parts)
parts_below problem start steps earlier [] r a = All-nil (λ v. v < length start.group)
parts_below problem start steps earlier (part ∷ parts) r a = All-append (λ v. v < length start.group) part (concat parts)
    (part_is_state problem start steps earlier part r.task r.held a.0).members.below
    (parts_below problem start steps (earlier ++ part ∷ []) parts r a.1)

-- ---- partitions of all parts together
parts_permitted : (problem : Posed) (start : Closed) (steps : List Step) (proofs : List Proof) (uppers : List ℤ) (earlier : List (List ℕ)) →
    HasRoot problem start steps → AllParts (stepped (whole_state problem start) steps) earlier (parts_in proofs) →
    HaveUppers problem start steps proofs uppers → Permitted start (concat (parts_in proofs)) (choices proofs)
parts_permitted problem start steps [] [] earlier r a h = record {
  labellings = (λ v. v) ∷ [];
  many_are = refl;
  within = (record { required = All-nil _; forbidden = λ k d l m. absurd (omega (arith, m.1)) }, tt);
  differ = (tt, tt);
}
parts_permitted problem start steps [] (upper ∷ uppers) earlier r a h = absurd h
parts_permitted problem start steps (proof ∷ proofs) [] earlier r a h = absurd h
parts_permitted problem start steps (proof ∷ proofs) (upper ∷ uppers) earlier r a h =
    let s : State = part_state problem start steps proof.part in
    let i = part_is_state problem start steps earlier proof.part r.task r.held a.0 in
    permitted_product start proof.part (concat (parts_in proofs)) (suc (branch_items proof.items)) (choices proofs)
    (record {
      first = i.members;
      below = parts_below problem start steps (earlier ++ proof.part ∷ []) (parts_in proofs) r a.1;
      apart = none_shared (stepped (whole_state problem start) steps) earlier proof.part (parts_in proofs) a;
    })
    (family_permitted s (branch_items proof.items) (tree_family s proof.items upper i h.0))
    (parts_permitted problem start steps proofs uppers (earlier ++ proof.part ∷ []) r a.1 h.1)

moved : (c : Closed) (xs ys : List ℕ) (many : ℕ) → ((v : ℕ) → Contains xs v → Contains ys v) → ((v : ℕ) → Contains ys v → Contains xs v) →
    Permitted c xs many → Permitted c ys many
moved c xs ys many to back p = record {
  labellings = p.labellings;
  many_are = p.many_are;
  within = each_map (Permits c xs) (Permits c ys) p.labellings (λ f q. record {
    required = All-weaker (Contains ys) (λ v. f (slice_index c.group v) ≡ f v)
        (λ v k. All-contains (λ v. f (slice_index c.group v) ≡ f v) xs v q.required (back v k)) ys (All-contains_itself ys);
    forbidden = λ k d l m n. q.forbidden k d l (back _ m) (back _ n);
  }) p.within;
  differ = pairwise_weaker (Differ xs) (Differ ys) p.labellings
      (λ f g d. record { u = d.u; v = d.v; first = to d.u d.first; second = to d.v d.second; tells = d.tells }) p.differ;
}

pub parts_counted : (problem : Posed) (start : Closed) (steps : List Step) (proofs : List Proof) (uppers : List ℤ) (lists : List (List ℕ)) →
    HasProofs problem start steps proofs uppers → HasEachPermitted start lists → sum_by (λ proof. branch_items proof.items) proofs < length lists
parts_counted problem start steps proofs uppers lists h has =
    let p = moved start (concat (parts_in proofs)) (below (length start.group)) (choices proofs) to back
    (parts_permitted problem start steps proofs uppers [] h.root h.parts h.proved) in
    let m = permitted_counted start lists (choices proofs) h.root.task.closed has p in
    let n = sum_below_choices proofs in
    omega (arith, m, n)
  where
    to : (v : ℕ) → Contains (concat (parts_in proofs)) v → Contains (below (length start.group)) v
    to v c = among_below (length start.group) v (All-contains (λ v. v < length start.group) (concat (parts_in proofs)) v
        (parts_below problem start steps [] (parts_in proofs) h.root h.parts) c)

    back : (v : ℕ) → Contains (below (length start.group)) v → Contains (concat (parts_in proofs)) v
    back v c =
        let l : v < length start.group =
        All-contains (λ v. v < length start.group) (below (length start.group)) v (all_members start h.root.task.closed).below c in
        let e = h.root.task.size in
        let m = subst (λ ms. Contains ms v) (sym (root_members problem start steps)) (among_below problem.pairs.n v (omega (arith, l, e))) in
        let r = covered (stepped (whole_state problem start) steps) (parts_in proofs) h.cover v m in
        in_all (parts_in proofs) r.place v r.within r.has

pub valid_counted : (problem : Posed) (start : Closed) (cert : Certificate) (lists : List (List ℕ)) → IsTask problem start →
    IsValid problem start cert → HasEachPermitted start lists → branchings_of cert < length lists
valid_counted problem start cert lists t valid has =
    parts_counted problem start cert.root_steps cert.proofs valid.uppers lists (has_proofs problem start cert t valid) has
