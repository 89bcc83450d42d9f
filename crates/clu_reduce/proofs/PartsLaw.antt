-- The parts of a certificate settle: no partition of the class is worth more than it is within the parts together.
use Rattle.std.proofs.Common.{◌≡◌, ℕ, ℤ, pos, ◌≤ℤ◌, ◌+◌, ◌<◌, ⊎_elim, inl, inr, List, [], length, get_or, true, ◌==◌, filter, Contains, sym, ap, ◌∙◌, subst, arith}
use Rattle.std.specs.List.{range_with_len}
use Rattle.std.proofs.lemmas.Bool.{eq-eqb, eqb-true}
use Rattle.std.proofs.lemmas.List.Elements.{All-contains}
use Rattle.clu_partition.specs.Sums.{total}
use Rattle.clu_partition.specs.Pairs.{weight_of}
use Rattle.clu_partition.specs.Values.{value_on}
use Rattle.clu_partition.proofs.SumLaws.{Each, Among}
use Rattle.clu_partition.proofs.RangeLaws.{rising_range, among_range}
use Rattle.clu_partition.proofs.Regroup.{leaders_lead, rising_filter, among_filter, each_passes}
use Rattle.clu_partition.proofs.PartLaws.{same_rising, by_list}
use Rattle.clu_state.specs.State.{State, IsState, InClass, leader, group_leaders}
use Rattle.clu_state.proofs.GroupLaws.{state_groups, lead_weight}
use Rattle.clu_state.proofs.Bridge.{each_from, each_here, among_from, contains_from, rising_from_index}
use Rattle.clu_state.proofs.Class.{among_filtered}
use Rattle.clu_state.proofs.Best.{worth}
use Rattle.clu_state.proofs.Settling.{Settles, parts_bound}
use Rattle.clu_reduce.specs.Parts.{IsPart, AllParts, Cover}
use Rattle.clu_reduce.proofs.PartOf.{place_of, place_is, part_at, covered}

-- no group is divided, and groups of different parts are apart or weigh at most 0
pub settles : (s : State) → IsState s → (parts : List (List ℕ)) → AllParts s [] parts → Cover s parts → Settles s (place_of parts)
settles s i parts a cover = record {
  undivided = λ v c.
      let h = covered s parts cover v c in
      let g = state_groups s i in
      let p = (part_at s [] parts a h.place h.within).is in
      place_is s [] parts a h.place h.within (leader s v) (p.undivided v (leader s v) h.has (g.into v c) (sym (g.idem v c)))
      ∙ sym (place_is s [] parts a h.place h.within v h.has);
  across = λ x y mx my n.
      let cx = member x mx in
      let cy = member y my in
      let h = covered s parts cover x cx in
      let p = (part_at s [] parts a h.place h.within).is in
      let e = place_is s [] parts a h.place h.within x h.has in
      ⊎_elim (λ k. inl k)
      (λ k. inr (subst (λ z. z ≤ℤ pos 0) (lead_weight s x y (leads x mx) (leads y my)) k))
      (p.settled x y h.has cy (λ k. n (e ∙ sym (place_is s [] parts a h.place h.within y k))));
}
  where
    member : (x : ℕ) → Among x (group_leaders s) → Contains s.members x
    member x m = contains_from s.members x (among_filtered (λ u. leader s u == u) x s.members m)

    leads : (x : ℕ) → Among x (group_leaders s) → leader s x ≡ x
    leads x m = each_here (λ u. leader s u ≡ u) x (group_leaders s) (leaders_lead (leader s) s.members) m

-- the members at the place of a part are the part
pub at_place : (s : State) → IsState s → (parts : List (List ℕ)) → AllParts s [] parts → Cover s parts → (k : ℕ) → k < length parts →
    filter (λ u. place_of parts u == k) s.members ≡ get_or parts k []
at_place s i parts a cover k l = same_rising (filter (λ u. place_of parts u == k) s.members) (get_or parts k [])
    (rising_filter (λ u. place_of parts u == k) s.members (rising_from_index s.members i.members.rising))
    (rising_from_index (get_or parts k []) p.rising)
    there back
  where
    p : IsPart s (part_at s [] parts a k l).earlier (get_or parts k [])
    p = (part_at s [] parts a k l).is

    there : (c : ℕ) → Among c (filter (λ u. place_of parts u == k) s.members) → Among c (get_or parts k [])
    there c m =
        let e = eqb-true (place_of parts c) k (each_here (λ u. (place_of parts u == k) ≡ true) c (filter (λ u. place_of parts u == k) s.members)
        (each_passes (λ u. place_of parts u == k) s.members) m) in
        let h = covered s parts cover c (contains_from s.members c (among_filtered (λ u. place_of parts u == k) c s.members m)) in
        let f = place_is s [] parts a h.place h.within c h.has in
        subst (λ j. Among c (get_or parts j [])) (sym f ∙ e) (among_from (get_or parts h.place []) c h.has)

    back : (c : ℕ) → Among c (get_or parts k []) → Among c (filter (λ u. place_of parts u == k) s.members)
    back c m =
        let in_part = contains_from (get_or parts k []) c m in
        let in_all = All-contains (Contains s.members) (get_or parts k []) c p.members in_part in
        among_filter (λ u. place_of parts u == k) c s.members (eq-eqb (place_of parts c) k (place_is s [] parts a k l c in_part))
        (among_from s.members c in_all)

-- a sum over the places of parts is one over the parts
pub over_parts : (s : State) → IsState s → (parts : List (List ℕ)) → AllParts s [] parts → Cover s parts → (f : List ℕ → ℤ) →
    total (λ k. f (filter (λ u. place_of parts u == k) s.members)) (range_with_len 0 (length parts)) ≡ total f parts
over_parts s i parts a cover f = by_list f [] (λ k. filter (λ u. place_of parts u == k) s.members) parts 0
    (λ k l. ap (λ j. filter (λ u. place_of parts u == j) s.members) (same k) ∙ at_place s i parts a cover k l)
  where
    same : (k : ℕ) → 0 + k ≡ k
    same k = omega arith

pub all_placed : (s : State) (parts : List (List ℕ)) → AllParts s [] parts → Cover s parts →
    Each (λ u. Among (place_of parts u) (range_with_len 0 (length parts))) s.members
all_placed s parts a cover = each_from (λ u. Among (place_of parts u) (range_with_len 0 (length parts))) s.members (λ u c.
    let h = covered s parts cover u c in
    let e = place_is s [] parts a h.place h.within u h.has in
    let l = h.within in
    among_range 0 (length parts) (place_of parts u) (omega arith) (omega (arith, e, l)))

pub parts_law : (s : State) → IsState s → (parts : List (List ℕ)) → AllParts s [] parts → Cover s parts → (label : ℕ → ℕ) → InClass s label →
    worth s label ≤ℤ total (λ part. value_on (weight_of s.pairs) label part) parts
parts_law s i parts a cover label c =
    subst (λ z. worth s label ≤ℤ z) (over_parts s i parts a cover (λ part. value_on (weight_of s.pairs) label part))
    (parts_bound s i (place_of parts) (range_with_len 0 (length parts)) (rising_range 0 (length parts)) (all_placed s parts a cover)
    (settles s i parts a cover) label c)
