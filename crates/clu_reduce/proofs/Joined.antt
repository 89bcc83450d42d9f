-- Partitions of the parts, joined: no block leaves a part, so the value is the sum of those on the parts.
use Rattle.std.proofs.Common.{◌≡◌, ⊎_elim, ℕ, ℤ, List, [], length, get_or, Bool, true, false, ◌==◌, Contains, refl, sym, ap, ◌∙◌, subst}
use Rattle.std.specs.List.{range_with_len}
use Rattle.std.proofs.lemmas.Bool.{cases_eq, eq-eqb, ne_eqb}
use Rattle.std.proofs.lemmas.List.Elements.{All-nil, All-contains, Contains-get_or}
use Rattle.clu_partition.specs.Sums.{total, only_if}
use Rattle.clu_partition.specs.Pairs.{weight_of}
use Rattle.clu_partition.specs.Values.{value_on}
use Rattle.clu_partition.proofs.StartLaws.{all_from}
use Rattle.clu_partition.proofs.SumLaws.{Among, pair_cong_on}
use Rattle.clu_partition.proofs.ListLaws.{each_among}
use Rattle.clu_partition.proofs.PartLaws.{by_part}
use Rattle.clu_partition.proofs.RangeLaws.{rising_range}
use Rattle.clu_state.specs.State.{State, IsState, InClass, undecided}
use Rattle.clu_state.proofs.Bridge.{contains_from}
use Rattle.clu_state.proofs.Best.{worth}
use Rattle.clu_reduce.specs.Parts.{AllParts, Cover}
use Rattle.clu_reduce.proofs.PartOf.{place_of, place_is, covered}
use Rattle.clu_reduce.proofs.PartsLaw.{over_parts, all_placed}

-- members with one label are of one part
abbrev pub StaysIn : State → (ℕ → ℕ) → (ℕ → ℕ) → Type 0
StaysIn s label part = (u v : ℕ) → Contains s.members u → Contains s.members v → label u ≡ label v → part u ≡ part v

joined_pair : (label part : ℕ → ℕ) (w : ℤ) (u v : ℕ) → (label u ≡ label v → part u ≡ part v) →
    only_if (label u == label v) w ≡ only_if (part u == part v) (only_if (label u == label v) w)
joined_pair label part w u v h = ⊎_elim
    (λ e. sym (ap (λ (b : Bool). only_if b (only_if (label u == label v) w)) (eq-eqb (part u) (part v) (h e))))
    (λ n. ap (λ (b : Bool). only_if b w) (ne_eqb (label u) (label v) n) ∙ sym (ap (λ (b : Bool). only_if (part u == part v) (only_if b w)) (ne_eqb (label u) (label v) n)
    ∙ nothing (part u == part v)))
    (cases_eq (label u) (label v))
  where
    nothing : (b : Bool) → only_if b (only_if false w) ≡ only_if false w
    nothing true = refl
    nothing false = refl

pub joined_value : (s : State) → IsState s → (parts : List (List ℕ)) → AllParts s [] parts → Cover s parts → (label : ℕ → ℕ) →
    StaysIn s label (place_of parts) → worth s label ≡ total (λ part. value_on (weight_of s.pairs) label part) parts
joined_value s i parts a cover label stays =
    pair_cong_on (λ u v. only_if (label u == label v) (weight_of s.pairs u v))
    (λ u v. only_if (place_of parts u == place_of parts v) (only_if (label u == label v) (weight_of s.pairs u v)))
    (λ x. Among x s.members) s.members (each_among s.members)
    (λ u v mu mv. joined_pair label (place_of parts) (weight_of s.pairs u v) u v (stays u v (contains_from s.members u mu) (contains_from s.members v mv)))
    ∙ by_part (λ u v. only_if (label u == label v) (weight_of s.pairs u v)) (place_of parts) (range_with_len 0 (length parts)) s.members
    (rising_range 0 (length parts)) (all_placed s parts a cover)
    ∙ over_parts s i parts a cover (λ part. value_on (weight_of s.pairs) label part)

-- each block's label is a vertex of its part
pub stays_by : (s : State) (parts : List (List ℕ)) → AllParts s [] parts → Cover s parts → (label : ℕ → ℕ) →
    ((part : List ℕ) → Contains parts part → (v : ℕ) → Contains part v → Contains part (label v)) → StaysIn s label (place_of parts)
stays_by s parts a cover label h u v cu cv e =
    let p = covered s parts cover u cu in
    let q = covered s parts cover v cv in
    let lu = h (get_or parts p.place []) (Contains-get_or parts p.place [] p.within) u p.has in
    let lv = h (get_or parts q.place []) (Contains-get_or parts q.place [] q.within) v q.has in
    place_is s [] parts a p.place p.within u p.has
    ∙ sym (place_is s [] parts a p.place p.within (label u) lu)
    ∙ ap (place_of parts) e
    ∙ place_is s [] parts a q.place q.within (label v) lv
    ∙ sym (place_is s [] parts a q.place q.within v q.has)

-- what obeys the rules on each part obeys them on the whole
pub joined_class : (s : State) (parts : List (List ℕ)) → AllParts s [] parts → Cover s parts → (label : ℕ → ℕ) → StaysIn s label (place_of parts) →
    ((part : List ℕ) → Contains parts part → InClass (undecided s.pairs s.start part) label) → InClass (undecided s.pairs s.start s.members) label
joined_class s parts a cover label stays each = record {
  required = all_from (λ v. label (get_or s.start.group v 0) ≡ label v) s.members (λ v c.
      let p = covered s parts cover v c in
      All-contains (λ v. label (get_or s.start.group v 0) ≡ label v) (get_or parts p.place []) v
      (each (get_or parts p.place []) (Contains-get_or parts p.place [] p.within)).required p.has);
  forbidden = λ k d l cx cy e.
      let pair = get_or s.start.forbidden k d in
      let p = covered s parts cover pair.0 cx in
      let q = covered s parts cover pair.1 cy in
      let same = sym (place_is s [] parts a q.place q.within pair.1 q.has) ∙ sym (stays pair.0 pair.1 cx cy e) ∙ place_is s [] parts a p.place p.within pair.0 p.has in
      (each (get_or parts p.place []) (Contains-get_or parts p.place [] p.within)).forbidden k d l p.has
      (subst (λ j. Contains (get_or parts j []) pair.1) same q.has) e;
  decisions = All-nil _;
}
