-- Partitions of a state's class that divide the members differently, and that a list of all that closed rules permit has no fewer.
use Rattle.std.proofs.Common.{◌≡◌, ℕ, ◌≤◌, ◌<◌, ◌≢◌, ◌+◌, inl, List, [], ◌∷◌, ◌++◌, length, slice_index, All, Contains, Some, refl, sym, ◌∙◌, arith, suc, length-append}
use Rattle.std.specs.Option.{IfSome}
use Rattle.std.proofs.lemmas.List.{length-map}
use Rattle.std.proofs.lemmas.List.Elements.{All-contains, All-pop}
use Rattle.std.proofs.lemmas.List.FromFn.{get_or-map-range_with_len}
use Rattle.clu_partition.specs.Partition.{below, IsPartition}
use Rattle.clu_partition.specs.Closed.{Closed, IsClosed, IsPermitted}
use Rattle.clu_partition.proofs.SumLaws.{Each, Among}
use Rattle.clu_partition.proofs.ListLaws.{each_map}
use Rattle.clu_partition.proofs.Ranges.{below_size}
use Rattle.clu_partition.proofs.RangeLaws.{among_range}
use Rattle.clu_state.specs.State.{State, IsState, InClass, ObeysDecision, IsFree, leader, decided}
use Rattle.clu_state.specs.declared.decision.Decision.{Decision}
use Rattle.clu_state.specs.declared.decision.Decision.TheVariants.{Together, Apart}
use Rattle.clu_state.proofs.Whole.{among_below}
use Rattle.clu_search.specs.Count.{HasEachPermitted}
use Rattle.clu_state.proofs.Own.{own_class}
use Rattle.clu_partition.proofs.ListLaws.{each_append}
use Rattle.clu_search.proofs.Pigeon.{Pairwise, among_contains, each_cross, pairwise_append, pigeon_mapped}
use Rattle.clu_search.proofs.Canon.{Differ, canonical, numbered, canonical_numbered, canonical_differ, numbered_tells, numbered_same}

-- ---- partitions of a class
-- k + 1 partitions of the class, any two of which divide the members differently
pub record Family (s : State) (k : ℕ) : Type 0 where
  pub labellings : List (ℕ → ℕ)
  pub many : length labellings ≡ suc k
  pub within : Each (InClass s) labellings
  pub differ : Pairwise (Differ s.members) labellings

-- the partition into the groups
pub own_family : (s : State) → IsState s → Family s 0
own_family s i = record { labellings = leader s ∷ []; many = refl; within = (own_class s i, tt); differ = (tt, tt) }

-- a partition of the class after a decision obeys those before it, and this one
obeyed : (s : State) (d : Decision) (label : ℕ → ℕ) → InClass (decided s d) label → All (ObeysDecision label) s.decisions × IfSome (Some d) (ObeysDecision label)
obeyed s d label c = All-pop (ObeysDecision label) (s.decisions ++ d ∷ []) s.decisions (Some d) refl c.decisions

pub class_before : (s : State) (d : Decision) (label : ℕ → ℕ) → InClass (decided s d) label → InClass s label
class_before s d label c = record { required = c.required; forbidden = c.forbidden; decisions = (obeyed s d label c).0 }

pub class_obeys : (s : State) (d : Decision) (label : ℕ → ℕ) → InClass (decided s d) label → ObeysDecision label d
class_obeys s d label c = (obeyed s d label c).1

each_before : (s : State) (d : Decision) (labellings : List (ℕ → ℕ)) → Each (InClass (decided s d)) labellings → Each (InClass s) labellings
each_before s d labellings a = each_map (InClass (decided s d)) (InClass s) labellings (class_before s d) a

-- those after a decision are of the class before it
pub family_before : (s : State) (d : Decision) (k : ℕ) → Family (decided s d) k → Family s k
family_before s d k f = record {
  labellings = f.labellings;
  many = f.many;
  within = each_before s d f.labellings f.within;
  differ = f.differ;
}

-- a free pair tells those that have it together from those that have it apart
pub family_split : (s : State) (u v k l : ℕ) → IsFree s u v → Family (decided s (Together u v)) k → Family (decided s (Apart u v)) l →
    Family s (suc (k + l))
family_split s u v k l f a b = record {
  labellings = a.labellings ++ b.labellings;
  many = let h = length-append a.labellings b.labellings in let m = a.many in let n = b.many in omega (arith, h, m, n);
  within = each_append (InClass s) a.labellings b.labellings
      (each_before s (Together u v) a.labellings a.within) (each_before s (Apart u v) b.labellings b.within);
  differ = pairwise_append (Differ s.members) a.labellings b.labellings a.differ b.differ
      (each_cross (InClass (decided s (Together u v))) (InClass (decided s (Apart u v))) (Differ s.members) a.labellings b.labellings
      (λ g h c d. record {
        u = u;
        v = v;
        first = f.first;
        second = f.second;
        tells = inl (class_obeys s (Together u v) g c, class_obeys s (Apart u v) h d);
      })
      a.within b.within);
}

-- ---- partitions that the rules permit
-- a partition of the members that obeys the rules among them
pub record Permits (c : Closed) (members : List ℕ) (label : ℕ → ℕ) : Type 0 where
  pub required : All (λ v. label (slice_index c.group v) ≡ label v) members
  pub forbidden : All (λ p. Contains members p.0 → Contains members p.1 → label p.0 ≢ label p.1) c.forbidden

-- so many of them, any two of which divide the members differently
pub record Permitted (c : Closed) (members : List ℕ) (many : ℕ) : Type 0 where
  pub labellings : List (ℕ → ℕ)
  pub many_are : length labellings ≡ many
  pub within : Each (Permits c members) labellings
  pub differ : Pairwise (Differ members) labellings

pub family_permitted : (s : State) (k : ℕ) → Family s k → Permitted s.start s.members (suc k)
family_permitted s k f = record {
  labellings = f.labellings;
  many_are = f.many;
  within = each_map (InClass s) (Permits s.start s.members) f.labellings
      (λ label c. record { required = c.required; forbidden = c.forbidden }) f.within;
  differ = f.differ;
}

-- ---- a list that has each permitted partition has no fewer
numbered_at : (label : ℕ → ℕ) (n v : ℕ) → v < n → slice_index (canonical label (below n)) v ≡ numbered label (below n) v
numbered_at label n v l = get_or-map-range_with_len (numbered label (below n)) 0 n v v 0 l (omega arith)

among_all : (n v : ℕ) → v < n → Among v (below n)
among_all n v l = among_range 0 n v (omega arith) (omega (arith, l))

stays_tied : (c : Closed) → IsClosed c → (label : ℕ → ℕ) → (v : ℕ) → v < length c.group → label (slice_index c.group v) ≡ label v →
    slice_index (canonical label (below (length c.group))) (slice_index c.group v) ≡ slice_index (canonical label (below (length c.group))) v
stays_tied c i label v l e =
    let b = i.below v l in
    numbered_at label (length c.group) (slice_index c.group v) (omega (arith, b, l))
    ∙ numbered_same label (below (length c.group)) (slice_index c.group v) v e ∙ sym (numbered_at label (length c.group) v l)

stays_split : (n : ℕ) (label : ℕ → ℕ) (u v : ℕ) → u < n → v < n → label u ≢ label v →
    slice_index (canonical label (below n)) u ≢ slice_index (canonical label (below n)) v
stays_split n label u v k l d e =
    d (numbered_tells label (below n) u v (among_all n u k) (sym (numbered_at label n u k) ∙ e ∙ numbered_at label n v l))

canonical_partition : (n : ℕ) (label : ℕ → ℕ) → IsPartition n (canonical label (below n))
canonical_partition n label = record {
  one_each = length-map (below n) (numbered label (below n)) ∙ below_size n;
  numbered = canonical_numbered label (below n);
}

canonical_permitted : (c : Closed) → IsClosed c → (label : ℕ → ℕ) → Permits c (below (length c.group)) label →
    IsPermitted c (slice_index (canonical label (below (length c.group))))
canonical_permitted c i label p = record {
  required = λ v l. stays_tied c i label v l
      (All-contains (λ v. label (slice_index c.group v) ≡ label v) (below (length c.group)) v p.required (among_below (length c.group) v l));
  forbidden = λ k d l.
      let r = i.in_range k d l in
      stays_split (length c.group) label _ _ r.0 r.1
      (p.forbidden k d l (among_below (length c.group) _ r.0) (among_below (length c.group) _ r.1));
}

pub permitted_counted : (c : Closed) (lists : List (List ℕ)) (many : ℕ) → IsClosed c → HasEachPermitted c lists →
    Permitted c (below (length c.group)) many → many ≤ length lists
permitted_counted c lists many i has f =
    let all : List ℕ = below (length c.group) in
    let h = pigeon_mapped (Differ all) (λ label. canonical label all) f.labellings lists (canonical_differ all) f.differ
    (each_map (Permits c all) (λ label. Among (canonical label all) lists) f.labellings (λ label p.
    among_contains lists (canonical label all)
    (has.each (canonical label all) (canonical_partition (length c.group) label) (canonical_permitted c i label p))) f.within) in
    let k = f.many_are in
    omega (arith, h, k)
