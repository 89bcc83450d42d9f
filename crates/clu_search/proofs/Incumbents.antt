-- Labels that are numbered anew: the rules permit the same partition, and it is worth as much.
use Rattle.std.proofs.Common.{◌≡◌, ℕ, ℤ, ◌<◌, ◌≤◌, ◌==◌, ⊎_elim, List, length, map, slice_index, sym, ◌∙◌, ap, subst, arith}
use Rattle.std.proofs.lemmas.Bool.{cases_eq, eq-eqb, ne_eqb}
use Rattle.std.proofs.lemmas.List.{get_or-map, length-map}
use Rattle.clu_partition.specs.Closed.{Closed, IsClosed, IsPermitted}
use Rattle.clu_partition.specs.Pairs.{Pairs, weight_of}
use Rattle.clu_partition.specs.Partition.{below, IsPartition, SameBlocks}
use Rattle.clu_partition.specs.Sums.{only_if}
use Rattle.clu_partition.specs.Values.{value_on}
use Rattle.clu_partition.proofs.ClosedLaws.{own_permitted}
use Rattle.clu_partition.proofs.SumLaws.{pair_cong_on}
use Rattle.clu_partition.proofs.Ranges.{below_at, below_size, each_below}
use Rattle.clu_state.specs.State.{State, IsState, leader, fixed_value}
use Rattle.clu_state.proofs.Built.{few_members}
use Rattle.clu_search.specs.Incumbent.{IsIncumbent}
use Rattle.clu_search.specs.declared.incumbent.Incumbent.{Incumbent}
use Rattle.clu_state.proofs.Own.{own_class, own_permitted_all}

same_test : (a b x y : ℕ) (z : ℤ) → (a ≡ b → x ≡ y) → (x ≡ y → a ≡ b) → only_if (x == y) z ≡ only_if (a == b) z
same_test a b x y z to from = ⊎_elim
    (λ e. ap (λ t. only_if t z) (eq-eqb x y (to e) ∙ sym (eq-eqb a b e)))
    (λ d. ap (λ t. only_if t z) (ne_eqb x y (λ e. d (from e)) ∙ sym (ne_eqb a b d)))
    (cases_eq a b)

-- the n labels of a labelling, and others with the same blocks
pub record Renamed (n : ℕ) (label : ℕ → ℕ) (labels others : List ℕ) : Type 0 where
  pub size : length labels ≡ n
  pub labels_are : (v : ℕ) → v < n → slice_index labels v ≡ label v
  pub same : SameBlocks labels others

shared : (n : ℕ) (label : ℕ → ℕ) (labels others : List ℕ) → Renamed n label labels others → (u v : ℕ) → u < n → v < n → label u ≡ label v →
    slice_index others u ≡ slice_index others v
shared n label labels others r u v l m e =
    let s = r.size in
    (r.same u v (omega (arith, s, l)) (omega (arith, s, m))).0 (r.labels_are u l ∙ e ∙ sym (r.labels_are v m))

parted : (n : ℕ) (label : ℕ → ℕ) (labels others : List ℕ) → Renamed n label labels others → (u v : ℕ) → u < n → v < n →
    slice_index others u ≡ slice_index others v → label u ≡ label v
parted n label labels others r u v l m e =
    let s = r.size in
    sym (r.labels_are u l) ∙ (r.same u v (omega (arith, s, l)) (omega (arith, s, m))).1 e ∙ r.labels_are v m

renamed_value : (weight : ℕ → ℕ → ℤ) (n : ℕ) (label : ℕ → ℕ) (labels others : List ℕ) → Renamed n label labels others →
    value_on weight (slice_index others) (below n) ≡ value_on weight label (below n)
renamed_value weight n label labels others r =
    pair_cong_on (λ u v. only_if (slice_index others u == slice_index others v) (weight u v)) (λ u v. only_if (label u == label v) (weight u v))
    (λ v. v < n) (below n) (each_below n)
    (λ u v l m. same_test (label u) (label v) (slice_index others u) (slice_index others v) (weight u v)
    (shared n label labels others r u v l m) (parted n label labels others r u v l m))

renamed_permitted : (c : Closed) (label : ℕ → ℕ) (labels others : List ℕ) → IsClosed c → Renamed (length c.group) label labels others →
    IsPermitted c label → IsPermitted c (slice_index others)
renamed_permitted c label labels others closed r p = record {
  required = λ v l.
      let below = closed.below v l in
      shared (length c.group) label labels others r (slice_index c.group v) v (omega (arith, below, l)) l (p.required v l);
  forbidden = λ k d l e.
      let in_range = closed.in_range k d l in
      p.forbidden k d l (parted (length c.group) label labels others r _ _ in_range.0 in_range.1 e);
}

-- the groups of the rules
pub first_best : (pairs : Pairs) (start : Closed) (labels : List ℕ) (best : Incumbent) → IsClosed start → length start.group ≡ pairs.n →
    labels ≡ start.group → IsPartition (length labels) best.partition → SameBlocks labels best.partition →
    best.value ≡ value_on (weight_of pairs) (slice_index best.partition) (below pairs.n) → IsIncumbent pairs start best
first_best pairs start labels best closed size are partition same value = record {
  partition = subst (λ n. IsPartition n best.partition) (ap length are ∙ size) partition;
  permitted = renamed_permitted start (slice_index start.group) labels best.partition closed renamed (own_permitted start closed);
  value = value;
}
  where
    renamed : Renamed (length start.group) (slice_index start.group) labels best.partition
    renamed = record { size = ap length are; labels_are = λ v _. ap (λ (ls : List ℕ). slice_index ls v) are; same = same }

-- the groups of a state of all vertices
pub groups_best : (s : State) (labels : List ℕ) (best : Incumbent) → IsState s → s.members ≡ below s.pairs.n →
    labels ≡ map (leader s) s.members → IsPartition (length labels) best.partition → SameBlocks labels best.partition →
    best.value ≡ fixed_value s → IsIncumbent s.pairs s.start best
groups_best s labels best i all are partition same value = record {
  partition = subst (λ n. IsPartition n best.partition) size partition;
  permitted = renamed_permitted s.start (leader s) labels best.partition i.closed
      (subst (λ n. Renamed n (leader s) labels best.partition) i.one_size renamed)
      (own_permitted_all s s.pairs.n (leader s) i all i.one_size (own_class s i));
  value = value ∙ ap (value_on (weight_of s.pairs) (leader s)) all
      ∙ sym (renamed_value (weight_of s.pairs) s.pairs.n (leader s) labels best.partition renamed);
}
  where
    labels_all : labels ≡ map (leader s) (below s.pairs.n)
    labels_all = are ∙ ap (map (leader s)) all

    size : length labels ≡ s.pairs.n
    size = ap length labels_all ∙ length-map (below s.pairs.n) (leader s) ∙ below_size s.pairs.n

    renamed : Renamed s.pairs.n (leader s) labels best.partition
    renamed = record {
      size = size;
      labels_are = λ v l.
          let n = below_size s.pairs.n in
          ap (λ (ls : List ℕ). slice_index ls v) labels_all
          ∙ get_or-map (leader s) (below s.pairs.n) v 0 0 (omega (arith, n, l)) ∙ ap (leader s) (below_at s.pairs.n v 0 l);
      same = same;
    }

-- a label for each member of a state
pub few_labels : (s : State) (labels : List ℕ) → IsState s → labels ≡ map (leader s) s.members → length labels ≤ 1000
few_labels s labels i are =
    let size = ap length are ∙ length-map s.members (leader s) in
    let few = few_members s.start s.members i.members in
    let one_size = i.one_size in
    let small = i.small in
    omega (arith, size, few, one_size, small)
