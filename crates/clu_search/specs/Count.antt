-- The partitions that closed rules permit, as a list, and how many they are.
use Rattle.std.specs.Prelude.{◌≢◌, ℕ, List, [], ◌∷◌, ◌++◌, Bool, not, ◌&&◌, ◌==◌, All, AllPairs, Contains, length, map, slice_index, filter, zero, suc}
use Rattle.std.specs.List.{list_all}
use Rattle.clu_partition.specs.Partition.{below, IsPartition}
use Rattle.clu_partition.specs.Closed.{Closed, IsPermitted}

-- the lists that begin with a label below `next`, each before each of the lists
abbrev pub begun_below : ℕ → List (List ℕ) → List (List ℕ)
begun_below zero lists = []
begun_below (suc label) lists = begun_below label lists ++ map (λ labels. label ∷ labels) lists

-- the label lists of n more vertices, where the labels below `next` are in use and new ones are numbered from there on, by
-- first appearance
abbrev pub label_lists : ℕ → ℕ → List (List ℕ)
label_lists zero next = [] ∷ []
label_lists (suc n) next = begun_below next (label_lists n next) ++ map (λ labels. next ∷ labels) (label_lists n (suc next))

-- whether each vertex shares the block of its group's least vertex, and no forbidden pair shares one
abbrev pub permits : Closed → (ℕ → ℕ) → Bool
permits c label =
    list_all (λ v. label (slice_index c.group v) == label v) (below (length c.group)) && list_all (λ p. not (label p.0 == label p.1)) c.forbidden

-- all partitions of n vertices
abbrev pub partitions : ℕ → List (List ℕ)
partitions n = label_lists n 0

-- those of these partitions that the rules permit
unfoldable pub permitted_of : Closed → List (List ℕ) → List (List ℕ)
permitted_of c lists = filter (λ labels. permits c (slice_index labels)) lists

-- all permitted partitions of the vertices
abbrev pub permitted : Closed → List (List ℕ)
permitted c = permitted_of c (partitions (length c.group))

-- how many there are
abbrev pub count : Closed → ℕ
count c = length (permitted c)

-- the list has each partition of the vertices that the rules permit, once, and nothing else
pub record HasEachPermitted (c : Closed) (lists : List (List ℕ)) : Type 0 where
  pub each : (labels : List ℕ) → IsPartition (length c.group) labels → IsPermitted c (slice_index labels) → Contains lists labels
  pub only : All (λ labels. IsPartition (length c.group) labels × IsPermitted c (slice_index labels)) lists
  pub once : AllPairs (λ labels others. labels ≢ others) lists
