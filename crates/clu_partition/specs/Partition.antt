-- Partitions as lists of labels: vertex v has the label that stands at place v.
use Rattle.std.specs.Prelude.{◌≡◌, ◌↔◌, ℕ, ◌+◌, ◌<◌, ◌≤◌, Bool, List, [], ◌∷◌, count_by, filter, length, map, max, nat_eq, slice_index}
use Rattle.std.specs.List.{All, concat, range_with_len}

-- the numbers 0 to n - 1
abbrev pub below : ℕ → List ℕ
below n = range_with_len 0 n

-- each label stands before it or is the next new number, of which `next` is the first
abbrev pub IsNumberedFrom : ℕ → List ℕ → Type 0
IsNumberedFrom next [] = Unit {0}
IsNumberedFrom next (label ∷ labels) = (label ≤ next) × IsNumberedFrom (max next (label + 1)) labels

-- a partition of n vertices: a label for each, numbered from 0 by first appearance
pub record IsPartition (n : ℕ) (labels : List ℕ) : Type 0 where
  pub one_each : length labels ≡ n
  pub numbered : IsNumberedFrom 0 labels

-- two vertices share a block where their labels are equal
abbrev pub share_block : List ℕ → ℕ → ℕ → Bool
share_block labels u v = nat_eq (slice_index labels u) (slice_index labels v)

-- two lists of labels divide the vertices in the same way
abbrev pub SameBlocks : List ℕ → List ℕ → Type 0
SameBlocks labels others =
    (u v : ℕ) → u < length labels → v < length labels
    → (slice_index labels u ≡ slice_index labels v) ↔ (slice_index others u ≡ slice_index others v)

-- the number of blocks, which is 0 without vertices
abbrev pub block_count_of : List ℕ → ℕ
block_count_of [] = 0
block_count_of (label ∷ labels) = max (label + 1) (block_count_of labels)

-- the vertices of the block with this label, rising
abbrev pub block_of : List ℕ → ℕ → List ℕ
block_of labels block = filter (λ v. nat_eq (slice_index labels v) block) (below (length labels))

-- the blocks in the order of their labels
abbrev pub blocks_of : List ℕ → List (List ℕ)
blocks_of labels = map (block_of labels) (below (block_count_of labels))

-- what the type of partitions keeps: numbered labels, at most 1,000, and the number of their blocks
pub record IsCounted (labels : List ℕ) (count : ℕ) : Type 0 where
  pub small : length labels ≤ 1000
  pub numbered : IsNumberedFrom 0 labels
  pub count_is : count ≡ block_count_of labels

-- each of the vertices 0 to n - 1 stands in the blocks exactly once, and nothing else does
pub record EachOnce (n : ℕ) (blocks : List (List ℕ)) : Type 0 where
  pub once : (v : ℕ) → v < n → count_by (λ u. nat_eq u v) (concat blocks) ≡ 1
  pub only : All (λ v. v < n) (concat blocks)
