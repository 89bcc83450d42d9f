-- What bounds a node, and on which pair it would be split.
use Rattle.std.specs.Prelude.{◌≡◌, ◌⊎◌, ℕ, ◌≤◌, Option, Some, None, All, unsigned_abs}
use Rattle.clu_partition.specs.Closed.{Precedes}
use Rattle.clu_state.specs.State.{State, IsFree, free_pairs, group_weight}
use Rattle.clu_rows.specs.Faults.{AreRows, IsDenominator}
use Rattle.clu_rows.specs.Rows.{leaf_bound_of}
use Rattle.clu_node.specs.declared.bound.NodeBound.{NodeBound}

-- no two groups are free to share a block
abbrev pub NoneFree : State → Type 0
NoneFree s = (u v : ℕ) → IsFree s u v → ⊥

-- a free pair, and none only where there is none
abbrev pub HasPair : State → Option (ℕ × ℕ) → Type 0
HasPair s None = NoneFree s
HasPair s (Some pair) = IsFree s pair.0 pair.1

-- the leaf has the bound in the state, and the pair is free there
pub record IsBounded (s : State) (node : NodeBound) : Type 0 where
  pub den : IsDenominator node.leaf.den
  pub rows : AreRows s node.leaf.rows
  pub bound : node.bound ≡ leaf_bound_of s node.leaf.den node.leaf.rows
  pub pair : HasPair s node.pair

-- how far the weight of two groups is from 0
abbrev pub size_of : State → ℕ × ℕ → ℕ
size_of s pair = unsigned_abs (group_weight s pair.0 pair.1)

-- no free pair weighs more in size, and none of the same size comes before it
pub record IsHeaviest (s : State) (pair : ℕ × ℕ) : Type 0 where
  pub heaviest : All (λ other. size_of s other ≤ size_of s pair) (free_pairs s)
  pub first : All (λ other. size_of s other ≡ size_of s pair → (other ≡ pair) ⊎ Precedes pair other) (free_pairs s)
