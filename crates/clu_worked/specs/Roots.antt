-- What a test knows of the tree that it grows.
use Rattle.std.specs.Prelude.{◌≡◌, ℕ, pos, List, []}
use Rattle.clu_partition.specs.Closed.{Closed}
use Rattle.clu_partition.specs.Pairs.{Pairs}
use Rattle.clu_state.specs.State.{undecided}
use Rattle.clu_tree.specs.Nodes.{Tree}

-- the root is a state of these members, and nodes are split where their bound is above 0
pub record GrowsFrom (pairs : Pairs) (start : Closed) (members : List ℕ) (t : Tree) : Type 0 where
  pub root : record t.root { decisions = [] } ≡ undecided pairs start members
  pub floor : t.floor ≡ pos 0
