-- The set of the pairs that are adjacent, beside the list of the edges.
use Rattle.std.specs.Prelude.{◌≡◌, ℕ, ◌<◌, List}
use Rattle.clu_partition.specs.PairSets.{Chosen, has}
use Rattle.clu_pace.specs.Graph.{are_adjacent, AreWithin, NoneTwice}

-- the set has exactly the edges
pub record IsAdjacency (edges : List (ℕ × ℕ)) (set : Chosen) : Type 0 where
  pub within : AreWithin set.n edges
  pub once : NoneTwice edges
  pub each : (u v : ℕ) → u < set.n → v < set.n → has set u v ≡ are_adjacent edges u v
