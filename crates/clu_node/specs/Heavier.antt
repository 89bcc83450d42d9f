-- The heaviest one of the free pairs that have been visited.
use Rattle.std.specs.Prelude.{◌≡◌, ℕ, List, [], ◌∷◌, Option, Some, None, if◌then◌else◌, nat_lt}
use Rattle.clu_state.specs.State.{State}
use Rattle.clu_node.specs.Node.{size_of}

-- the size is that of the pair
abbrev pub IsSized : State → Option (ℕ × ℕ) → ℕ → Type 0
IsSized s None size = Unit {0}
IsSized s (Some pair) size = size ≡ size_of s pair

-- the second pair, where there is no first one or it weighs more in size
abbrev pub heavier : State → Option (ℕ × ℕ) → ℕ × ℕ → ℕ × ℕ
heavier s None pair = pair
heavier s (Some best) pair = if nat_lt (size_of s best) (size_of s pair) then pair else best

-- the heaviest one of these pairs and the best one before them
abbrev pub heaviest_of : State → Option (ℕ × ℕ) → List (ℕ × ℕ) → Option (ℕ × ℕ)
heaviest_of s best [] = best
heaviest_of s best (pair ∷ pairs) = heaviest_of s (Some (heavier s best pair)) pairs
