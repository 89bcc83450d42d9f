-- The table of prices in the code's words: what is added to it, and what it leaves uncovered.
use Rattle.std.specs.Prelude.{ℕ, ℤ, pos, ◌+ℤ◌, ◌-ℤ◌, ◌*ℤ◌, List, [], ◌∷◌, not, ◌==◌}
use Rattle.clu_partition.specs.Sums.{only_if, positive, total}
use Rattle.clu_partition.specs.Pairs.{Pairs, weight_of, are_pair}
use Rattle.clu_state.specs.State.{State, leader, are_apart, group_weight}

-- k, where the groups of two vertices are x and z
abbrev pub hit : (ℕ → ℕ) → ℕ → ℕ → ℤ → ℕ → ℕ → ℤ
hit group x z k v w = only_if (are_pair (group v) (group w) x z) k

-- what the prices leave uncovered of the weight of a and b, times den, where these lead two groups that are free
abbrev pub uncovered : State → ℕ → Pairs → ℕ → ℕ → ℤ
uncovered s den prices a b = only_if (leader s b == b) (only_if (not (are_apart s a b)) (pos (positive (pos den *ℤ group_weight s a b -ℤ weight_of prices a b))))

-- the same for a with each of those after it, where a leads its group
abbrev pub uncovered_with : State → ℕ → Pairs → ℕ → List ℕ → ℤ
uncovered_with s den prices a later = only_if (leader s a == a) (total (uncovered s den prices a) later)

-- the same for each two of a list
abbrev pub uncovered_all : State → ℕ → Pairs → List ℕ → ℤ
uncovered_all s den prices [] = pos 0
uncovered_all s den prices (a ∷ later) = uncovered_with s den prices a later +ℤ uncovered_all s den prices later
