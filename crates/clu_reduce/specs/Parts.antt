-- Divisions of the members into parts.
use Rattle.std.specs.Prelude.{◌≡◌, ◌⊎◌, ℕ, ◌<◌, pos, ◌≤ℤ◌, List, [], ◌∷◌, ◌++◌, Bool, true, false, ◌==◌, ◌||◌, All, Contains, length, slice_index, map}
use Rattle.clu_partition.specs.Sums.{total}
use Rattle.clu_partition.specs.Pairs.{weight_of}
use Rattle.clu_partition.specs.Values.{value_on}
use Rattle.clu_state.specs.State.{State, InClass, leader, are_apart, group_weight}
use Rattle.clu_reduce.specs.Components.{Linked}

abbrev pub Rises : List ℕ → Type 0
Rises part = (i j : ℕ) → i < j → j < length part → slice_index part i < slice_index part j

abbrev pub IsOutside : List ℕ → ℕ → Type 0
IsOutside part v = Contains part v → ⊥

-- The part is nonempty and rising, has members alone and none of an earlier part, divides no group, and has no free pair of
-- positive weight to a group outside it.
pub record IsPart (s : State) (earlier : List (List ℕ)) (part : List ℕ) : Type 0 where
  pub nonempty : 0 < length part
  pub rising : Rises part
  pub members : All (Contains s.members) part
  pub new : All (λ other. All (IsOutside other) part) earlier
  pub undivided : (u v : ℕ) → Contains part u → Contains s.members v → leader s u ≡ leader s v → Contains part v
  pub settled : (u v : ℕ) → Contains part u → Contains s.members v → IsOutside part v
      → (are_apart s u v ≡ true) ⊎ (group_weight s u v ≤ℤ pos 0)

-- each is a part beside those before it
abbrev pub AllParts : State → List (List ℕ) → List (List ℕ) → Type 0
AllParts s earlier [] = Unit {0}
AllParts s earlier (part ∷ parts) = IsPart s earlier part × AllParts s (earlier ++ part ∷ []) parts

-- each member is in a part
abbrev pub Cover : State → List (List ℕ) → Type 0
Cover s parts = All (λ v. (part : List ℕ) × Contains parts part × Contains part v) s.members

abbrev pub is_in : List ℕ → ℕ → Bool
is_in [] v = false
is_in (u ∷ part) v = u == v || is_in part v

-- free pairs of positive weight between groups lead from each vertex of the part to each other one
abbrev pub IsConnected : State → List ℕ → Type 0
IsConnected s part = (u v : ℕ) → Contains part u → Contains part v → Linked s u v

-- the least vertices of the parts rise
abbrev pub PartsRise : List (List ℕ) → Type 0
PartsRise parts = Rises (map (λ part. slice_index part 0) parts)

-- no partition of the class is worth more than it is within the parts together
abbrev pub BoundsParts : State → List (List ℕ) → Type 0
BoundsParts s parts = (label : ℕ → ℕ) → InClass s label
    → value_on (weight_of s.pairs) label s.members ≤ℤ total (λ part. value_on (weight_of s.pairs) label part) parts

-- what a division into parts keeps, and how it stands
pub record AreParts (s : State) (parts : List (List ℕ)) : Type 0 where
  pub each : AllParts s [] parts
  pub cover : Cover s parts
  pub connected : All (IsConnected s) parts
  pub order : PartsRise parts
  pub bound : BoundsParts s parts
