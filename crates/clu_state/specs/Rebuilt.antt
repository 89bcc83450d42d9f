-- What the tables of a `Rebuilt` keep.
use Rattle.std.specs.Prelude.{◌≡◌, ◌≢◌, ℕ, ◌<◌, ◌≤◌, ℤ, List, length, slice_index, Contains}
use Rattle.clu_partition.specs.Pairs.{Pairs, weight_of}
use Rattle.clu_partition.specs.Groups as groups
use Rattle.clu_partition.specs.PairSets.{Chosen, has}
use Rattle.clu_state.specs.State.{State, IsState, leader, are_apart, fixed_value}

-- a member that is the least of its group
pub record Leads (s : State) (a : ℕ) : Type 0 where
  pub member : Contains s.members a
  pub least : leader s a ≡ a

-- the place among the members at which the least vertex of the group of v stands
pub record IsGroupPlace (s : State) (v p : ℕ) : Type 0 where
  pub within : p < length s.members
  pub there : slice_index s.members p ≡ leader s v

-- The tables agree with a state: the group of each vertex, the place of each member, the weights between groups and the
-- marks of those that are apart, both by the places of the groups' least vertices, and the weight inside groups.
pub record TablesAgree (s : State) (group place : List ℕ) (weights : Pairs) (apart : Chosen) (fixed : ℤ) : Type 0 where
  pub state : IsState s
  pub few : length s.members ≤ 1000
  pub group_size : length group ≡ length s.start.group
  pub leaders : (v : ℕ) → v < length s.start.group → slice_index group v ≡ leader s v
  pub place_size : length place ≡ length s.start.group
  pub places : (i : ℕ) → i < length s.members → slice_index place (slice_index s.members i) ≡ i
  pub table_size : weights.n ≡ length s.members
  pub contracted : (a b : ℕ) → Leads s a → Leads s b → a ≢ b → weight_of weights (slice_index place a) (slice_index place b) ≡ groups.between (weight_of s.pairs) (leader s) s.members a b
  pub marks_size : apart.n ≡ length s.members
  pub separated : (a b : ℕ) → Leads s a → Leads s b → a ≢ b → has apart (slice_index place a) (slice_index place b) ≡ are_apart s a b
  pub inside : fixed ≡ fixed_value s
