-- The table of what is left, by the places of the groups, and what a step of the packing changes in it.
use Rattle.std.specs.Prelude.{◌≡◌, ◌≢◌, ◌⊎◌, ℕ, ◌+◌, ◌-◌, ◌<◌, ◌≤◌, ℤ, pos, ◌+ℤ◌, ◌-ℤ◌, ◌<ℤ◌, List, length, slice_index, take, drop, min, max, not, true, All, Contains}
use Rattle.clu_partition.specs.Sums.{only_if}
use Rattle.clu_rows.specs.Rows.{TwoSet}
use Rattle.clu_partition.specs.Pairs.{Pairs, weight_of}
use Rattle.clu_state.specs.State.{State, IsState, are_apart, group_leaders}
use Rattle.clu_rows.specs.Packing.{left_of, IsPacking}
use Rattle.clu_rows.specs.declared.near.NearLists.{NearLists}
use Rattle.clu_rows.specs.declared.packing.Packing.{Packing}

-- the groups, what the rows leave of each free pair of them, and 0 at each other pair; room beyond them isn't used
pub record IsLeftTable (s : State) (groups : List ℕ) (left : Pairs) (rows : List TwoSet) : Type 0 where
  pub state : IsState s
  pub groups_are : groups ≡ group_leaders s
  pub size : length groups ≤ left.n
  pub agrees : (x z : ℕ) → x < length groups → z < length groups → x ≢ z →
      weight_of left x z ≡ only_if (not (are_apart s (slice_index groups x) (slice_index groups z))) (left_of s rows (slice_index groups x) (slice_index groups z))
  pub packing : IsPacking s rows

-- the table and the rows of a packing agree
abbrev pub HasLeftTable : State → List ℕ → Packing → Type 0
HasLeftTable s groups packing = IsLeftTable s groups packing.left packing.rows

-- its table has as much room as before
abbrev pub SameRoom : Packing → Packing → Type 0
SameRoom old new = new.left.n ≡ old.left.n

abbrev pub SamePair : ℕ → ℕ → ℕ → ℕ → Type 0
SamePair a b x z = (min a b ≡ min x z) × (max a b ≡ max x z)

-- y less at the two pairs of a, d more at the third, all else as it was
pub record Changed (old new : Pairs) (a b c : ℕ) (y d : ℤ) : Type 0 where
  pub size : new.n ≡ old.n
  pub first : weight_of new a b ≡ weight_of old a b -ℤ y
  pub second : weight_of new a c ≡ weight_of old a c -ℤ y
  pub third : weight_of new b c ≡ weight_of old b c +ℤ d
  pub others : (x z : ℕ) → x < old.n → z < old.n → (SamePair a b x z → ⊥) → (SamePair a c x z → ⊥) → (SamePair b c x z → ⊥) → weight_of new x z ≡ weight_of old x z

-- no number has passed 0 or left it
abbrev pub NearerZero : Pairs → Pairs → Type 0
NearerZero old new = (x z : ℕ) → x < old.n → z < old.n → (pos 0 <ℤ weight_of new x z → pos 0 <ℤ weight_of old x z) × (weight_of new x z <ℤ pos 0 → weight_of old x z <ℤ pos 0)

-- a packing still, in which no number has passed 0 or left it
pub record KeepsPacking (s : State) (groups : List ℕ) (old new : Packing) : Type 0 where
  pub packed : HasLeftTable s groups new
  pub nearer : NearerZero old.left new.left

-- no triangle with the centre at place a and the others at b and c is left
abbrev pub Stuck : State → List ℕ → Pairs → ℕ → ℕ → ℕ → Type 0
Stuck s groups left a b c = pos 0 <ℤ weight_of left a b → pos 0 <ℤ weight_of left a c →
    (are_apart s (slice_index groups b) (slice_index groups c) ≡ true) ⊎ (weight_of left b c <ℤ pos 0) → ⊥

-- none with any of the three as its centre
pub record AllStuck (s : State) (groups : List ℕ) (left : Pairs) (a b c : ℕ) : Type 0 where
  pub at_first : Stuck s groups left a b c
  pub at_second : Stuck s groups left b a c
  pub at_third : Stuck s groups left c a b

-- the groups at places a and b are neither apart nor left with less than 0
abbrev pub Allied : State → List ℕ → Pairs → ℕ → ℕ → Type 0
Allied s groups left a b = (are_apart s (slice_index groups a) (slice_index groups b) ≡ true) ⊎ (weight_of left a b <ℤ pos 0) → ⊥

-- places after i, among them each that is left with more than 0 at i
pub record AreNear (left : Pairs) (count i : ℕ) (near : List ℕ) : Type 0 where
  pub within : All (λ z. (i < z) × (z < count)) near
  pub all : (z : ℕ) → i < z → z < count → pos 0 <ℤ weight_of left i z → Contains near z

-- the list of a place
abbrev pub near_at : NearLists → ℕ → List ℕ
near_at near i =
    take (slice_index near.bounds.items (i + 1) - slice_index near.bounds.items i) (drop (slice_index near.bounds.items i) near.places.items)

-- where it begins and ends
pub record HasList (near : NearLists) (i : ℕ) : Type 0 where
  pub bounded : i + 1 < length near.bounds.items
  pub rising : slice_index near.bounds.items i ≤ slice_index near.bounds.items (i + 1)
  pub within : slice_index near.bounds.items (i + 1) ≤ length near.places.items

-- such lists for the first k places, and no more
pub record AreNearBelow (left : Pairs) (count k : ℕ) (near : NearLists) : Type 0 where
  pub size : length near.bounds.items ≡ k + 1
  pub end : slice_index near.bounds.items k ≡ length near.places.items
  pub has : (i : ℕ) → i < k → HasList near i
  pub each : (i : ℕ) → i < k → AreNear left count i (near_at near i)

-- one for each place
abbrev pub AreAllNear : Pairs → ℕ → NearLists → Type 0
AreAllNear left count near = AreNearBelow left count count near
