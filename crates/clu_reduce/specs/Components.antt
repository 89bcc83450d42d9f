-- The parts that free pairs of positive weight connect, as labels.
use Rattle.std.specs.Prelude.{◌≡◌, ℕ, pos, ◌≤◌, ◌<ℤ◌, Contains}
use Rattle.clu_state.specs.State.{State, IsFree, leader, group_weight}

-- a chain leads from one member to another, of members that share a group or are of free groups with a weight above 0
pub data Linked (s : State) : ℕ → ℕ → Type 0 where
  grouped : {u v : ℕ} → Contains s.members u → Contains s.members v → leader s u ≡ leader s v → Linked s u v
  near : {u v : ℕ} → IsFree s u v → pos 0 <ℤ group_weight s u v → Linked s u v
  back : {u v : ℕ} → Linked s u v → Linked s v u
  chain : {u v w : ℕ} → Linked s u v → Linked s v w → Linked s u w

-- each member's label is a vertex that a chain leads to it from
abbrev pub AreLinked : State → (ℕ → ℕ) → Type 0
AreLinked s label = (v : ℕ) → Contains s.members v → Linked s (label v) v

-- members of one group, and those of free groups with a weight above 0, have one label
pub record AreStable (s : State) (label : ℕ → ℕ) : Type 0 where
  pub groups : (u v : ℕ) → Contains s.members u → Contains s.members v → leader s u ≡ leader s v → label u ≡ label v
  pub near : (u v : ℕ) → IsFree s u v → pos 0 <ℤ group_weight s u v → label u ≡ label v

-- the groups of u and v are free, and their weight is above 0
pub record Attract (s : State) (u v : ℕ) : Type 0 where
  pub free : IsFree s u v
  pub above : pos 0 <ℤ group_weight s u v

-- each label is the least vertex with it
pub record IsLeast (s : State) (label : ℕ → ℕ) : Type 0 where
  pub into : (v : ℕ) → Contains s.members v → Contains s.members (label v)
  pub idem : (v : ℕ) → Contains s.members v → label (label v) ≡ label v
  pub low : (v : ℕ) → Contains s.members v → label v ≤ v

-- labels on the way: chains give them, the least vertex of each label has itself for one, and a group has one label
pub record AreLabels (s : State) (label : ℕ → ℕ) : Type 0 where
  pub least : IsLeast s label
  pub linked : AreLinked s label
  pub whole : (u v : ℕ) → Contains s.members u → Contains s.members v → leader s u ≡ leader s v → label u ≡ label v

-- members with one label still have one
abbrev pub StayTogether : State → (ℕ → ℕ) → (ℕ → ℕ) → Type 0
StayTogether s old new = (u v : ℕ) → Contains s.members u → Contains s.members v → old u ≡ old v → new u ≡ new v
