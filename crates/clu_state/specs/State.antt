-- A state: the weights, the closed rules, the members and the decisions on them; its groups, their weights and the free pairs.
use Rattle.std.specs.Prelude.{◌≡◌, ◌≢◌, ℕ, ◌<◌, ◌≤◌, ◌^◌, ℤ, pos, ◌≤ℤ◌, List, [], ◌∷◌, ◌++◌, Bool, false, length, slice_index, All, Contains, if◌then◌else◌}
use Rattle.clu_partition.specs.Pairs.{Pairs, weight_of, total_of}
use Rattle.clu_partition.specs.Closed.{Closed, IsClosed, joins}
use Rattle.clu_partition.specs.Values.{value_on}
use Rattle.clu_partition.specs.Groups as groups
pub use Rattle.clu_partition.specs.Groups.{merged}
use Rattle.clu_state.specs.declared.decision.Decision.{Decision}
use Rattle.clu_state.specs.declared.decision.Decision.TheVariants.{Together, Apart}

pub record State : Type 0 where
  pub pairs : Pairs
  pub start : Closed
  pub members : List ℕ
  pub decisions : List Decision

-- ---- the groups
abbrev pub step_group : (ℕ → ℕ) → Decision → ℕ → ℕ
step_group group (Together u v) = merged group u v
step_group group (Apart u v) = group

abbrev pub groups_after : (ℕ → ℕ) → List Decision → ℕ → ℕ
groups_after group [] = group
groups_after group (d ∷ ds) = groups_after (step_group group d) ds

-- the least vertex of the group of v
abbrev pub leader : State → ℕ → ℕ
leader s = groups_after (slice_index s.start.group) s.decisions

abbrev pub apart_decisions : List Decision → List (ℕ × ℕ)
apart_decisions [] = []
apart_decisions (Together u v ∷ ds) = apart_decisions ds
apart_decisions (Apart u v ∷ ds) = (u, v) ∷ apart_decisions ds

-- the pairs that are kept apart, by the rules or by a decision
abbrev pub kept_apart : State → List (ℕ × ℕ)
kept_apart s = s.start.forbidden ++ apart_decisions s.decisions

abbrev pub are_apart : State → ℕ → ℕ → Bool
are_apart s u v = joins (leader s) (kept_apart s) u v

-- the weight of the groups of u and v
abbrev pub group_weight : State → ℕ → ℕ → ℤ
group_weight s u v = groups.between (weight_of s.pairs) (leader s) s.members (leader s u) (leader s v)

-- the weight inside the groups
abbrev pub fixed_value : State → ℤ
fixed_value s = value_on (weight_of s.pairs) (leader s) s.members

abbrev pub group_leaders : State → List ℕ
group_leaders s = groups.leaders (leader s) s.members

-- two members of different groups that are not apart
pub record IsFree (s : State) (u v : ℕ) : Type 0 where
  pub first : Contains s.members u
  pub second : Contains s.members v
  pub differ : leader s u ≢ leader s v
  pub allowed : are_apart s u v ≡ false

-- a member, and members of other groups
pub record AreLater (s : State) (a : ℕ) (later : List ℕ) : Type 0 where
  pub member : Contains s.members a
  pub members : All (Contains s.members) later
  pub differ : All (λ b. leader s a ≢ leader s b) later

abbrev pub free_with : State → ℕ → List ℕ → List (ℕ × ℕ)
free_with s a [] = []
free_with s a (b ∷ bs) = if are_apart s a b then free_with s a bs else (a, b) ∷ free_with s a bs

abbrev pub free_of : State → List ℕ → List (ℕ × ℕ)
free_of s [] = []
free_of s (a ∷ as') = free_with s a as' ++ free_of s as'

-- the free pairs of groups, by their least vertices
abbrev pub free_pairs : State → List (ℕ × ℕ)
free_pairs s = free_of s (group_leaders s)

-- ---- decisions
abbrev pub decided : State → Decision → State
decided s d = record s { decisions = s.decisions ++ d ∷ [] }

abbrev pub CanDecide : State → Decision → Type 0
CanDecide s (Together u v) = IsFree s u v
CanDecide s (Apart u v) = IsFree s u v

abbrev pub CanDecideAll : State → List Decision → Type 0
CanDecideAll s [] = Unit {0}
CanDecideAll s (d ∷ ds) = CanDecide s d × CanDecideAll (decided s d) ds

-- the members rise and hold each group of the rules whole
pub record AreMembers (start : Closed) (members : List ℕ) : Type 0 where
  pub rising : (i j : ℕ) → i < j → j < length members → slice_index members i < slice_index members j
  pub below : All (λ v. v < length start.group) members
  pub whole : All (λ v. Contains members (slice_index start.group v)) members
  pub closed : (v : ℕ) → v < length start.group → Contains members (slice_index start.group v) → Contains members v

pub record IsState (s : State) : Type 0 where
  pub one_size : s.pairs.n ≡ length s.start.group
  pub small : s.pairs.n ≤ 1000
  pub total : total_of s.pairs ≤ℤ pos (2 ^ 88)
  pub closed : IsClosed s.start
  pub members : AreMembers s.start s.members
  pub made : CanDecideAll (record s { decisions = [] }) s.decisions

-- ---- the class
abbrev pub ObeysDecision : (ℕ → ℕ) → Decision → Type 0
ObeysDecision label (Together u v) = label u ≡ label v
ObeysDecision label (Apart u v) = label u ≢ label v

-- a partition of the members that obeys the rules among them and each decision
pub record InClass (s : State) (label : ℕ → ℕ) : Type 0 where
  pub required : All (λ v. label (slice_index s.start.group v) ≡ label v) s.members
  pub forbidden : All (λ p. Contains s.members p.0 → Contains s.members p.1 → label p.0 ≢ label p.1) s.start.forbidden
  pub decisions : All (ObeysDecision label) s.decisions

-- the state without decisions
abbrev pub undecided : Pairs → Closed → List ℕ → State
undecided pairs start members = record { pairs = pairs; start = start; members = members; decisions = [] }
