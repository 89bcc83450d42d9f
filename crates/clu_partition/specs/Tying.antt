-- Groups while pairs are tied.
use Rattle.std.specs.Prelude.{◌≡◌, ℕ, ◌<◌, ◌≤◌, List, length, slice_index, slice_index_or}
use Rattle.clu_partition.specs.Ties.{Tied}

-- a pair by the least vertices of its groups
abbrev pub led : List ℕ → ℕ × ℕ → ℕ × ℕ
led group p = (slice_index group p.0, slice_index group p.1)

-- the groups that chains of the first k pairs tie
pub record AreTied (n : ℕ) (required : List (ℕ × ℕ)) (k : ℕ) (group : List ℕ) : Type 0 where
  pub size : length group ≡ n
  pub below : (v : ℕ) → v < n → slice_index group v ≤ v
  pub least : (v : ℕ) → v < n → slice_index group (slice_index group v) ≡ slice_index group v
  pub tied : (v : ℕ) → v < n → Tied required (slice_index group v) v
  pub joined : (j : ℕ) (d : ℕ × ℕ) → j < k → slice_index group (slice_index_or required j d).0 ≡ slice_index group (slice_index_or required j d).1

-- a pair of the list in one group, and none before it is
pub record IsFirstTied (group : List ℕ) (pairs : List (ℕ × ℕ)) (p : ℕ × ℕ) : Type 0 where
  pub place : ℕ
  pub within : place < length pairs
  pub there : (d : ℕ × ℕ) → slice_index_or pairs place d ≡ p
  pub same : slice_index group p.0 ≡ slice_index group p.1
  pub before : (j : ℕ) (d : ℕ × ℕ) → j < place → slice_index group (slice_index_or pairs j d).0 ≡ slice_index group (slice_index_or pairs j d).1 → ⊥
