-- Packings of triangles: what the rows leave of each pair's weight, and when no triangle is left to apply.
use Rattle.std.specs.Prelude.{◌≡◌, ◌≢◌, ◌⊎◌, ℕ, ℤ, pos, neg_ℤ, ◌-ℤ◌, ◌≤ℤ◌, ◌<◌, List, [], ◌∷◌, ◌++◌, true, false, Contains}
use Rattle.clu_partition.specs.Pairs.{weight_of}
use Rattle.clu_rows.specs.Rows.{TwoSet, priced, excess}
use Rattle.clu_state.specs.State.{State, leader, are_apart, group_weight}

-- what the rows leave of the weight of two groups
abbrev pub left_of : State → List TwoSet → ℕ → ℕ → ℤ
left_of s rows a b = group_weight s a b -ℤ priced (leader s) rows a b

-- the least vertices of three different groups
pub record Three (s : State) (a b c : ℕ) : Type 0 where
  pub first : Contains s.members a
  pub second : Contains s.members b
  pub third : Contains s.members c
  pub first_least : leader s a ≡ a
  pub second_least : leader s b ≡ b
  pub third_least : leader s c ≡ c
  pub one_two : a ≢ b
  pub one_three : a ≢ c
  pub two_three : b ≢ c

-- the rows leave at least y at the two pairs of the centre a, both free, and the third pair is apart or is left with -y or less
pub record CanApply (s : State) (rows : List TwoSet) (a b c y : ℕ) : Type 0 where
  pub first_free : are_apart s a b ≡ false
  pub second_free : are_apart s a c ≡ false
  pub first : pos y ≤ℤ left_of s rows a b
  pub second : pos y ≤ℤ left_of s rows a c
  pub third : (are_apart s b c ≡ true) ⊎ (left_of s rows b c ≤ℤ neg_ℤ (pos y))

abbrev pub triangle : ℕ → ℕ → ℕ → ℕ → TwoSet
triangle a b c y = record { s = a ∷ []; t = b ∷ c ∷ []; y = y }

-- triangles, each of which could be applied when those before it had been
pub data IsPacking (s : State) : List TwoSet → Type 0 where
  nothing : IsPacking s []
  one_more : {rows : List TwoSet} {a b c y : ℕ} → IsPacking s rows → Three s a b c → 0 < y → CanApply s rows a b c y → IsPacking s (rows ++ triangle a b c y ∷ [])

-- no triangle is left to apply
abbrev pub IsMaximal : State → List TwoSet → Type 0
IsMaximal s rows = (a b c : ℕ) → Three s a b c → CanApply s rows a b c 1 → ⊥

-- what the rows leave uncovered, over a denominator of 1
abbrev pub excess_of : State → List TwoSet → ℤ
excess_of s rows = excess (weight_of s.pairs) (leader s) (are_apart s) s.members 1 rows

-- working space: for how many vertices there is room
pub record Room : Type 0 where
  pub n : ℕ
