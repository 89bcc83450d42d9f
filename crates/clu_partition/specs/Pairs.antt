-- A table of pair weights: one signed number for each pair of two of n vertices.
use Rattle.std.specs.Prelude.{◌≡◌, ℕ, ℤ, pos, ◌+◌, ◌*◌, ◌<◌, ◌≤◌, ◌^◌, Bool, slice_index_or, if◌then◌else◌, ◌==◌, ◌&&◌, ◌||◌, unsigned_abs, All}
use Rattle.clu_partition.specs.Grids.{Grid, value_at, with_value, IsGrid}
use Rattle.clu_partition.specs.Partition.{below}
use Rattle.clu_partition.specs.Sums.{pair_total}

abbrev pub Pairs : Type 0
Pairs = Grid ℤ

-- whether a and b are x and z, in either order
abbrev pub are_pair : ℕ → ℕ → ℕ → ℕ → Bool
are_pair a b x z = (a == x && b == z) || (a == z && b == x)

-- the weight of u and v, in either order; 0 where they are one
abbrev pub weight_of : Pairs → ℕ → ℕ → ℤ
weight_of t u v = if u == v then pos 0 else value_at t (pos 0) u v

-- the table with the weight of u and v given anew
abbrev pub with_weight : Pairs → ℕ → ℕ → ℤ → Pairs
with_weight t u v w = with_value t u v w

-- the total of the absolute weights
abbrev pub total_of : Pairs → ℤ
total_of t = pair_total (λ u v. pos (unsigned_abs (weight_of t u v))) (below t.n)

-- no weight past 2 ^ 88, and 0 in the cells of no pair, on the diagonal and below it
pub record IsTable (t : Pairs) : Type 0 where
  pub grid : IsGrid t
  pub small : All (λ w. unsigned_abs w ≤ 2 ^ 88) t.cells
  pub unused : (x z : ℕ) → z ≤ x → x < t.n → slice_index_or t.cells (x * t.n + z) (pos 0) ≡ pos 0
