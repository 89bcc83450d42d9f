-- A square of cells: one for each pair of n places in either order, of which the two may be one.
use Rattle.std.specs.Prelude.{◌≡◌, ℕ, ◌+◌, ◌*◌, ◌≤◌, min, max, List, length, slice_index_or, slice_set}

pub record Grid (A : Type 0) : Type 0 where
  pub n : ℕ
  pub cells : List A

-- where the cell of p and q stands, on or above the diagonal
abbrev pub cell_of : ℕ → ℕ → ℕ → ℕ
cell_of n p q = min p q * n + max p q

-- what stands in the cell of p and q, in either order; outside of the grid another value
abbrev pub value_at : {A : Type 0} → Grid A → A → ℕ → ℕ → A
value_at g other p q = slice_index_or g.cells (cell_of g.n p q) other

-- the grid with the value of p and q given anew
abbrev pub with_value : {A : Type 0} → Grid A → ℕ → ℕ → A → Grid A
with_value g p q value = record { n = g.n; cells = slice_set g.cells (cell_of g.n p q) value }

-- a cell for each pair of places
pub record IsGrid {A : Type 0} (g : Grid A) : Type 0 where
  pub small : g.n ≤ 1000
  pub square : length g.cells ≡ g.n * g.n
