-- Rows in flat storage: one list of the vertices of all rows and, of each row, where its two sets end.
use Rattle.std.specs.Prelude.{◌≡◌, ◌≤◌, ℕ, zero, suc, List, [], ◌∷◌, slice_range}
use Rattle.clu_rows.specs.Rows.{TwoSet}
use Rattle.clu_rows.specs.declared.rows.RowEnd.{RowEnd}

-- the rows, of which the first begins at a place of the list
abbrev pub rows_from : List ℕ → ℕ → List RowEnd → List TwoSet
rows_from vertices start [] = []
rows_from vertices start (e ∷ es) = record { s = slice_range vertices start e.middle; t = slice_range vertices e.middle e.end; y = e.y } ∷ rows_from vertices e.end es

-- the ends rise from a place of a list up to its length
abbrev pub AreRowEnds : ℕ → ℕ → List RowEnd → Type 0
AreRowEnds start size [] = start ≡ size
AreRowEnds start size (e ∷ es) = (start ≤ e.middle) × (e.middle ≤ e.end) × AreRowEnds e.end size es

-- where the row at a place begins
abbrev pub start_at : ℕ → List RowEnd → ℕ → ℕ
start_at start es zero = start
start_at start [] (suc i) = start
start_at start (e ∷ es) (suc i) = start_at e.end es i
