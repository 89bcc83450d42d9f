-- A pair table before and after a write.
use Rattle.std.proofs.Common.{◌≡◌, ℕ, ℤ, pos, ◌+◌, ◌*◌, ◌/◌, ◌%◌, ◌^◌, ◌<◌, ◌≤◌, ◌≢◌, ⊎_elim, List, min, max, length, get_or, slice_set, unsigned_abs}
use Rattle.std.proofs.Common.{sym, ap, ◌∙◌, subst, arith, if◌then◌else◌, get_or-set_other}
use Rattle.std.proofs.lemmas.Bool.{eq-eqb, ne_eqb, cases_eq, cases_lt}
use Rattle.std.proofs.lemmas.Nat.{same_from_place, div_below, mod_below, div-add-mod'}
use Rattle.std.proofs.lemmas.List.Elements.{All-set, All-get_or}
use Rattle.std.proofs.lemmas.List.{same_lists, get_or_default}
use Rattle.clu_partition.specs.Grids.{cell_of, value_at, IsGrid}
use Rattle.clu_partition.specs.Pairs.{Pairs, weight_of, with_weight, IsTable}
use Rattle.clu_partition.proofs.GridLaws.{cell_below, value_sym, value_here, value_other, grid_set}

weight_differ : (t : Pairs) (u v : ℕ) → u ≢ v → weight_of t u v ≡ value_at t (pos 0) u v
weight_differ t u v n = ap (λ b. if b then pos 0 else value_at t (pos 0) u v) (ne_eqb u v n)

pub weight_same : (t : Pairs) (u v : ℕ) → u ≡ v → weight_of t u v ≡ pos 0
weight_same t u v e = ap (λ b. if b then pos 0 else value_at t (pos 0) u v) (eq-eqb u v e)

pub weight_sym : (t : Pairs) (u v : ℕ) → weight_of t u v ≡ weight_of t v u
weight_sym t u v = ⊎_elim
    (λ e. weight_same t u v e ∙ sym (weight_same t v u (sym e)))
    (λ n. weight_differ t u v n ∙ value_sym t (pos 0) u v ∙ sym (weight_differ t v u (λ e. n (sym e))))
    (cases_eq u v)

pub set_same : (t : Pairs) (u v : ℕ) (w : ℤ) → u < t.n → v < t.n → u ≢ v → IsGrid t → weight_of (with_weight t u v w) u v ≡ w
set_same t u v w p q n is = weight_differ (with_weight t u v w) u v n ∙ value_here t (pos 0) w u v is p q

pub set_other : (t : Pairs) (u v x y : ℕ) (w : ℤ) → u < t.n → v < t.n → x < t.n → y < t.n → ((min u v ≡ min x y) × (max u v ≡ max x y) → ⊥) → weight_of (with_weight t u v w) x y ≡ weight_of t x y
set_other t u v x y w p q r s n = ⊎_elim
    (λ e. weight_same (with_weight t u v w) x y e ∙ sym (weight_same t x y e))
    (λ d. weight_differ (with_weight t u v w) x y d ∙ value_other t (pos 0) w u v x y p q r s n ∙ sym (weight_differ t x y d))
    (cases_eq x y)

-- ---- cells of no pair
no_pair : (n u v x z : ℕ) → u < n → v < n → u ≢ v → z ≤ x → x < n → x * n + z ≢ cell_of n u v
no_pair n u v x z p q d r s e =
    let cell = same_from_place x z (min u v) (max u v) n (omega arith) (omega arith) e in
    let row = cell.0 in
    let column = cell.1 in
    d (omega (arith, row, column, r))

-- a write at a pair leaves the other cells as they are
pub unused_set : (n u v : ℕ) (weights : List ℤ) (w : ℤ) → u < n → v < n → u ≢ v
    → ((x z : ℕ) → z ≤ x → x < n → get_or weights (x * n + z) (pos 0) ≡ pos 0)
    → (x z : ℕ) → z ≤ x → x < n → get_or (slice_set weights (cell_of n u v) w) (x * n + z) (pos 0) ≡ pos 0
unused_set n u v weights w p q d h x z r s =
    let far = no_pair n u v x z p q d r s in
    rw get_or-set_other (h x z r s)

-- the table keeps what it promises
pub table_set : (t : Pairs) (u v : ℕ) (w : ℤ) → IsTable t → u < t.n → v < t.n → u ≢ v → unsigned_abs w ≤ 2 ^ 88 → IsTable (with_weight t u v w)
table_set t u v w kept p q d small = record {
  grid = grid_set t u v w kept.grid;
  small = All-set (λ w. unsigned_abs w ≤ 2 ^ 88) t.cells (cell_of t.n u v) w small kept.small;
  unused = unused_set t.n u v t.cells w p q d kept.unused;
}

-- no cell is past the limit
pub small_at : (t : Pairs) (u v : ℕ) → IsTable t → u < t.n → v < t.n → unsigned_abs (value_at t (pos 0) u v) ≤ 2 ^ 88
small_at t u v is p q =
    let b = cell_below t.n u v p q in
    let s = is.grid.square in
    All-get_or (λ w. unsigned_abs w ≤ 2 ^ 88) t.cells (cell_of t.n u v) (pos 0) (omega (arith, b, s)) is.small

-- ---- tables of equal weights
-- the cell of a pair in order
ordered_cell : (n x z : ℕ) → x < z → cell_of n x z ≡ x * n + z
ordered_cell n x z l =
    let low : min x z ≡ x = omega arith in
    let high : max x z ≡ z = omega arith in
    ap (λ k. k * n + max x z) low ∙ ap (λ k. x * n + k) high

-- the weight of a pair in order stands in its cell
weight_there : (t : Pairs) (x z : ℕ) → x < z → get_or t.cells (x * t.n + z) (pos 0) ≡ weight_of t x z
weight_there t x z l =
    ap (λ k. get_or t.cells k (pos 0)) (sym (ordered_cell t.n x z l)) ∙ sym (weight_differ t x z (λ e. omega (arith, e, l)))

at_row : (t u : Pairs) → IsTable t → IsTable u → t.n ≡ u.n
    → ((x z : ℕ) → x < z → z < t.n → weight_of t x z ≡ weight_of u x z)
    → (x z : ℕ) → x < t.n → z < t.n → get_or t.cells (x * t.n + z) (pos 0) ≡ get_or u.cells (x * t.n + z) (pos 0)
at_row t u kept other size same x z p q = ⊎_elim
    (λ l. weight_there t x z l ∙ same x z l q ∙ sym (weight_there u x z l) ∙ ap (λ n. get_or u.cells (x * n + z) (pos 0)) (sym size))
    (λ l. kept.unused x z l p ∙ sym (other.unused x z l (omega (arith, size, p))) ∙ ap (λ n. get_or u.cells (x * n + z) (pos 0)) (sym size))
    (cases_lt x z)

-- a table is determined by the weights of its pairs
pub same_tables : (t u : Pairs) → IsTable t → IsTable u → t.n ≡ u.n
    → ((x z : ℕ) → x < z → z < t.n → weight_of t x z ≡ weight_of u x z) → t ≡ u
same_tables t u kept other size same = together t.n u.n t.cells u.cells size
    (same_lists t.cells u.cells (kept.grid.square ∙ ap (λ n. n * n) size ∙ sym other.grid.square) at)
  where
    together : (m n : ℕ) (xs ys : List ℤ) → m ≡ n → xs ≡ ys
        → ◌≡◌ {A = Pairs} (record { n = m; cells = xs }) (record { n = n; cells = ys })
    together m n xs ys e f = λ i. record { n = e i; cells = f i }

    some : (k : ℕ) → k < length t.cells → 0 < t.n
    some k l = ⊎_elim (λ p. p) (λ e. absurd (none e)) (cases_lt 0 t.n)
      where
        none : t.n ≤ 0 → ⊥
        none e =
            let zero_rows : t.n ≡ 0 = omega arith in
            let nothing : t.n * t.n ≡ 0 = ap (λ n. n * n) zero_rows in
            let s = kept.grid.square in
            omega (arith, l, s, nothing)

    -- the place k is in row k / n
    at : (k : ℕ) (d : ℤ) → k < length t.cells → get_or t.cells k d ≡ get_or u.cells k d
    at k d l =
        let n = some k l in
        let s = kept.grid.square in
        let whole = div-add-mod' k t.n in
        let row = div_below k t.n t.n n (omega (arith, l, s)) in
        let cell = at_row t u kept other size same (k / t.n) (k % t.n) row (mod_below k t.n n) in
        let o = other.grid.square in
        let squares = ap (λ n. n * n) size in
        let within : k < length u.cells = omega (arith, l, s, o, squares) in
        get_or_default t.cells k d (pos 0) l
        ∙ subst (λ j. get_or t.cells j (pos 0) ≡ get_or u.cells j (pos 0)) whole cell
        ∙ get_or_default u.cells k (pos 0) d within
