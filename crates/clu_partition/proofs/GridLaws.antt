-- Cells of a grid, before and after a write.
use Rattle.std.proofs.Common.{◌≡◌, ◌≢◌, ℕ, ◌+◌, ◌*◌, ◌/◌, ◌<◌, min, max, get_or, sym, ap, ◌∙◌, arith, get_or-set_same, get_or-set_other, length-set}
use Rattle.std.proofs.lemmas.Nat.{div-mul-add, mul-add-lt}
use Rattle.clu_partition.specs.Grids.{Grid, cell_of, value_at, with_value, IsGrid}

-- ---- where a cell stands
pub cell_sym : (n p q : ℕ) → cell_of n p q ≡ cell_of n q p
cell_sym n p q = let a : min p q ≡ min q p = omega arith in let b : max p q ≡ max q p = omega arith in ap (λ k. k * n + max p q) a ∙ ap (λ k. min q p * n + k) b

pub cell_below : (n p q : ℕ) → p < n → q < n → cell_of n p q < n * n
cell_below n p q l m = let a : min p q < n = omega arith in let b : max p q < n = omega arith in omega (arith, mul-add-lt (min p q) n (max p q) n a b)

-- two pairs with one cell are one pair
pub cell_once : (n p q x y : ℕ) → q < n → p < n → x < n → y < n → cell_of n p q ≡ cell_of n x y → (min p q ≡ min x y) × (max p q ≡ max x y)
cell_once n p q x y l m r s e =
    let a : max p q < n = omega arith in
    let b : max x y < n = omega arith in
    let c : min p q ≡ min x y = sym (div-mul-add (min p q) n (max p q) a) ∙ ap (λ k. k / n) e ∙ div-mul-add (min x y) n (max x y) b in
    let d = ap (λ k. k * n) c in
    (c, omega (arith, d, e))

-- ---- what stands in it
pub value_sym : {A : Type 0} (g : Grid A) (other : A) (p q : ℕ) → value_at g other p q ≡ value_at g other q p
value_sym g other p q = ap (λ k. get_or g.cells k other) (cell_sym g.n p q)

pub value_here : {A : Type 0} (g : Grid A) (other value : A) (p q : ℕ) → IsGrid g → p < g.n → q < g.n → value_at (with_value g p q value) other p q ≡ value
value_here g other value p q is l m =
    let b = cell_below g.n p q l m in
    let s = is.square in
    get_or-set_same g.cells (cell_of g.n p q) value other (omega (arith, b, s))

-- the cell of another pair
pub value_apart : {A : Type 0} (g : Grid A) (other value : A) (p q x y : ℕ) → cell_of g.n x y ≢ cell_of g.n p q
    → value_at (with_value g p q value) other x y ≡ value_at g other x y
value_apart g other value p q x y far = get_or-set_other g.cells (cell_of g.n p q) (cell_of g.n x y) value other far

pub value_other : {A : Type 0} (g : Grid A) (other value : A) (p q x y : ℕ) → p < g.n → q < g.n → x < g.n → y < g.n → ((min p q ≡ min x y) × (max p q ≡ max x y) → ⊥)
    → value_at (with_value g p q value) other x y ≡ value_at g other x y
value_other g other value p q x y l m r s differ = value_apart g other value p q x y (λ e. differ (cell_once g.n p q x y m l r s (sym e)))

-- a write leaves it a grid
pub grid_set : {A : Type 0} (g : Grid A) (p q : ℕ) (value : A) → IsGrid g → IsGrid (with_value g p q value)
grid_set g p q value is = record { small = is.small; square = length-set g.cells (cell_of g.n p q) value ∙ is.square }
