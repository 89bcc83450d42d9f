-- Two-set rows and the leaf bound.
use Rattle.std.specs.Prelude.{ℕ, ℤ, pos, negsuc, ◌/◌, ◌+ℤ◌, ◌-ℤ◌, ◌*ℤ◌, ◌≤ℤ◌, List, [], ◌∷◌, Bool, false, ◌==◌, ◌&&◌, ◌||◌, if◌then◌else◌, length, min}
use Rattle.clu_partition.specs.Sums.{only_if, total, pair_total, cross_total, positive}
use Rattle.clu_partition.specs.Values.{value_on}
use Rattle.clu_partition.specs.Groups.{leaders, between, free_total}
use Rattle.clu_partition.specs.Pairs.{weight_of}
use Rattle.clu_state.specs.State.{State, leader, are_apart}

-- 1 where the two share a block, else 0
abbrev pub indicator : (ℕ → ℕ) → ℕ → ℕ → ℤ
indicator label a b = only_if (label a == label b) (pos 1)

-- the two-set inequality for a partition: of the pairs that share a block, those across s and t are more than those inside s
-- and inside t by the smaller size at most
abbrev pub TwoSetHolds : (ℕ → ℕ) → List ℕ → List ℕ → Type 0
TwoSetHolds label s t = cross_total (indicator label) s t ≤ℤ (pair_total (indicator label) s +ℤ pair_total (indicator label) t +ℤ pos (min (length s) (length t)))

-- a row (S, T, y): two lists of vertices, each of which names its group, and a multiplier
pub record TwoSet : Type 0 where
  pub s : List ℕ
  pub t : List ℕ
  pub y : ℕ

-- whether a vertex of the list names the group a
abbrev pub names_group : (ℕ → ℕ) → List ℕ → ℕ → Bool
names_group group [] a = false
names_group group (v ∷ vs) a = (group v == a) || names_group group vs a

-- 1 across, -1 inside, 0 else: by whether a is in S and in T, and whether b is
abbrev pub sign : Bool → Bool → Bool → Bool → ℤ
sign sa ta sb tb = if sa && tb || ta && sb then pos 1 else (if sa && sb || ta && tb then negsuc 0 else pos 0)

abbrev pub coefficient : (ℕ → ℕ) → TwoSet → ℕ → ℕ → ℤ
coefficient group r a b = sign (names_group group r.s a) (names_group group r.t a) (names_group group r.s b) (names_group group r.t b)

-- q: the rows' coefficients at a pair of groups, each times its multiplier
abbrev pub priced : (ℕ → ℕ) → List TwoSet → ℕ → ℕ → ℤ
priced group rows a b = total (λ r. pos r.y *ℤ coefficient group r a b) rows

-- P: the multipliers times the rows' right sides
abbrev pub row_limit : List TwoSet → ℤ
row_limit rows = total (λ r. pos r.y *ℤ pos (min (length r.s) (length r.t))) rows

-- R: what the multipliers leave uncovered of the free pairs' weights, times den
abbrev pub excess : (ℕ → ℕ → ℤ) → (ℕ → ℕ) → (ℕ → ℕ → Bool) → List ℕ → ℕ → List TwoSet → ℤ
excess weight group apart members den rows =
    free_total apart (λ a b. pos (positive (pos den *ℤ between weight group members a b -ℤ priced group rows a b))) (leaders group members)

-- the quotient, rounded down
abbrev pub floor_div : ℤ → ℕ → ℤ
floor_div (pos n) d = pos (n / d)
floor_div (negsuc n) d = negsuc (n / d)

abbrev pub bound_of_rows : (ℕ → ℕ → ℤ) → (ℕ → ℕ) → (ℕ → ℕ → Bool) → List ℕ → ℕ → List TwoSet → ℤ
bound_of_rows weight group apart members den rows =
    value_on weight group members +ℤ floor_div (row_limit rows +ℤ excess weight group apart members den rows) den

-- the bound of a leaf in a state
abbrev pub leaf_bound_of : State → ℕ → List TwoSet → ℤ
leaf_bound_of s den rows = bound_of_rows (weight_of s.pairs) (leader s) (are_apart s) s.members den rows
