-- Sums of signed numbers over lists.
use Rattle.std.specs.Prelude.{ℕ, ℤ, pos, negsuc, ◌+ℤ◌, List, [], ◌∷◌, Bool, if◌then◌else◌}

-- the sum of f over a list
abbrev pub total : {A : Type 0} → (A → ℤ) → List A → ℤ
total f [] = pos 0
total f (x ∷ xs) = f x +ℤ total f xs

-- the sum of f over the pairs of a list, the earlier one first
abbrev pub pair_total : {A : Type 0} → (A → A → ℤ) → List A → ℤ
pair_total f [] = pos 0
pair_total f (x ∷ xs) = total (f x) xs +ℤ pair_total f xs

-- the sum of f across two lists
abbrev pub cross_total : {A : Type 0} → (A → A → ℤ) → List A → List A → ℤ
cross_total f xs ys = total (λ x. total (f x) ys) xs

-- a number, where the test holds
abbrev pub only_if : Bool → ℤ → ℤ
only_if b z = if b then z else pos 0

-- the positive part of a number
abbrev pub positive : ℤ → ℕ
positive (pos n) = n
positive (negsuc n) = 0
