-- Groups of members: `group u` is the least vertex of the group of u.
use Rattle.std.specs.Prelude.{ℕ, ℤ, ◌≢◌, min, max, List, [], ◌∷◌, Bool, not, ◌==◌, if◌then◌else◌, filter, All}
use Rattle.clu_partition.specs.Sums.{pair_total, cross_total, only_if}

-- the least vertices of the groups, in the members' order
abbrev pub leaders : (ℕ → ℕ) → List ℕ → List ℕ
leaders group members = filter (λ u. group u == u) members

-- the members of the group whose least vertex is a
abbrev pub group_members : (ℕ → ℕ) → List ℕ → ℕ → List ℕ
group_members group members a = filter (λ u. group u == a) members

-- the group of u and that of v become one
abbrev pub merged : (ℕ → ℕ) → ℕ → ℕ → ℕ → ℕ
merged group u v x = if group x == max (group u) (group v) then min (group u) (group v) else group x

-- no two of the vertices name one group
abbrev pub NamesOnce : (ℕ → ℕ) → List ℕ → Type 0
NamesOnce group [] = Unit {0}
NamesOnce group (v ∷ vs) = All (λ w. group v ≢ group w) vs × NamesOnce group vs

-- the weight of two groups, named by their least vertices
abbrev pub between : (ℕ → ℕ → ℤ) → (ℕ → ℕ) → List ℕ → ℕ → ℕ → ℤ
between weight group members a b = cross_total weight (group_members group members a) (group_members group members b)

-- the sum of f over the free pairs of groups
abbrev pub free_total : (ℕ → ℕ → Bool) → (ℕ → ℕ → ℤ) → List ℕ → ℤ
free_total apart f groups = pair_total (λ a b. only_if (not (apart a b)) (f a b)) groups
