-- Triangles and claws in their order, and the first of them that a point violates.
use Rattle.std.specs.Prelude.{ℕ, pos, ◌+ℤ◌, ◌*ℤ◌, List, [], ◌∷◌, ◌++◌, length, min, map, Bool, int_lt, take, filter}
use Rattle.clu_partition.specs.Sums.{pair_total, cross_total}
use Rattle.clu_state.specs.State.{State, group_leaders}
use Rattle.clu_cuts.specs.declared.point.Point.{Point}
use Rattle.clu_cuts.specs.declared.point.Cut.{Cut}
use Rattle.clu_cuts.specs.Point.{share}

-- a centre with some others
abbrev pub star : ℕ → List ℕ → Cut
star a others = record { s = a ∷ []; t = others }

-- f of each element with each later one
abbrev pub each_pair : (ℕ → ℕ → Cut) → List ℕ → List Cut
each_pair f [] = []
each_pair f (x ∷ xs) = map (f x) xs ++ each_pair f xs

-- a with b and each of the others, and a with each two of them
abbrev pub pairs_with : ℕ → ℕ → List ℕ → List Cut
pairs_with a b others = map (λ c. star a (b ∷ c ∷ [])) others

abbrev pub with_two : ℕ → List ℕ → List Cut
with_two a others = each_pair (λ b c. star a (b ∷ c ∷ [])) others

-- a with b, c and each of the others, with b and each two of them, and with each three
abbrev pub triples_with : ℕ → ℕ → ℕ → List ℕ → List Cut
triples_with a b c others = map (λ d. star a (b ∷ c ∷ d ∷ [])) others

abbrev pub with_two_more : ℕ → ℕ → List ℕ → List Cut
with_two_more a b others = each_pair (λ c d. star a (b ∷ c ∷ d ∷ [])) others

abbrev pub with_three : ℕ → List ℕ → List Cut
with_three a [] = []
with_three a (b ∷ others) = with_two_more a b others ++ with_three a others

-- what f makes of each element, one after the other
abbrev pub each_one : (ℕ → List Cut) → List ℕ → List Cut
each_one f [] = []
each_one f (x ∷ xs) = f x ++ each_one f xs

-- each of these centres with each two of the groups, and with each three
abbrev pub triangles_at : List ℕ → List ℕ → List Cut
triangles_at groups centres = each_one (λ a. with_two a groups) centres

abbrev pub claws_at : List ℕ → List ℕ → List Cut
claws_at groups centres = each_one (λ a. with_three a groups) centres

-- whether the point violates the inequality
abbrev pub breaks : Point → Cut → Bool
breaks p cut =
    int_lt (pair_total (share p) cut.s +ℤ pair_total (share p) cut.t +ℤ p.den *ℤ pos (min (length cut.s) (length cut.t)))
    (cross_total (share p) cut.s cut.t)

abbrev pub broken : Point → List Cut → List Cut
broken p cuts = filter (breaks p) cuts

-- the triangles and the claws of a state, by the centre and then the others in rising order
abbrev pub triangles : State → List Cut
triangles s = triangles_at (group_leaders s) (group_leaders s)

abbrev pub claws : State → List Cut
claws s = claws_at (group_leaders s) (group_leaders s)

abbrev pub first_broken : Point → List Cut → List Cut
first_broken p cuts = take 50 (broken p cuts)
