-- Relaxed points: a share of each free pair, over one denominator.
use Rattle.std.specs.Prelude.{◌≡◌, ℕ, ◌^◌, ℤ, pos, ◌+ℤ◌, ◌-ℤ◌, ◌*ℤ◌, ◌≤ℤ◌, ◌<ℤ◌, List, [], ◌∷◌, length, min, map, All, Contains, if◌then◌else◌}
use Rattle.clu_partition.specs.Sums.{pair_total, cross_total}
use Rattle.clu_partition.specs.Pairs.{are_pair}
use Rattle.clu_state.specs.State.{State, leader, fixed_value, free_pairs, group_weight}
use Rattle.clu_partition.specs.Groups.{NamesOnce}
use Rattle.clu_cuts.specs.declared.point.Point.{Point}

-- the share of two groups: of a listed pair, in either order, the number beside it, and else 0
abbrev pub listed_share : List (ℕ × ℕ) → List ℤ → ℕ → ℕ → ℤ
listed_share [] xs a b = pos 0
listed_share (pair ∷ pairs) [] a b = pos 0
listed_share (pair ∷ pairs) (x ∷ xs) a b = if are_pair pair.0 pair.1 a b then x else listed_share pairs xs a b

abbrev pub share : Point → ℕ → ℕ → ℤ
share p = listed_share p.pairs p.x

-- a number for each free pair, from 0 to the denominator
pub record IsPoint (s : State) (p : Point) : Type 0 where
  pub positive : pos 0 <ℤ p.den
  pub pairs : p.pairs ≡ free_pairs s
  pub each : length p.x ≡ length p.pairs
  pub range : All (λ x. (pos 0 ≤ℤ x) × (x ≤ℤ p.den)) p.x

-- the two-set inequality at a point: of the shares, those across s and t are more than those inside s and inside t by the
-- smaller size times the denominator at most
abbrev pub TwoSetAt : Point → List ℕ → List ℕ → Type 0
TwoSetAt p s t =
    cross_total (share p) s t ≤ℤ (pair_total (share p) s +ℤ pair_total (share p) t +ℤ p.den *ℤ pos (min (length s) (length t)))

-- least vertices of different groups
pub record AreGroups (s : State) (groups : List ℕ) : Type 0 where
  pub members : All (Contains s.members) groups
  pub least : All (λ a. leader s a ≡ a) groups
  pub once : NamesOnce (leader s) groups

-- a point that obeys every triangle and every claw over the state's groups
pub record IsRelaxed (s : State) (p : Point) : Type 0 where
  pub point : IsPoint s p
  pub common : p.den ≤ℤ pos (2 ^ 100)
  pub triangles : (a b c : ℕ) → AreGroups s (a ∷ b ∷ c ∷ []) → TwoSetAt p (a ∷ []) (b ∷ c ∷ [])
  pub claws : (a b c d : ℕ) → AreGroups s (a ∷ b ∷ c ∷ d ∷ []) → TwoSetAt p (a ∷ []) (b ∷ c ∷ d ∷ [])

-- the weights of the free pairs
abbrev pub costs : State → List ℤ
costs s = map (λ (pair : ℕ × ℕ). group_weight s pair.0 pair.1) (free_pairs s)

-- the sum of the products of two lists
abbrev pub inner : List ℤ → List ℤ → ℤ
inner [] ys = pos 0
inner (x ∷ xs) [] = pos 0
inner (x ∷ xs) (y ∷ ys) = x *ℤ y +ℤ inner xs ys

-- the point is worth at least b: the weight inside the groups and the shares of the free weights come to b or more
abbrev pub IsWorth : State → Point → ℤ → Type 0
IsWorth s p b = (p.den *ℤ (b -ℤ fixed_value s)) ≤ℤ inner (costs s) p.x

-- some relaxed point is worth at least b
pub record Tight (s : State) (b : ℤ) : Type 0 where
  pub point : Point
  pub relaxed : IsRelaxed s point
  pub worth : IsWorth s point b

-- some relaxed point is worth more than v
pub record Beats (s : State) (v : ℤ) : Type 0 where
  pub point : Point
  pub relaxed : IsRelaxed s point
  pub more : (point.den *ℤ (v -ℤ fixed_value s)) <ℤ inner (costs s) point.x
