-- Closed rules: the groups that the required pairs tie, and the pairs of groups that are forbidden.
use Rattle.std.specs.Prelude.{◌≡◌, ◌≢◌, ◌⊎◌, ℕ, ◌<◌, ◌≤◌, List, [], ◌∷◌, Bool, false, ◌&&◌, ◌||◌, ◌==◌, length, slice_index, All}

pub record Closed : Type 0 where
  -- the least vertex of each vertex's group
  pub group : List ℕ
  -- the forbidden pairs of groups, each by its least vertices, the smaller first
  pub forbidden : List (ℕ × ℕ)

-- whether one of the pairs joins the groups of u and v
abbrev pub joins : (ℕ → ℕ) → List (ℕ × ℕ) → ℕ → ℕ → Bool
joins group [] u v = false
joins group (p ∷ ps) u v =
    group p.0 == group u && group p.1 == group v || group p.0 == group v && group p.1 == group u || joins group ps u v

-- the first pair comes before the second
abbrev pub Precedes : ℕ × ℕ → ℕ × ℕ → Type 0
Precedes p q = (p.0 < q.0) ⊎ ((p.0 ≡ q.0) × (p.1 < q.1))

-- each pair comes before those that follow it
abbrev pub AreRising : List (ℕ × ℕ) → Type 0
AreRising [] = Unit {0}
AreRising (p ∷ ps) = All (Precedes p) ps × AreRising ps

-- The least vertices are least and in their groups. The forbidden pairs rise, each has the least vertices of two groups,
-- and the smaller one first.
pub record IsClosed (c : Closed) : Type 0 where
  pub below : (v : ℕ) → v < length c.group → slice_index c.group v ≤ v
  pub least : (v : ℕ) → v < length c.group → slice_index c.group (slice_index c.group v) ≡ slice_index c.group v
  pub in_range : All (λ p. (p.0 < length c.group) × (p.1 < length c.group)) c.forbidden
  pub least_pairs : All (λ p. (slice_index c.group p.0 ≡ p.0) × (slice_index c.group p.1 ≡ p.1)) c.forbidden
  pub ordered : All (λ p. p.0 < p.1) c.forbidden
  pub rising : AreRising c.forbidden

-- rules that require and forbid nothing: each of n vertices is a group of its own
pub record BindsNothing (n : ℕ) (c : Closed) : Type 0 where
  pub size : length c.group ≡ n
  pub alone : (v : ℕ) → v < n → slice_index c.group v ≡ v
  pub none_forbidden : c.forbidden ≡ []

-- a partition that the rules permit: each vertex shares the block of its group's least vertex, and no forbidden pair shares one
pub record IsPermitted (c : Closed) (label : ℕ → ℕ) : Type 0 where
  pub required : (v : ℕ) → v < length c.group → label (slice_index c.group v) ≡ label v
  pub forbidden : All (λ p. label p.0 ≢ label p.1) c.forbidden
