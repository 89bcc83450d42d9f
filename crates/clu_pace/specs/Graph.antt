-- Graphs as lists of edges.
use Rattle.std.specs.Prelude.{◌≡◌, ℕ, ◌<◌, ◌&&◌, Bool, false, List, [], ◌∷◌, max, min, nat_eq}
use Rattle.std.specs.List.{list_any}

-- the vertices 0 to n - 1, and the edges, each with its smaller vertex first
pub record PaceGraph : Type 0 where
  pub n : ℕ
  pub edges : List (ℕ × ℕ)

-- the pair of u and v, in this order, is an edge
abbrev pub is_edge : List (ℕ × ℕ) → ℕ → ℕ → Bool
is_edge edges u v = list_any (λ e. nat_eq e.0 u && nat_eq e.1 v) edges

-- u and v, in either order, are an edge
abbrev pub are_adjacent : List (ℕ × ℕ) → ℕ → ℕ → Bool
are_adjacent edges u v = is_edge edges (min u v) (max u v)

-- each edge has its smaller vertex first, and its vertices are below n
abbrev pub AreWithin : ℕ → List (ℕ × ℕ) → Type 0
AreWithin n [] = Unit {0}
AreWithin n (edge ∷ edges) = (edge.0 < edge.1) × (edge.1 < n) × AreWithin n edges

-- no pair stands twice
abbrev pub NoneTwice : List (ℕ × ℕ) → Type 0
NoneTwice [] = Unit {0}
NoneTwice (edge ∷ edges) = (is_edge edges edge.0 edge.1 ≡ false) × NoneTwice edges
