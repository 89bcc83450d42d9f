-- The text of a graph, after the file format of the PACE 2021 challenge, exact track: the kept lines are a header
-- `p cep n m` and then m edges.
use Rattle.std.specs.Prelude.{◌≡◌, ◌≢◌, ◌==◌, ℕ, ◌-◌, ◌<◌, ◌≤◌, Bool, false, List, [], ◌∷◌, codes, filter, length, map, max, min, not, slice_index}
use Rattle.clu_text.specs.Lines.{lines_of, fields_of}
use Rattle.clu_text.specs.Numbers.{IsU32}
use Rattle.clu_pace.specs.Graph.{PaceGraph, NoneTwice}

-- what a comment begins with: 'c'
abbrev pub comment_letter : ℕ
comment_letter = 99

-- a line is kept if it has a field and its first field begins no comment
abbrev pub is_kept_in_graph : List (List ℕ) → Bool
is_kept_in_graph [] = false
is_kept_in_graph (first ∷ fields) = not (slice_index first 0 == comment_letter)

-- the fields of each kept line
abbrev pub kept_lines : List ℕ → List (List (List ℕ))
kept_lines bytes = filter is_kept_in_graph (map fields_of (lines_of bytes))

-- the kept ones of numbered lines, each with its number and its fields
abbrev pub kept_of : List (ℕ × List ℕ) → List (ℕ × List (List ℕ))
kept_of lines = filter (λ line. is_kept_in_graph line.1) (map (λ line. (line.0, fields_of line.1)) lines)

-- the fields of lines that have numbers
abbrev pub unnumbered : List (ℕ × List (List ℕ)) → List (List (List ℕ))
unnumbered lines = map (λ line. line.1) lines

-- the header `p cep n m`
pub record IsHeader (line : List (List ℕ)) (n m : ℕ) : Type 0 where
  pub n_field : List ℕ
  pub m_field : List ℕ
  pub words : line ≡ codes "p" ∷ codes "cep" ∷ n_field ∷ m_field ∷ []
  pub n_is : IsU32 n_field n
  pub m_is : IsU32 m_field m

-- a line of two numbers
pub record AreNumbers (line : List (List ℕ)) (u v : ℕ) : Type 0 where
  pub u_field : List ℕ
  pub v_field : List ℕ
  pub words : line ≡ u_field ∷ v_field ∷ []
  pub u_is : IsU32 u_field u
  pub v_is : IsU32 v_field v

-- a number from 1 to n
abbrev pub IsVertex : ℕ → ℕ → Type 0
IsVertex n u = (0 < u) × (u ≤ n)

-- a line of two different numbers from 1 to n, which stand for a pair of vertices, the smaller first
pub record IsEdgeLine (n : ℕ) (line : List (List ℕ)) (edge : ℕ × ℕ) : Type 0 where
  pub u : ℕ
  pub v : ℕ
  pub numbers : AreNumbers line u v
  pub u_in : IsVertex n u
  pub v_in : IsVertex n v
  pub differ : u ≢ v
  pub edge_is : edge ≡ (min u v - 1, max u v - 1)

-- each line is its edge, in order
abbrev pub AreEdges : ℕ → List (List (List ℕ)) → List (ℕ × ℕ) → Type 0
AreEdges n [] [] = Unit {0}
AreEdges n [] (edge ∷ edges) = ⊥
AreEdges n (line ∷ lines) [] = ⊥
AreEdges n (line ∷ lines) (edge ∷ edges) = IsEdgeLine n line edge × AreEdges n lines edges

-- the lines are these edges, m in number and none twice
pub record AreAllEdges (n m : ℕ) (lines : List (List (List ℕ))) (edges : List (ℕ × ℕ)) : Type 0 where
  pub each : AreEdges n lines edges
  pub once : NoneTwice edges
  pub counted : length edges ≡ m

-- the bytes are a text of the graph: the first kept line is a header with its numbers of vertices and edges, and the
-- others are its edges
pub record IsPace (bytes : List ℕ) (graph : PaceGraph) : Type 0 where
  pub header : List (List ℕ)
  pub lines : List (List (List ℕ))
  pub m : ℕ
  pub kept : kept_lines bytes ≡ header ∷ lines
  pub header_is : IsHeader header graph.n m
  pub edges_are : AreAllEdges graph.n m lines graph.edges

-- the bytes are a text of the graph, and it has at most 1,000 vertices
pub record IsAccepted (bytes : List ℕ) (graph : PaceGraph) : Type 0 where
  pub text : IsPace bytes graph
  pub small : graph.n ≤ 1000
