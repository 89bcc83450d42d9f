-- Why bytes are no text of a graph of at most 1,000 vertices: the first kept line that is refused, with the first of
-- its causes, or another number of edges than the header's behind the last line.
use Rattle.std.specs.Prelude.{◌≡◌, ◌≢◌, ◌⊎◌, ℕ, ◌<◌, ◌≤◌, true, false, List, [], ◌∷◌, ◌++◌, codes, length}
use Rattle.std.specs.List.{enumerate_from}
use Rattle.clu_text.specs.Lines.{lines_of}
use Rattle.clu_pace.specs.Graph.{is_edge}
use Rattle.clu_pace.specs.Pace.{kept_of, AreNumbers, IsVertex, IsHeader, IsEdgeLine}
use Rattle.clu_pace.specs.declared.error.PaceError.{PaceError}
use Rattle.clu_pace.specs.declared.error.PaceError.TheVariants.{NoHeader, BadHeader, BadLine, VertexOut, Loop, Repeated, EdgeCount, TooManyVertices}

-- the kept lines of a text, each with its number, by which skipped lines count, and its fields
abbrev pub numbered_kept : List ℕ → List (ℕ × List (List ℕ))
numbered_kept bytes = kept_of (enumerate_from 1 (lines_of bytes))

-- the first field is `p`
abbrev pub BeginsHeader : List (List ℕ) → Type 0
BeginsHeader [] = ⊥
BeginsHeader (first ∷ fields) = first ≡ codes "p"

-- why the first kept line is refused
abbrev pub FailsHeader : ℕ × List (List ℕ) → PaceError → Type 0
FailsHeader line NoHeader = BeginsHeader line.1 → ⊥
FailsHeader line (BadHeader at) = (at ≡ line.0) × BeginsHeader line.1 × ((n m : ℕ) → IsHeader line.1 n m → ⊥)
FailsHeader line (TooManyVertices at) = (at ≡ line.0) × (n m : ℕ) × IsHeader line.1 n m × (1000 < n)
FailsHeader line _ = ⊥

-- why a later line is refused, where these edges stood before it
abbrev pub FailsLine : ℕ → List (ℕ × ℕ) → ℕ × List (List ℕ) → PaceError → Type 0
FailsLine n done line (BadLine at) = (at ≡ line.0) × ((u v : ℕ) → AreNumbers line.1 u v → ⊥)
FailsLine n done line (VertexOut at) = (at ≡ line.0) × (u v : ℕ) × AreNumbers line.1 u v × (IsVertex n u × IsVertex n v → ⊥)
FailsLine n done line (Loop at) = (at ≡ line.0) × (u : ℕ) × AreNumbers line.1 u u × IsVertex n u
FailsLine n done line (Repeated at) = (at ≡ line.0) × (edge : ℕ × ℕ) × IsEdgeLine n line.1 edge × (is_edge done edge.0 edge.1 ≡ true)
FailsLine n done line _ = ⊥

-- why so many edges are refused behind the last line
abbrev pub FailsCount : ℕ → ℕ → PaceError → Type 0
FailsCount m count (EdgeCount stated found) = (stated ≡ m) × (found ≡ count) × (m ≢ count)
FailsCount m count _ = ⊥

-- the line is an edge that isn't among these
pub record IsNewEdge (n : ℕ) (done : List (ℕ × ℕ)) (line : List (List ℕ)) (edge : ℕ × ℕ) : Type 0 where
  pub line_is : IsEdgeLine n line edge
  pub absent : is_edge done edge.0 edge.1 ≡ false

-- the first line that is refused behind lines that are new edges, or their number at the end
abbrev pub FailsEdges : ℕ → ℕ → List (ℕ × ℕ) → List (ℕ × List (List ℕ)) → PaceError → Type 0
FailsEdges n m done [] error = FailsCount m (length done) error
FailsEdges n m done (line ∷ lines) error =
    FailsLine n done line error ⊎ ((edge : ℕ × ℕ) × IsNewEdge n done line.1 edge × FailsEdges n m (done ++ edge ∷ []) lines error)

-- why kept lines are refused: there is none, the first one is, or what stands behind it
abbrev pub FailsLines : List (ℕ × List (List ℕ)) → PaceError → Type 0
FailsLines [] error = error ≡ NoHeader
FailsLines (header ∷ lines) error =
    FailsHeader header error ⊎ ((n m : ℕ) × IsHeader header.1 n m × (n ≤ 1000) × FailsEdges n m [] lines error)

-- why the bytes are refused
abbrev pub IsPaceFault : List ℕ → PaceError → Type 0
IsPaceFault bytes error = FailsLines (numbered_kept bytes) error
