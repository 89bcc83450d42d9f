-- What the ends of the reader say of the whole text.
use Rattle.std.proofs.Common.{◌≡◌, ℕ, ◌≤◌, List, ◌∷◌, sym, ◌∙◌, ap, subst, arith}
use Rattle.clu_pace.specs.Graph.{PaceGraph}
use Rattle.clu_pace.specs.Pace.{IsAccepted, IsHeader, AreAllEdges, AreEdges, unnumbered}
use Rattle.clu_pace.specs.Refusals.{numbered_kept}
use Rattle.clu_pace.proofs.Kept.{kept_lines_are}
use Rattle.clu_pace.proofs.Lines.{same_header, same_edges}

-- a header of at most 1,000 vertices, and behind it the edges of a graph
pub whole : (bytes : List ℕ) (header : ℕ × List (List ℕ)) (lines : List (ℕ × List (List ℕ))) (n m : ℕ) (graph : PaceGraph) → numbered_kept bytes ≡ header ∷ lines
    → IsHeader header.1 n m → n ≤ 1000 → graph.n ≡ n → AreAllEdges n m (unnumbered lines) graph.edges → IsAccepted bytes graph
whole bytes header lines n m graph kept opens small same are = record {
  text = record {
    header = header.1;
    lines = unnumbered lines;
    m = m;
    kept = sym (kept_lines_are bytes) ∙ ap unnumbered kept;
    header_is = subst (λ (k : ℕ). IsHeader header.1 k m) (sym same) opens;
    edges_are = subst (λ (k : ℕ). AreAllEdges k m (unnumbered lines) graph.edges) (sym same) are;
  };
  small = omega (arith, same, small);
}

-- the bytes are a text of one graph at most
pub one_graph : (bytes : List ℕ) (graph other : PaceGraph) → IsAccepted bytes graph → IsAccepted bytes other → other ≡ graph
one_graph bytes graph other this that =
    let kept : that.text.header ∷ that.text.lines ≡ this.text.header ∷ this.text.lines = sym that.text.kept ∙ this.text.kept in
    let header : that.text.header ≡ this.text.header = cc in
    let lines : that.text.lines ≡ this.text.lines = cc in
    let opens : IsHeader this.text.header other.n that.text.m = subst (λ (h : List (List ℕ)). IsHeader h other.n that.text.m) header that.text.header_is in
    let numbers : other.n ≡ graph.n = (same_header this.text.header other.n that.text.m graph.n this.text.m opens this.text.header_is).0 in
    let there : AreEdges other.n this.text.lines other.edges = subst (λ (ls : List (List (List ℕ))). AreEdges other.n ls other.edges) lines that.text.edges_are.each in
    let each : AreEdges graph.n this.text.lines other.edges = subst (λ (n : ℕ). AreEdges n this.text.lines other.edges) numbers there in
    let edges : other.edges ≡ graph.edges = same_edges graph.n this.text.lines other.edges graph.edges each this.text.edges_are.each in
    λ i. record { n = numbers i; edges = edges i }
