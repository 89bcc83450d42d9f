-- A refused text is no text of a graph, and is refused for one cause alone.
use Rattle.std.proofs.Common.{◌≡◌, ◌≢◌, inl, inr, ℕ, ◌≤◌, ◌&&◌, ◌||◌, false, List, [], ◌∷◌, ◌++◌, length, nat_eq, Result, Ok, Err, IfErr, refl, sym, ◌∙◌, ap, subst, arith, append_assoc}
use Rattle.std.proofs.lemmas.Bool.{false≢true, or_parts}
use Rattle.std.proofs.lemmas.Bool.Decides.{nat_tests}
use Rattle.std.proofs.lemmas.List.{append-nil}
use Rattle.std.proofs.lemmas.List.Folds.{list_any-append}
use Rattle.clu_pace.specs.Graph.{PaceGraph, is_edge, NoneTwice}
use Rattle.clu_pace.specs.Pace.{unnumbered, AreNumbers, IsVertex, IsHeader, IsEdgeLine, AreEdges, AreAllEdges, IsAccepted}
use Rattle.clu_pace.specs.Refusals.{numbered_kept, BeginsHeader, FailsHeader, FailsLine, FailsCount, IsNewEdge, FailsEdges, FailsLines, IsPaceFault}
use Rattle.clu_pace.specs.declared.error.PaceError.{PaceError}
use Rattle.clu_pace.specs.declared.error.PaceError.TheVariants.{NoHeader, BadHeader, BadLine, VertexOut, Loop, Repeated, EdgeCount, TooManyVertices, Memory}
use Rattle.clu_pace.proofs.Kept.{kept_lines_are}
use Rattle.clu_pace.proofs.Lines.{same_header, same_numbers, same_edge}

-- ---- what isn't refused
begins : (line : List (List ℕ)) (n m : ℕ) → IsHeader line n m → BeginsHeader line
begins line n m is = subst BeginsHeader (sym is.words) refl

header_stands : (line : ℕ × List (List ℕ)) (n m : ℕ) (error : PaceError) → IsHeader line.1 n m → n ≤ 1000 → FailsHeader line error → ⊥
header_stands line n m NoHeader is small fails = fails (begins line.1 n m is)
header_stands line n m (BadHeader at) is small fails = fails.2 n m is
header_stands line n m (TooManyVertices at) is small fails =
    let same = same_header line.1 n m fails.1 fails.2 is fails.3 in omega (arith, same.0, small, fails.4)
header_stands line n m _ is small fails = fails

edge_stands : (n : ℕ) (done : List (ℕ × ℕ)) (line : ℕ × List (List ℕ)) (edge : ℕ × ℕ) (error : PaceError) → IsNewEdge n done line.1 edge → FailsLine n done line error → ⊥
edge_stands n done line edge (BadLine at) is fails = fails.1 is.line_is.u is.line_is.v is.line_is.numbers
edge_stands n done line edge (VertexOut at) is fails =
    let same = same_numbers line.1 is.line_is.u is.line_is.v fails.1 fails.2 is.line_is.numbers fails.3 in
    fails.4 (subst (IsVertex n) same.0 is.line_is.u_in, subst (IsVertex n) same.1 is.line_is.v_in)
edge_stands n done line edge (Loop at) is fails =
    let same = same_numbers line.1 is.line_is.u is.line_is.v fails.1 fails.1 is.line_is.numbers fails.2 in
    is.line_is.differ (same.0 ∙ sym same.1)
edge_stands n done line edge (Repeated at) is fails =
    let same : edge ≡ fails.1 = same_edge n line.1 edge fails.1 is.line_is fails.2 in
    false≢true (sym is.absent ∙ ap (λ (d : ℕ × ℕ). is_edge done d.0 d.1) same ∙ fails.3)
edge_stands n done line edge _ is fails = fails

-- ---- a refused text is no text of a graph
once_front : (done : List (ℕ × ℕ)) (e : ℕ × ℕ) (tail : List (ℕ × ℕ)) → NoneTwice (done ++ e ∷ tail) → is_edge done e.0 e.1 ≡ false
once_front [] e tail once = refl
once_front (d ∷ done) e tail once =
    let rest : is_edge done e.0 e.1 ≡ false = once_front done e tail once.1 in
    let more : is_edge (done ++ e ∷ tail) d.0 d.1 ≡ (is_edge done d.0 d.1 || is_edge (e ∷ tail) d.0 d.1) = list_any-append (λ x. nat_eq x.0 d.0 && nat_eq x.1 d.1) done (e ∷ tail) in
    let back : is_edge (e ∷ tail) d.0 d.1 ≡ false = (or_parts (is_edge done d.0 d.1) (is_edge (e ∷ tail) d.0 d.1) (sym more ∙ once.0)).1 in
    let here : (nat_eq e.0 d.0 && nat_eq e.1 d.1) ≡ false = (or_parts (nat_eq e.0 d.0 && nat_eq e.1 d.1) (is_edge tail d.0 d.1) back).0 in
    grind (arith, nat_tests)

count_stands : (m count : ℕ) (error : PaceError) → count ≡ m → FailsCount m count error → ⊥
count_stands m count (EdgeCount stated found) is fails = fails.2 (sym is)
count_stands m count _ is fails = fails

edges_stand : (n m : ℕ) (done : List (ℕ × ℕ)) (lines : List (ℕ × List (List ℕ))) (tail : List (ℕ × ℕ)) (error : PaceError)
    → AreEdges n (unnumbered lines) tail → NoneTwice (done ++ tail) → length (done ++ tail) ≡ m → FailsEdges n m done lines error → ⊥
edges_stand n m done [] [] error are once counted fails = count_stands m (length done) error (ap length (sym (append-nil done)) ∙ counted) fails
edges_stand n m done [] (edge ∷ tail) error are once counted fails = are
edges_stand n m done (line ∷ lines) [] error are once counted fails = are
edges_stand n m done (line ∷ lines) (edge ∷ tail) error are once counted (inl fails) =
    edge_stands n done line edge error (record { line_is = are.0; absent = once_front done edge tail once }) fails
edges_stand n m done (line ∷ lines) (edge ∷ tail) error are once counted (inr fails) =
    let same : fails.0 ≡ edge = same_edge n line.1 fails.0 edge fails.1.line_is are.0 in
    let more : (done ++ fails.0 ∷ []) ++ tail ≡ done ++ edge ∷ tail = append_assoc done (fails.0 ∷ []) tail ∙ ap (λ (d : ℕ × ℕ). done ++ d ∷ tail) same in
    edges_stand n m (done ++ fails.0 ∷ []) lines tail error are.1 (subst NoneTwice (sym more) once) (ap length more ∙ counted) fails.2

lines_stand : (lines : List (ℕ × List (List ℕ))) (header : List (List ℕ)) (rest : List (List (List ℕ))) (n m : ℕ) (edges : List (ℕ × ℕ)) (error : PaceError)
    → unnumbered lines ≡ header ∷ rest → IsHeader header n m → n ≤ 1000 → AreAllEdges n m rest edges → FailsLines lines error → ⊥
lines_stand [] header rest n m edges error is opens small are fails = let none : [] ≡ header ∷ rest = is in cc
lines_stand (line ∷ lines) header rest n m edges error is opens small are (inl fails) =
    let first : header ≡ line.1 = cc (is) in
    header_stands line n m error (subst (λ (h : List (List ℕ)). IsHeader h n m) first opens) small fails
lines_stand (line ∷ lines) header rest n m edges error is opens small are (inr fails) =
    let first : header ≡ line.1 = cc (is) in
    let others : rest ≡ unnumbered lines = cc (is) in
    let same = same_header line.1 n m fails.0 fails.1 (subst (λ (h : List (List ℕ)). IsHeader h n m) first opens) fails.2 in
    let each : AreEdges n (unnumbered lines) edges = subst (λ (ls : List (List (List ℕ))). AreEdges n ls edges) others are.each in
    edges_stand fails.0 fails.1 [] lines edges error (subst (λ (k : ℕ). AreEdges k (unnumbered lines) edges) same.0 each) are.once (are.counted ∙ same.1) fails.4

pub no_graph : (bytes : List ℕ) (error : PaceError) → IsPaceFault bytes error → (graph : PaceGraph) → IsAccepted bytes graph → ⊥
no_graph bytes error fails graph is =
    lines_stand (numbered_kept bytes) is.text.header is.text.lines graph.n is.text.m graph.edges error (kept_lines_are bytes ∙ is.text.kept) is.text.header_is is.small is.text.edges_are fails

-- ---- one cause
one_header : (line : ℕ × List (List ℕ)) (error other : PaceError) → FailsHeader line error → FailsHeader line other → other ≡ error
one_header line NoHeader NoHeader x y = refl
one_header line NoHeader (BadHeader at) x y = absurd (x y.1)
one_header line NoHeader (TooManyVertices at) x y = absurd (x (begins line.1 y.1 y.2 y.3))
one_header line NoHeader _ x y = absurd y
one_header line (BadHeader at) NoHeader x y = absurd (y x.1)
one_header line (BadHeader at) (BadHeader to) x y = ap BadHeader (y.0 ∙ sym x.0)
one_header line (BadHeader at) (TooManyVertices to) x y = absurd (x.2 y.1 y.2 y.3)
one_header line (BadHeader at) _ x y = absurd y
one_header line (TooManyVertices at) NoHeader x y = absurd (y (begins line.1 x.1 x.2 x.3))
one_header line (TooManyVertices at) (BadHeader to) x y = absurd (y.2 x.1 x.2 x.3)
one_header line (TooManyVertices at) (TooManyVertices to) x y = ap TooManyVertices (y.0 ∙ sym x.0)
one_header line (TooManyVertices at) _ x y = absurd y
one_header line _ other x y = absurd x

-- two equal numbers from 1 to n aren't out of range, and are no edge
equal_in : (n : ℕ) (line : List (List ℕ)) (u a b : ℕ) → AreNumbers line u u → IsVertex n u → AreNumbers line a b → (IsVertex n a × IsVertex n b → ⊥) → ⊥
equal_in n line u a b these within those out =
    let same = same_numbers line u u a b these those in out (subst (IsVertex n) same.0 within, subst (IsVertex n) same.1 within)

edge_in : (n : ℕ) (line : List (List ℕ)) (edge : ℕ × ℕ) (a b : ℕ) → IsEdgeLine n line edge → AreNumbers line a b → (IsVertex n a × IsVertex n b → ⊥) → ⊥
edge_in n line edge a b is those out =
    let same = same_numbers line is.u is.v a b is.numbers those in out (subst (IsVertex n) same.0 is.u_in, subst (IsVertex n) same.1 is.v_in)

edge_differs : (n : ℕ) (line : List (List ℕ)) (edge : ℕ × ℕ) (a : ℕ) → IsEdgeLine n line edge → AreNumbers line a a → ⊥
edge_differs n line edge a is those = let same = same_numbers line is.u is.v a a is.numbers those in is.differ (same.0 ∙ sym same.1)

one_line : (n : ℕ) (done : List (ℕ × ℕ)) (line : ℕ × List (List ℕ)) (error other : PaceError) → FailsLine n done line error → FailsLine n done line other → other ≡ error
one_line n done line (BadLine at) (BadLine to) x y = ap BadLine (y.0 ∙ sym x.0)
one_line n done line (BadLine at) (VertexOut to) x y = absurd (x.1 y.1 y.2 y.3)
one_line n done line (BadLine at) (Loop to) x y = absurd (x.1 y.1 y.1 y.2)
one_line n done line (BadLine at) (Repeated to) x y = absurd (x.1 y.2.u y.2.v y.2.numbers)
one_line n done line (BadLine at) _ x y = absurd y
one_line n done line (VertexOut at) (BadLine to) x y = absurd (y.1 x.1 x.2 x.3)
one_line n done line (VertexOut at) (VertexOut to) x y = ap VertexOut (y.0 ∙ sym x.0)
one_line n done line (VertexOut at) (Loop to) x y = absurd (equal_in n line.1 y.1 x.1 x.2 y.2 y.3 x.3 x.4)
one_line n done line (VertexOut at) (Repeated to) x y = absurd (edge_in n line.1 y.1 x.1 x.2 y.2 x.3 x.4)
one_line n done line (VertexOut at) _ x y = absurd y
one_line n done line (Loop at) (BadLine to) x y = absurd (y.1 x.1 x.1 x.2)
one_line n done line (Loop at) (VertexOut to) x y = absurd (equal_in n line.1 x.1 y.1 y.2 x.2 x.3 y.3 y.4)
one_line n done line (Loop at) (Loop to) x y = ap Loop (y.0 ∙ sym x.0)
one_line n done line (Loop at) (Repeated to) x y = absurd (edge_differs n line.1 y.1 x.1 y.2 x.2)
one_line n done line (Loop at) _ x y = absurd y
one_line n done line (Repeated at) (BadLine to) x y = absurd (y.1 x.2.u x.2.v x.2.numbers)
one_line n done line (Repeated at) (VertexOut to) x y = absurd (edge_in n line.1 x.1 y.1 y.2 x.2 y.3 y.4)
one_line n done line (Repeated at) (Loop to) x y = absurd (edge_differs n line.1 x.1 y.1 x.2 y.2)
one_line n done line (Repeated at) (Repeated to) x y = ap Repeated (y.0 ∙ sym x.0)
one_line n done line (Repeated at) _ x y = absurd y
one_line n done line _ other x y = absurd x

one_count : (m count : ℕ) (error other : PaceError) → FailsCount m count error → FailsCount m count other → other ≡ error
one_count m count (EdgeCount stated found) (EdgeCount said counted) x y =
    let left : said ≡ stated = y.0 ∙ sym x.0 in
    let right : counted ≡ found = y.1 ∙ sym x.1 in
    λ i. EdgeCount (left i) (right i)
one_count m count (EdgeCount stated found) _ x y = absurd y
one_count m count _ other x y = absurd x

one_end : (n m : ℕ) (done : List (ℕ × ℕ)) (lines : List (ℕ × List (List ℕ))) (error other : PaceError)
    → FailsEdges n m done lines error → FailsEdges n m done lines other → other ≡ error
one_end n m done [] error other x y = one_count m (length done) error other x y
one_end n m done (line ∷ lines) error other (inl x) (inl y) = one_line n done line error other x y
one_end n m done (line ∷ lines) error other (inl x) (inr y) = absurd (edge_stands n done line y.0 error y.1 x)
one_end n m done (line ∷ lines) error other (inr x) (inl y) = absurd (edge_stands n done line x.0 other x.1 y)
one_end n m done (line ∷ lines) error other (inr x) (inr y) =
    let same : y.0 ≡ x.0 = same_edge n line.1 y.0 x.0 y.1.line_is x.1.line_is in
    one_end n m (done ++ x.0 ∷ []) lines error other x.2 (subst (λ (e : ℕ × ℕ). FailsEdges n m (done ++ e ∷ []) lines other) same y.2)

one_of_lines : (lines : List (ℕ × List (List ℕ))) (error other : PaceError) → FailsLines lines error → FailsLines lines other → other ≡ error
one_of_lines [] error other x y = y ∙ sym x
one_of_lines (line ∷ lines) error other (inl x) (inl y) = one_header line error other x y
one_of_lines (line ∷ lines) error other (inl x) (inr y) = absurd (header_stands line y.0 y.1 error y.2 y.3 x)
one_of_lines (line ∷ lines) error other (inr x) (inl y) = absurd (header_stands line x.0 x.1 other x.2 x.3 y)
one_of_lines (line ∷ lines) error other (inr x) (inr y) =
    let same = same_header line.1 y.0 y.1 x.0 x.1 y.2 x.2 in
    let first : FailsEdges x.0 y.1 [] lines other = subst (λ (k : ℕ). FailsEdges k y.1 [] lines other) same.0 y.4 in
    one_end x.0 x.1 [] lines error other x.4 (subst (λ (k : ℕ). FailsEdges x.0 k [] lines other) same.1 first)

pub one_refusal : (bytes : List ℕ) (error other : PaceError) → IsPaceFault bytes error → IsPaceFault bytes other → other ≡ error
one_refusal bytes error other x y = one_of_lines (numbered_kept bytes) error other x y

-- ---- the same of a reader's results
pub refusals_exclude : {A : Type 0} (bytes : List ℕ) (result : Result A PaceError) → IfErr result (λ e. e ≢ Memory → IsPaceFault bytes e)
    → IfErr result (λ e. e ≢ Memory → (graph : PaceGraph) → IsAccepted bytes graph → ⊥)
refusals_exclude bytes (Ok value) fails = fails
refusals_exclude bytes (Err error) fails = λ some. no_graph bytes error (fails some)

pub refusals_alone : {A : Type 0} (bytes : List ℕ) (result : Result A PaceError) → IfErr result (λ e. e ≢ Memory → IsPaceFault bytes e)
    → IfErr result (λ e. e ≢ Memory → (other : PaceError) → IsPaceFault bytes other → other ≡ e)
refusals_alone bytes (Ok value) fails = fails
refusals_alone bytes (Err error) fails = λ some other. one_refusal bytes error other (fails some)
