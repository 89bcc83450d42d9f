-- A line is one header, one pair of numbers and one edge at most.
use Rattle.std.proofs.Common.{◌≡◌, ℕ, ◌-◌, List, [], ◌∷◌, min, max, refl, sym, ◌∙◌, ap}
use Rattle.std.specs.Str.Parse.{digits_value}
use Rattle.clu_pace.specs.Pace.{AreNumbers, IsHeader, IsEdgeLine, AreEdges}

pub same_header : (line : List (List ℕ)) (n m k l : ℕ) → IsHeader line n m → IsHeader line k l → (n ≡ k) × (m ≡ l)
same_header line n m k l x y =
    let ns : x.n_field ≡ y.n_field = cc (x.words, y.words) in
    let ms : x.m_field ≡ y.m_field = cc (x.words, y.words) in
    (sym x.n_is.number.value_is ∙ ap (digits_value 10) ns ∙ y.n_is.number.value_is, sym x.m_is.number.value_is ∙ ap (digits_value 10) ms ∙ y.m_is.number.value_is)

pub same_numbers : (line : List (List ℕ)) (u v a b : ℕ) → AreNumbers line u v → AreNumbers line a b → (u ≡ a) × (v ≡ b)
same_numbers line u v a b x y =
    let ones : x.u_field ≡ y.u_field = cc (x.words, y.words) in
    let twos : x.v_field ≡ y.v_field = cc (x.words, y.words) in
    (sym x.u_is.number.value_is ∙ ap (digits_value 10) ones ∙ y.u_is.number.value_is, sym x.v_is.number.value_is ∙ ap (digits_value 10) twos ∙ y.v_is.number.value_is)

pub same_edge : (n : ℕ) (line : List (List ℕ)) (e f : ℕ × ℕ) → IsEdgeLine n line e → IsEdgeLine n line f → e ≡ f
same_edge n line e f x y =
    let same = same_numbers line x.u x.v y.u y.v x.numbers y.numbers in
    x.edge_is ∙ (λ i. (min (same.0 i) (same.1 i) - 1, max (same.0 i) (same.1 i) - 1)) ∙ sym y.edge_is

-- lines are one list of edges at most
pub same_edges : (n : ℕ) (lines : List (List (List ℕ))) (es fs : List (ℕ × ℕ)) → AreEdges n lines es → AreEdges n lines fs → es ≡ fs
same_edges n [] [] [] these those = refl
same_edges n [] [] (f ∷ fs) these those = absurd those
same_edges n [] (e ∷ es) fs these those = absurd these
same_edges n (line ∷ lines) [] fs these those = absurd these
same_edges n (line ∷ lines) (e ∷ es) [] these those = absurd those
same_edges n (line ∷ lines) (e ∷ es) (f ∷ fs) these those =
    let first : e ≡ f = same_edge n line e f these.0 those.0 in
    let rest : es ≡ fs = same_edges n lines es fs these.1 those.1 in
    λ i. first i ∷ rest i
