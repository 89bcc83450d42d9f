-- The set of adjacent pairs, as edges come in.
use Rattle.std.proofs.Common.{◌≡◌, ℕ, ◌+◌, ◌*◌, ◌<◌, ◌&&◌, ◌||◌, true, false, List, [], ◌∷◌, ◌++◌, min, max, get_or, nat_eq, refl, sym, ◌∙◌, ap, ⊎_elim, subst, arith}
use Rattle.std.proofs.lemmas.Bool.{cases_eq, eq-eqb, or_parts}
use Rattle.std.proofs.lemmas.Bool.Decides.{nat_tests}
use Rattle.std.proofs.lemmas.List.Folds.{list_any-append}
use Rattle.clu_partition.specs.Grids.{IsGrid}
use Rattle.clu_partition.specs.PairSets.{Chosen, has, with_pair}
use Rattle.clu_partition.proofs.GridLaws.{value_here, value_other}
use Rattle.clu_pace.specs.Graph.{is_edge, are_adjacent, AreWithin, NoneTwice}
use Rattle.clu_pace.specs.Adjacency.{IsAdjacency}
use Rattle.clu_pace.proofs.GraphLaws.{in_order}

-- without edges no two vertices are adjacent
pub no_edges : (set : Chosen) → ((u v : ℕ) → has set u v ≡ false) → IsAdjacency [] set
no_edges set none = record {
  within = tt;
  once = tt;
  each = λ u v at_u at_v. none u v;
}

is_edge_push : (edges : List (ℕ × ℕ)) (u v a b : ℕ) → is_edge (edges ++ (u, v) ∷ []) a b ≡ (is_edge edges a b || (nat_eq u a && nat_eq v b))
is_edge_push edges u v a b = list_any-append (λ e. nat_eq e.0 a && nat_eq e.1 b) edges ((u, v) ∷ []) ∙ grind (arith, nat_tests)

absent_push : (edges : List (ℕ × ℕ)) (d e : ℕ × ℕ) → is_edge edges d.0 d.1 ≡ false → (nat_eq d.0 e.0 && nat_eq d.1 e.1) ≡ false → is_edge (edges ++ e ∷ []) d.0 d.1 ≡ false
absent_push edges d e absent differ =
    let more : is_edge (edges ++ e ∷ []) d.0 d.1 ≡ (is_edge edges d.0 d.1 || is_edge (e ∷ []) d.0 d.1) = list_any-append (λ x. nat_eq x.0 d.0 && nat_eq x.1 d.1) edges (e ∷ []) in
    grind (arith, nat_tests)

once_push : (done : List (ℕ × ℕ)) (e : ℕ × ℕ) → NoneTwice done → is_edge done e.0 e.1 ≡ false → NoneTwice (done ++ e ∷ [])
once_push [] e once absent = (refl, tt)
once_push (d ∷ done) e once absent =
    let here : (nat_eq d.0 e.0 && nat_eq d.1 e.1) ≡ false = (or_parts _ _ absent).0 in
    let rest : is_edge done e.0 e.1 ≡ false = (or_parts _ _ absent).1 in
    (absent_push done d e once.0 here, once_push done e once.1 rest)

within_push : (n : ℕ) (edges : List (ℕ × ℕ)) (u v : ℕ) → AreWithin n edges → u < v → v < n → AreWithin n (edges ++ (u, v) ∷ [])
within_push n [] u v old order at = (order, at, tt)
within_push n (e ∷ edges) u v old order at = (old.0, old.1, within_push n edges u v old.2 order at)

push_same : (edges : List (ℕ × ℕ)) (u v a b : ℕ) → min a b ≡ u → max a b ≡ v → true ≡ are_adjacent (edges ++ (u, v) ∷ []) a b
push_same edges u v a b is_u is_v =
    let more : is_edge (edges ++ (u, v) ∷ []) (min a b) (max a b) ≡ (is_edge edges (min a b) (max a b) || (nat_eq u (min a b) && nat_eq v (max a b))) = is_edge_push edges u v (min a b) (max a b) in
    let this_u : nat_eq u (min a b) ≡ true = eq-eqb _ _ (sym is_u) in
    let this_v : nat_eq v (max a b) ≡ true = eq-eqb _ _ (sym is_v) in
    grind (arith, nat_tests)

push_other : (edges : List (ℕ × ℕ)) (u v a b : ℕ) → ((min a b ≡ u) × (max a b ≡ v) → ⊥) → are_adjacent edges a b ≡ are_adjacent (edges ++ (u, v) ∷ []) a b
push_other edges u v a b differ =
    let more : is_edge (edges ++ (u, v) ∷ []) (min a b) (max a b) ≡ (is_edge edges (min a b) (max a b) || (nat_eq u (min a b) && nat_eq v (max a b))) = is_edge_push edges u v (min a b) (max a b) in
    grind (arith, nat_tests)

-- the two orders of a pair have one cell
same_pair : (set : Chosen) (u v a b : ℕ) → min a b ≡ min u v → max a b ≡ max u v → has set a b ≡ has set u v
same_pair set u v a b low high =
    ap (λ (k : ℕ). get_or set.cells (k * set.n + max a b) false) low ∙ ap (λ (k : ℕ). get_or set.cells (min u v * set.n + k) false) high

-- an edge is one pair more
pub one_edge_more : (edges : List (ℕ × ℕ)) (old new : Chosen) (u v : ℕ) → IsAdjacency edges old → IsGrid old → u < v → v < old.n → are_adjacent edges u v ≡ false
    → new ≡ with_pair old u v → IsAdjacency (edges ++ (u, v) ∷ []) new
one_edge_more edges old new u v was grid order at absent is = subst (IsAdjacency (edges ++ (u, v) ∷ [])) (sym is) (record {
  within = within_push old.n edges u v was.within order at;
  once = once_push edges (u, v) was.once (sym (in_order edges u v order) ∙ absent);
  each = λ a b at_a at_b. ⊎_elim
      (λ low. ⊎_elim
      (λ high. here a b low high)
      (λ differ. there a b at_a at_b (λ e. differ (e.1)))
      (cases_eq (max a b) v))
      (λ differ. there a b at_a at_b (λ e. differ (e.0)))
      (cases_eq (min a b) u);
})
  where
    here : (a b : ℕ) → min a b ≡ u → max a b ≡ v → has (with_pair old u v) a b ≡ are_adjacent (edges ++ (u, v) ∷ []) a b
    here a b low high =
        same_pair (with_pair old u v) u v a b (omega (arith, low, order)) (omega (arith, high, order))
        ∙ value_here old false true u v grid (omega (arith, order, at)) at
        ∙ push_same edges u v a b low high

    there : (a b : ℕ) → a < old.n → b < old.n → ((min a b ≡ u) × (max a b ≡ v) → ⊥) → has (with_pair old u v) a b ≡ are_adjacent (edges ++ (u, v) ∷ []) a b
    there a b at_a at_b differ =
        value_other old false true u v a b (omega (arith, order, at)) at at_a at_b (λ e. let low = e.0 in let high = e.1 in differ (omega (arith, low, order), omega (arith, high, order)))
        ∙ was.each a b at_a at_b
        ∙ push_other edges u v a b differ
