-- A law of adjacency.
use Rattle.std.proofs.Common.{◌≡◌, ℕ, ◌<◌, List, min, max, arith}
use Rattle.clu_pace.specs.Graph.{is_edge, are_adjacent}

-- two vertices in order are adjacent where they are an edge
pub in_order : (edges : List (ℕ × ℕ)) (u v : ℕ) → u < v → are_adjacent edges u v ≡ is_edge edges u v
in_order edges u v order =
    let low : min u v ≡ u = omega arith in
    let high : max u v ≡ v = omega arith in
    λ i. is_edge edges (low i) (high i)
