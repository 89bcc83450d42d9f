-- The edits of a partition are the number of edges less the sum of the pair weights inside blocks.
use Rattle.std.proofs.Common.{◌≡◌, ◌≢◌, ℕ, ℤ, pos, negsuc, ◌<◌, ◌≤◌, ◌+ℤ◌, ◌*ℤ◌, ◌&&◌, ◌||◌, ◌==◌, Bool, true, false, not, List, [], ◌∷◌, length, slice_index, refl, sym, ◌∙◌, ap, arith, if◌then◌else◌}
use Rattle.std.proofs.lemmas.Int.{ints}
use Rattle.std.proofs.lemmas.Bool.{and_parts, eqb-true}
use Rattle.clu_partition.specs.Pairs.{weight_of}
use Rattle.clu_partition.specs.Partition.{below, share_block}
use Rattle.clu_partition.specs.Sums.{total, pair_total, only_if}
use Rattle.clu_partition.specs.Values.{value_on}
use Rattle.clu_partition.proofs.SumLaws.{pair_add, pair_zero}
use Rattle.clu_partition.proofs.RangeLaws.{each_range, rising_range, among_range}
use Rattle.clu_pace.specs.Graph.{PaceGraph, is_edge, are_adjacent, AreWithin, NoneTwice}
use Rattle.clu_objective.specs.Edits.{edge_weight, PosesEdits, PrintsEdits}
use Rattle.clu_objective.specs.Problem.{Posed}
use Rattle.clu_objective.proofs.Counts.{count_total, pairs_total, pair_cong_rising, picked, pick_pair}
use Rattle.clu_pace.proofs.GraphLaws.{in_order}

-- ---- the pairs with an edge, as the list of edges
none_adjacent : (b : Bool) → only_if (b && false) (pos 1) ≡ pos 0
none_adjacent true = refl
none_adjacent false = refl

one_edge : (p h a : Bool) → (h ≡ true → a ≡ false) → only_if (p && (h || a)) (pos 1) ≡ only_if h (only_if p (pos 1)) +ℤ only_if (p && a) (pos 1)
one_edge true true true n = absurd (let e = n refl in cc)
one_edge false true true n = refl
one_edge true true false n = refl
one_edge false true false n = refl
one_edge true false true n = refl
one_edge false false true n = refl
one_edge true false false n = refl
one_edge false false false n = refl

next_edge : (p : ℕ → ℕ → Bool) (e : ℕ × ℕ) (edges : List (ℕ × ℕ)) → is_edge edges e.0 e.1 ≡ false → (u v : ℕ) → u < v →
    only_if (p u v && are_adjacent (e ∷ edges) u v) (pos 1) ≡ picked e.0 e.1 (λ x y. only_if (p x y) (pos 1)) u v +ℤ only_if (p u v && are_adjacent edges u v) (pos 1)
next_edge p e edges once u v order =
    ap (λ b. only_if (p u v && b) (pos 1)) (in_order (e ∷ edges) u v order) ∙
    one_edge (p u v) (e.0 == u && e.1 == v) (is_edge edges u v) (λ t. absent (and_parts (e.0 == u) (e.1 == v) t)) ∙
    ap (λ b. picked e.0 e.1 (λ x y. only_if (p x y) (pos 1)) u v +ℤ only_if (p u v && b) (pos 1)) (sym (in_order edges u v order))
  where
    absent : ((e.0 == u) ≡ true) × ((e.1 == v) ≡ true) → is_edge edges u v ≡ false
    absent q =
        let a : e.0 ≡ u = eqb-true e.0 u q.0 in
        let b : e.1 ≡ v = eqb-true e.1 v q.1 in
        (λ i. is_edge edges (sym a i) (sym b i)) ∙ once

pub inside_edges : (p : ℕ → ℕ → Bool) (n : ℕ) (edges : List (ℕ × ℕ)) → AreWithin n edges → NoneTwice edges →
    pair_total (λ u v. only_if (p u v && are_adjacent edges u v) (pos 1)) (below n) ≡ total (λ e. only_if (p e.0 e.1) (pos 1)) edges
inside_edges p n [] within once =
    pair_cong_rising (λ u v. only_if (p u v && false) (pos 1)) (λ _ _. pos 0) (λ _. 0 ≤ 0) (below n) (rising_range 0 n) (each_range (λ _. 0 ≤ 0) 0 n (λ _ _ _. omega arith)) (λ u v _ _ _. none_adjacent (p u v)) ∙
    pair_zero (below n)
inside_edges p n (e ∷ edges) within once =
    let z : ℕ → ℕ → ℤ = λ x y. only_if (p x y) (pos 1) in
    let old : ℕ → ℕ → ℤ = λ u v. only_if (p u v && are_adjacent edges u v) (pos 1) in
    pair_cong_rising (λ u v. only_if (p u v && are_adjacent (e ∷ edges) u v) (pos 1)) (λ u v. picked e.0 e.1 (λ x y. only_if (p x y) (pos 1)) u v +ℤ only_if (p u v && are_adjacent edges u v) (pos 1))
    (λ _. 0 ≤ 0) (below n) (rising_range 0 n) (each_range (λ _. 0 ≤ 0) 0 n (λ _ _ _. omega arith)) (λ u v _ _ order. next_edge p e edges once.0 u v order) ∙
    both (pair_add (picked e.0 e.1 (λ x y. only_if (p x y) (pos 1))) (λ u v. only_if (p u v && are_adjacent edges u v) (pos 1)) (below n))
    (pick_pair e.0 e.1 (λ x y. only_if (p x y) (pos 1)) (below n) (rising_range 0 n) within.0 (among_range 0 n e.0 (omega arith) (omega (arith, within.0, within.1))) (among_range 0 n e.1 (omega arith) (omega (arith, within.1))))
    (inside_edges p n edges within.2 once.1)
  where
    both : {a b c x y : ℤ} → a ≡ b +ℤ c → b ≡ x → c ≡ y → a ≡ x +ℤ y
    both f g h = omega (arith, ints, f, g, h)

-- ---- the sum of the pair weights inside blocks
one_pair : (s a : Bool) → only_if s (if a then pos 1 else negsuc 0) +ℤ only_if (s && not a) (pos 1) ≡ only_if (s && a) (pos 1)
one_pair true true = refl
one_pair true false = refl
one_pair false true = refl
one_pair false false = refl

cut_or_inside : (s : Bool) → only_if (not s) (pos 1) +ℤ only_if s (pos 1) ≡ pos 1
cut_or_inside true = refl
cut_or_inside false = refl

all_edges : (p : ℕ → ℕ → Bool) (edges : List (ℕ × ℕ)) → total (λ e. only_if (not (p e.0 e.1)) (pos 1)) edges +ℤ total (λ e. only_if (p e.0 e.1) (pos 1)) edges ≡ pos (length edges)
all_edges p [] = refl
all_edges p (e ∷ edges) = let h = all_edges p edges in let k = cut_or_inside (p e.0 e.1) in omega (arith, ints, h, k)

-- V and the missing edges are the edges inside blocks
weights_inside : (graph : PaceGraph) (weight : ℕ → ℕ → ℤ) (p : ℕ → ℕ → Bool) → ((u v : ℕ) → u < graph.n → v < graph.n → u ≢ v → weight u v ≡ edge_weight graph u v) →
    pair_total (λ u v. only_if (p u v) (weight u v)) (below graph.n) +ℤ pair_total (λ u v. only_if (p u v && not (are_adjacent graph.edges u v)) (pos 1)) (below graph.n)
    ≡ pair_total (λ u v. only_if (p u v && are_adjacent graph.edges u v) (pos 1)) (below graph.n)
weights_inside graph weight p weights =
    sym (pair_add (λ u v. only_if (p u v) (weight u v)) (λ u v. only_if (p u v && not (are_adjacent graph.edges u v)) (pos 1)) (below graph.n)) ∙
    pair_cong_rising (λ u v. only_if (p u v) (weight u v) +ℤ only_if (p u v && not (are_adjacent graph.edges u v)) (pos 1)) (λ u v. only_if (p u v && are_adjacent graph.edges u v) (pos 1))
    (λ x. x < graph.n) (below graph.n) (rising_range 0 graph.n) (each_range (λ x. x < graph.n) 0 graph.n (λ x _ l. omega (arith, l)))
    (λ u v lu lv order. ap (λ w. only_if (p u v) w +ℤ only_if (p u v && not (are_adjacent graph.edges u v)) (pos 1)) (weights u v lu lv (λ e. omega (arith, e, order))) ∙ one_pair (p u v) (are_adjacent graph.edges u v))

pub prints_edits : (graph : PaceGraph) (problem : Posed) → AreWithin graph.n graph.edges → NoneTwice graph.edges → PosesEdits graph problem → PrintsEdits graph problem
prints_edits graph problem within once poses = λ labels.
    let inside = weights_inside graph (weight_of problem.pairs) (share_block labels) poses.weights in
    let edges = inside_edges (share_block labels) graph.n graph.edges within once in
    let all = all_edges (share_block labels) graph.edges in
    let cut = count_total (λ (e : ℕ × ℕ). not (share_block labels e.0 e.1)) graph.edges in
    let missing = pairs_total (λ u v. share_block labels u v && not (are_adjacent graph.edges u v)) (below graph.n) in
    let v : ℤ = value_on (weight_of problem.pairs) (slice_index labels) (below graph.n) in
    ap (λ (k : ℤ). k +ℤ problem.factor *ℤ v) poses.base ∙ ap (λ (k : ℤ). pos (length graph.edges) +ℤ k *ℤ v) poses.factor ∙
    omega (arith, ints, inside, edges, all, cut, missing)
