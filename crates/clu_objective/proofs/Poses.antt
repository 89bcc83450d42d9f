-- A graph's table poses the problem of cluster editing.
use Rattle.std.proofs.Common.{◌≡◌, ℕ, suc, ℤ, pos, negsuc, ◌+ℤ◌, ◌≤ℤ◌, ◌+◌, ◌*◌, ◌<◌, ◌≤◌, ◌^◌, Bool, true, false, List, [], ◌∷◌, length, min, max, sym, ap, ◌∙◌, subst, arith, refl, unsigned_abs, if◌then◌else◌, ◌≢◌, ⊎_elim}
use Rattle.std.proofs.lemmas.Int.{ints}
use Rattle.std.proofs.lemmas.List.FromFn.{length-range_with_len}
use Rattle.clu_partition.specs.Partition.{below}
use Rattle.clu_partition.specs.Pairs.{Pairs, weight_of, total_of, IsTable}
use Rattle.clu_partition.specs.Sums.{total, pair_total}
use Rattle.clu_partition.proofs.RangeLaws.{each_range, rising_range}
use Rattle.clu_pace.specs.Graph.{PaceGraph, are_adjacent, is_edge}
use Rattle.clu_objective.specs.Edits.{edge_weight, PosesEdits}
use Rattle.clu_objective.specs.Problem.{Posed, IsPosed}
use Rattle.clu_objective.specs.declared.objective.Objective.TheVariants.{Edits}
use Rattle.clu_objective.proofs.Counts.{pair_cong_rising}
use Rattle.clu_partition.proofs.SumLaws.{total_ones}
use Rattle.clu_partition.proofs.TableLaws.{weight_sym, same_tables}
use Rattle.std.proofs.lemmas.Bool.{cases_order}

edge_turned : (graph : PaceGraph) (u v : ℕ) → edge_weight graph u v ≡ edge_weight graph v u
edge_turned graph u v =
    let low : min u v ≡ min v u = omega arith in
    let high : max u v ≡ max v u = omega arith in
    λ i. if is_edge graph.edges (low i) (high i) then pos 1 else negsuc 0

-- the weights of a graph's pairs in both orders
pub both_orders : (t : Pairs) (n : ℕ) (f : ℕ → ℕ → ℤ) → ((u v : ℕ) → f u v ≡ f v u) → ((x z : ℕ) → x < z → z < n → weight_of t x z ≡ f x z) → (u v : ℕ) → u < n → v < n → u ≢ v → weight_of t u v ≡ f u v
both_orders t n f turned h u v un vn d = ⊎_elim
    (λ e. absurd (d e))
    (λ differ. ⊎_elim (λ l. h u v l vn) (λ l. weight_sym t u v ∙ h v u l un ∙ turned v u) differ)
    (cases_order u v)

-- ---- the total of the absolute weights
unit_size : (b : Bool) → unsigned_abs (if b then pos 1 else negsuc 0) ≡ 1
unit_size true = refl
unit_size false = refl

pair_ones : (k : ℕ) (xs : List ℕ) → length xs ≤ k → pair_total (λ _ _. pos 1) xs ≤ℤ pos (k * length xs)
pair_ones k [] l = omega (arith, ints)
pair_ones k (x ∷ xs) l =
    let h = pair_ones k xs (omega arith) in
    let o = total_ones xs in
    let m : k * suc (length xs) ≡ k * length xs + k = omega arith in
    let i : length xs ≤ k = omega arith in
    subst (λ (j : ℕ). (total (λ _. pos 1) xs +ℤ pair_total (λ _ _. pos 1) xs) ≤ℤ pos j) (sym m) (omega (arith, ints, h, o, i))

units_small : (pairs : Pairs) (f : ℕ → ℕ → ℤ) → pairs.n ≤ 1000 → ((x z : ℕ) → x < z → z < pairs.n → unsigned_abs (weight_of pairs x z) ≡ 1) → total_of pairs ≤ℤ pos (2 ^ 88)
units_small pairs f small units =
    let same : total_of pairs ≡ pair_total (λ _ _. pos 1) (below pairs.n) = pair_cong_rising (λ u v. pos (unsigned_abs (weight_of pairs u v))) (λ _ _. pos 1) (λ x. x < pairs.n) (below pairs.n) (rising_range 0 pairs.n)
    (each_range (λ x. x < pairs.n) 0 pairs.n (λ x _ l. omega (arith, l))) (λ u v lu lv order. ap pos (units u v order lv)) in
    let size : length (below pairs.n) ≡ pairs.n = length-range_with_len 0 pairs.n in
    let most = pair_ones 1000 (below pairs.n) (omega (arith, size, small)) in
    omega (arith, ints, same, most, size, small)

abbrev pub edit_problem : Pairs → ℤ → Posed
edit_problem pairs base = record { objective = Edits; pairs = pairs; base = base; factor = negsuc 0; scale = 1 }

module _ (graph : PaceGraph) (pairs : Pairs) (base : ℤ) (table : IsTable pairs) (size : pairs.n ≡ graph.n)
    (weights : (x z : ℕ) → x < z → z < graph.n → weight_of pairs x z ≡ edge_weight graph x z) where
  pub poses : base ≡ pos (length graph.edges) → PosesEdits graph (edit_problem pairs base)
  poses is = record {
    objective = refl;
    table = table;
    vertices = size;
    weights = both_orders pairs graph.n (edge_weight graph) (edge_turned graph) weights;
    base = is;
    factor = refl;
    scale = refl;
  }

  pub posed : unsigned_abs base ≤ 2 ^ 89 → IsPosed (edit_problem pairs base)
  posed few = record {
    table = table;
    total = units_small pairs (edge_weight graph) table.grid.small (λ x z order l. ap unsigned_abs (weights x z order (omega (arith, l, size))) ∙ unit_size (are_adjacent graph.edges x z));
    base = few;
    factor = refl;
  }

-- a graph has one problem of cluster editing
pub one_problem : (graph : PaceGraph) (p q : Posed) → PosesEdits graph p → PosesEdits graph q → p ≡ q
one_problem graph p q first second = λ i. record {
  objective = objective i;
  pairs = pairs i;
  base = base i;
  factor = factor i;
  scale = scale i;
}
  where
    size : p.pairs.n ≡ q.pairs.n
    size = first.vertices ∙ sym second.vertices

    same : (x z : ℕ) → x < z → z < p.pairs.n → weight_of p.pairs x z ≡ weight_of q.pairs x z
    same x z l h =
        let n = first.vertices in
        let low : x < graph.n = omega (arith, l, h, n) in
        let high : z < graph.n = omega (arith, h, n) in
        let differ : x ≢ z = λ e. omega (arith, e, l) in
        first.weights x z low high differ ∙ sym (second.weights x z low high differ)

    objective : p.objective ≡ q.objective
    objective = first.objective ∙ sym second.objective

    pairs : p.pairs ≡ q.pairs
    pairs = same_tables p.pairs q.pairs first.table second.table size same

    base : p.base ≡ q.base
    base = first.base ∙ sym second.base

    factor : p.factor ≡ q.factor
    factor = first.factor ∙ sym second.factor

    scale : p.scale ≡ q.scale
    scale = first.scale ∙ sym second.scale
