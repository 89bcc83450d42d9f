-- A value depends on the blocks alone.
use Rattle.std.proofs.Common.{◌≡◌, ℕ, ℤ, ◌<◌, ◌==◌, ⊎_elim, List, length, slice_index, sym, ◌∙◌, ap, arith}
use Rattle.std.proofs.lemmas.Bool.{cases_eq, eq-eqb, ne_eqb}
use Rattle.clu_partition.specs.Partition.{below, SameBlocks}
use Rattle.clu_partition.specs.Sums.{only_if}
use Rattle.clu_partition.specs.Values.{value_on}
use Rattle.clu_partition.proofs.SumLaws.{pair_cong_on}
use Rattle.clu_partition.proofs.Ranges.{each_below}
use Rattle.clu_partition.specs.Pairs.{Pairs, weight_of}
use Rattle.clu_objective.specs.Problem.{Posed, printed}
use Rattle.clu_cert.specs.Valid.{printed_value}

same_test : (a b x y : ℕ) (z : ℤ) → (a ≡ b → x ≡ y) → (x ≡ y → a ≡ b) → only_if (x == y) z ≡ only_if (a == b) z
same_test a b x y z to from = ⊎_elim
    (λ e. ap (λ t. only_if t z) (eq-eqb x y (to e) ∙ sym (eq-eqb a b e)))
    (λ d. ap (λ t. only_if t z) (ne_eqb x y (λ e. d (from e)) ∙ sym (ne_eqb a b d)))
    (cases_eq a b)

pub same_value : (weight : ℕ → ℕ → ℤ) (labels others : List ℕ) (n : ℕ) → length labels ≡ n → SameBlocks labels others
    → value_on weight (slice_index others) (below n) ≡ value_on weight (slice_index labels) (below n)
same_value weight labels others n size same =
    pair_cong_on (λ u v. only_if (slice_index others u == slice_index others v) (weight u v))
    (λ u v. only_if (slice_index labels u == slice_index labels v) (weight u v))
    (λ v. v < n) (below n) (each_below n)
    (λ u v l m. let h = same u v (omega (arith, size, l)) (omega (arith, size, m)) in
    same_test (slice_index labels u) (slice_index labels v) (slice_index others u) (slice_index others v) (weight u v) h.0 h.1)

pub printed_of : (problem : Posed) (pairs : Pairs) (labels others : List ℕ) (v z : ℤ) → pairs ≡ problem.pairs → length labels ≡ problem.pairs.n →
    SameBlocks labels others
    → v ≡ value_on (weight_of pairs) (slice_index others) (below pairs.n) → z ≡ printed problem v → z ≡ printed_value problem labels
printed_of problem pairs labels others v z are size same is e =
    e ∙ ap (printed problem) (is ∙ ap (λ (t : Pairs). value_on (weight_of t) (slice_index others) (below t.n)) are
    ∙ same_value (weight_of problem.pairs) labels others problem.pairs.n size same)
