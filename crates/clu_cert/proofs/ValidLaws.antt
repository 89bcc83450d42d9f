-- What a valid certificate proves: no permitted partition is better than its bound.
use Rattle.std.proofs.Common.{ℕ, ℤ, pos, neg_ℤ, ◌≤ℤ◌, ◌≤◌, ◌^◌, unsigned_abs, List, ◌==◌, arith}
use Rattle.std.specs.Int.{int_min}
use Rattle.std.proofs.lemmas.Int.{ints, clamps}
use Rattle.clu_partition.specs.Sums.{total}
use Rattle.clu_partition.specs.Pairs.{weight_of}
use Rattle.clu_partition.specs.Partition.{below}
use Rattle.clu_partition.specs.Values.{value_on}
use Rattle.clu_partition.specs.Closed.{Closed, IsPermitted}
use Rattle.clu_partition.proofs.ValueSizes.{value_size}
use Rattle.clu_objective.specs.Problem.{Posed, IsPosed, printed, IsBetterOrEqual}
use Rattle.clu_objective.proofs.Better.{printed_better, better_trans}
use Rattle.clu_reduce.specs.declared.step.Step.{Step}
use Rattle.clu_cert.specs.declared.certificate.Certificate.{Certificate}
use Rattle.clu_cert.specs.declared.certificate.Proof.{Proof}
use Rattle.clu_cert.specs.Valid.{IsValid, proved_bound}
use Rattle.clu_cert.proofs.States.{IsTask}
use Rattle.clu_cert.proofs.Uppers.{HasProofs, uppers_sound, uppers_least}

-- the sum of the uppers, cut where no value passes
abbrev pub cut_sum : List ℤ → ℤ
cut_sum uppers = int_min (total (λ upper. upper) uppers) (pos (2 ^ 88))

-- no value passes the total of the weights
pub value_most : (problem : Posed) → IsPosed problem → (label : ℕ → ℕ) →
    value_on (weight_of problem.pairs) label (below problem.pairs.n) ≤ℤ pos (2 ^ 88)
value_most problem posed label =
    let h = value_size (λ u v. label u == label v) (weight_of problem.pairs) (below problem.pairs.n) in
    let t = posed.total in
    omega (arith, ints, h, t)

-- the cut sum can be printed
pub cut_size : (problem : Posed) (start : Closed) (steps : List Step) (proofs : List Proof) (uppers : List ℤ) →
    HasProofs problem start steps proofs uppers →
    unsigned_abs (cut_sum uppers) ≤ 2 ^ 88
cut_size problem start steps proofs uppers h = small (total (λ upper. upper) uppers) (uppers_least problem start steps proofs uppers h)
  where
    small : (z : ℤ) → neg_ℤ (pos (2 ^ 88)) ≤ℤ z → unsigned_abs (int_min z (pos (2 ^ 88))) ≤ 2 ^ 88
    small z l = omega (arith, ints, clamps, l)

-- no permitted partition is printed as a better number than the cut sum
pub proved_sound : (problem : Posed) (start : Closed) (steps : List Step) (proofs : List Proof) (uppers : List ℤ) →
    HasProofs problem start steps proofs uppers →
    (label : ℕ → ℕ) → IsPermitted start label →
    IsBetterOrEqual problem.objective (proved_bound problem uppers)
    (printed problem (value_on (weight_of problem.pairs) label (below problem.pairs.n)))
proved_sound problem start steps proofs uppers h label p =
    printed_better problem (value_on (weight_of problem.pairs) label (below problem.pairs.n)) (cut_sum uppers) h.root.task.posed.factor
    (least (value_on (weight_of problem.pairs) label (below problem.pairs.n)) (total (λ upper. upper) uppers)
    (uppers_sound problem start steps proofs uppers h label p) (value_most problem h.root.task.posed label))
  where
    least : (v z : ℤ) → v ≤ℤ z → v ≤ℤ pos (2 ^ 88) → v ≤ℤ int_min z (pos (2 ^ 88))
    least v z a b = omega (arith, ints, clamps, a, b)

pub bound_sound : (problem : Posed) (start : Closed) (steps : List Step) (proofs : List Proof) (uppers : List ℤ) (bound : ℤ) →
    HasProofs problem start steps proofs uppers →
    IsBetterOrEqual problem.objective bound (proved_bound problem uppers) → (label : ℕ → ℕ) → IsPermitted start label →
    IsBetterOrEqual problem.objective bound (printed problem (value_on (weight_of problem.pairs) label (below problem.pairs.n)))
bound_sound problem start steps proofs uppers bound h b label p =
    better_trans problem.objective bound (proved_bound problem uppers)
    (printed problem (value_on (weight_of problem.pairs) label (below problem.pairs.n))) b
    (proved_sound problem start steps proofs uppers h label p)

pub has_proofs : (problem : Posed) (start : Closed) (cert : Certificate) → IsTask problem start → (valid : IsValid problem start cert) →
    HasProofs problem start cert.root_steps cert.proofs valid.uppers
has_proofs problem start cert t valid = record {
  root = record { task = t; held = valid.steps };
  parts = valid.parts;
  cover = valid.cover;
  proved = valid.proved;
}

pub valid_sound : (problem : Posed) (start : Closed) (cert : Certificate) → IsTask problem start → IsValid problem start cert → (label : ℕ → ℕ) →
    IsPermitted start label →
    IsBetterOrEqual problem.objective cert.bound (printed problem (value_on (weight_of problem.pairs) label (below problem.pairs.n)))
valid_sound problem start cert t valid =
    bound_sound problem start cert.root_steps cert.proofs valid.uppers cert.bound (has_proofs problem start cert t valid) valid.bound
