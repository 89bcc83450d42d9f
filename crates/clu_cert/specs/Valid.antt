-- Which certificates are valid for a problem and its rules.
use Rattle.std.specs.Prelude.{◌≡◌, ℕ, ◌<◌, ◌^◌, ℤ, pos, List, [], ◌∷◌, true, ◌&&◌, length, slice_index, map, filter}
use Rattle.std.specs.Int.{int_min}
use Rattle.clu_partition.specs.Sums.{total}
use Rattle.clu_partition.specs.Pairs.{weight_of}
use Rattle.clu_partition.specs.Partition.{below, IsPartition}
use Rattle.clu_partition.specs.Values.{value_on}
use Rattle.clu_partition.specs.Closed.{Closed, joins}
use Rattle.clu_objective.specs.Problem.{Posed, printed, IsBetterOrEqual}
use Rattle.clu_state.specs.State.{State, undecided}
use Rattle.clu_state.specs.declared.decision.Decision.{Decision}
use Rattle.clu_reduce.specs.Reduction.{decision_of}
pub use Rattle.clu_reduce.specs.Steps.{StepsHold, stepped}
pub use Rattle.clu_reduce.specs.Parts.{Rises, IsOutside, IsPart, AllParts, Cover, is_in}
use Rattle.clu_reduce.specs.declared.step.Step.{Step}
use Rattle.clu_cert.specs.Upper.{HasUpper}
use Rattle.clu_cert.specs.declared.certificate.Certificate.{Certificate}
use Rattle.clu_cert.specs.declared.certificate.Proof.{Proof}

-- ---- the partition
-- the objective and the number of labels are the problem's
pub record HasShape (problem : Posed) (cert : Certificate) : Type 0 where
  pub objective : cert.objective ≡ problem.objective
  pub one_each : length cert.labels ≡ problem.pairs.n

-- the two vertices share a block where the rules tie them, and don't where the rules keep their groups apart
pub record ObeysAt (start : Closed) (labels : List ℕ) (u v : ℕ) : Type 0 where
  pub tied : slice_index start.group u ≡ slice_index start.group v → slice_index labels u ≡ slice_index labels v
  pub apart : joins (slice_index start.group) start.forbidden u v ≡ true → slice_index labels u ≡ slice_index labels v → ⊥

abbrev pub ObeyRules : ℕ → Closed → List ℕ → Type 0
ObeyRules n start labels = (u v : ℕ) → u < v → v < n → ObeysAt start labels u v

-- the printed objective of the labels
abbrev pub printed_value : Posed → List ℕ → ℤ
printed_value problem labels = printed problem (value_on (weight_of problem.pairs) (slice_index labels) (below problem.pairs.n))

-- ---- the root
-- the state of all vertices without decisions
abbrev pub whole_state : Posed → Closed → State
whole_state problem start = undecided problem.pairs start (below problem.pairs.n)

-- ---- the parts
abbrev pub parts_of : Certificate → List (List ℕ)
parts_of cert = map (λ proof. proof.part) cert.proofs

-- ---- the proofs of the parts
-- what the steps decide within the part
abbrev pub decisions_within : List ℕ → List Step → List Decision
decisions_within part steps = map decision_of (filter (λ step. is_in part step.u && is_in part step.v) steps)

-- the state from which the items of a part are read: its vertices, with the decisions of the root steps within it
abbrev pub part_state : Posed → Closed → List Step → List ℕ → State
part_state problem start steps part =
    record { pairs = problem.pairs; start = start; members = part; decisions = decisions_within part steps }

-- the proofs have these uppers, one each
abbrev pub HaveUppers : Posed → Closed → List Step → List Proof → List ℤ → Type 0
HaveUppers problem start steps [] [] = Unit {0}
HaveUppers problem start steps [] (upper ∷ uppers) = ⊥
HaveUppers problem start steps (proof ∷ proofs) [] = ⊥
HaveUppers problem start steps (proof ∷ proofs) (upper ∷ uppers) =
    HasUpper (part_state problem start steps proof.part) proof.items upper × HaveUppers problem start steps proofs uppers

-- The printed sum of the uppers. No value passes 2 ^ 88, so a larger sum says no more than that.
abbrev pub proved_bound : Posed → List ℤ → ℤ
proved_bound problem uppers = printed problem (int_min (total (λ upper. upper) uppers) (pos (2 ^ 88)))

-- ---- the whole
-- The conditions of a valid certificate, in the order in which they are tried.
pub record IsValid (problem : Posed) (start : Closed) (cert : Certificate) : Type 0 where
  pub shape : HasShape problem cert
  pub partition : IsPartition problem.pairs.n cert.labels
  pub rules : ObeyRules problem.pairs.n start cert.labels
  pub value : cert.value ≡ printed_value problem cert.labels
  pub steps : StepsHold (whole_state problem start) cert.root_steps
  pub parts : AllParts (stepped (whole_state problem start) cert.root_steps) [] (parts_of cert)
  pub cover : Cover (stepped (whole_state problem start) cert.root_steps) (parts_of cert)
  pub uppers : List ℤ
  pub proved : HaveUppers problem start cert.root_steps cert.proofs uppers
  pub bound : IsBetterOrEqual problem.objective cert.bound (proved_bound problem uppers)
