-- A certificate that the checker accepts is a proof, and one that it rejects certifies nothing.
use Rattle.std.proofs.Common.{◌≡◌, ◌≢◌, ℕ, ◌<◌, ℤ, List, length, slice_index, sym, ◌∙◌, ap, subst, ⊎_elim, arith}
use Rattle.std.proofs.lemmas.Bool.{cases_lt}
use Rattle.std.proofs.lemmas.List.Elements.{All-contains}
use Rattle.clu_partition.specs.Closed.{Closed, IsClosed, IsPermitted}
use Rattle.clu_partition.specs.Pairs.{weight_of}
use Rattle.clu_partition.specs.Partition.{below, IsPartition}
use Rattle.clu_partition.specs.Values.{value_on}
use Rattle.clu_partition.proofs.JoinLaws.{joins_listed}
use Rattle.clu_partition.proofs.StartLaws.{all_from}
use Rattle.clu_objective.specs.Problem.{Posed, printed, IsBetterOrEqual}
use Rattle.clu_objective.specs.declared.objective.Objective.{Objective}
use Rattle.clu_rules.specs.Lines.{Rule}
use Rattle.clu_rules.proofs.ClosureLaws.{one_closure, permitted_obeys}
use Rattle.clu_cert.specs.Fits.{Fits}
use Rattle.clu_cert.specs.Text.{cert_text}
use Rattle.clu_cert.specs.Valid.{IsValid, ObeyRules}
use Rattle.clu_cert.specs.declared.certificate.Certificate.{Certificate}
use Rattle.clu_check.specs.Rejected.{IsRejected}
use Rattle.clu_check.specs.declared.reject.Reject.{Reject}
use Rattle.clu_check.specs.declared.reject.Reject.TheVariants as reject
use Rattle.clu_cli.specs.Cases.{Case, IsStartOf, case_of}
use Rattle.clu_cli.specs.Headline.{IsFaulty, IsNumbered, IsProofOf, NoneCertifies}
use Rattle.clu_cli.specs.Instances.{Poses, PrintsWorth, names_of, objective_of, vertices_of}
use Rattle.clu_cli.specs.Report.{check_report}
use Rattle.clu_cli.specs.Steps.{IsWithin, StopsCheck, StopsRejected}
use Rattle.clu_cli.specs.declared.stop.Stop.{Stop}
use Rattle.clu_cli.specs.declared.stop.Stop.TheVariants as stop
use Rattle.clu_cli.specs.declared.instance.Instance.{Instance}
use Rattle.clu_cli.proofs.Answered.{none_better as none_better_than, value_worth}
use Rattle.clu_cli.proofs.InstanceLaws.{one_problem, scale_posed, vertices_posed}

-- labels that obey closed rules at each pair are permitted
obey_permitted : (n : ℕ) (start : Closed) (labels : List ℕ) → length start.group ≡ n → IsClosed start → ObeyRules n start labels → IsPermitted start (slice_index labels)
obey_permitted n start labels size closed obey = record {
  required = λ v at. ⊎_elim
      (λ less. (obey (slice_index start.group v) v less (omega (arith, at, size))).tied (closed.least v at))
      (λ no. let low = closed.below v at in ap (slice_index labels) (omega (arith, low, no)))
      (cases_lt (slice_index start.group v) v);
  forbidden = all_from (λ p. slice_index labels p.0 ≡ slice_index labels p.1 → ⊥) start.forbidden (λ p listed.
      let range = All-contains (λ q. (q.0 < length start.group) × (q.1 < length start.group)) start.forbidden p closed.in_range listed in
      let last = range.1 in
      (obey p.0 p.1 (All-contains (λ q. q.0 < q.1) start.forbidden p closed.ordered listed) (omega (arith, last, size))).apart
      (joins_listed (slice_index start.group) start.forbidden p listed));
}

module _ (instance : Instance) (rules : List Rule) (problem : Posed) (poses : Poses instance problem) (start : Closed) (closes : IsStartOf (case_of instance rules) start)
    (bytes : List ℕ) (cert : Certificate) (only : (other : Certificate) → Fits other → bytes ≡ cert_text other → other ≡ cert) where
  pub none_certifies : (IsValid problem start cert → ⊥) → NoneCertifies (case_of instance rules) bytes
  none_certifies invalid other fits is c =
      invalid (subst (λ (one : Certificate). IsValid problem start one) (only other fits is)
      (subst (λ (one : Closed). IsValid problem one other) (one_closure (vertices_of instance) rules start c.start closes c.closes)
      (subst (λ (one : Posed). IsValid one c.start other) (one_problem instance c.problem problem c.poses poses) c.valid)))

  -- what is printed of one that is accepted
  pub proves : PrintsWorth instance problem → Fits cert → bytes ≡ cert_text cert → IsValid problem start cert → (value bound : ℤ) → value ≡ cert.value → bound ≡ cert.bound
      → ((label : ℕ → ℕ) → IsPermitted start label
      → IsBetterOrEqual problem.objective bound (printed problem (value_on (weight_of problem.pairs) label (below problem.pairs.n))))
      → (objective : Objective) → objective ≡ objective_of instance → (vertices : ℕ) → vertices ≡ vertices_of instance → (scale : ℕ) → scale ≡ problem.scale
      → (report : List ℕ) → report ≡ check_report objective vertices value bound scale → IsProofOf (case_of instance rules) bytes report
  proves prints fits read valid value bound value_is bound_is none_better objective objective_is vertices vertices_is scale scale_is report report_is =
      let n = vertices_of instance in
      let posed = vertices_posed instance problem poses in
      let partition : IsPartition n cert.labels = subst (λ (m : ℕ). IsPartition m cert.labels) posed valid.partition in
      let obey : ObeyRules n start cert.labels = subst (λ (m : ℕ). ObeyRules m start cert.labels) posed valid.rules in
      record {
        cert = cert;
        fits = fits;
        read = read;
        only = only;
        certifies = record { problem = problem; poses = poses; start = start; closes = closes; valid = valid };
        allowed = record {
          partition = partition;
          obeys = (permitted_obeys n rules start closes (slice_index cert.labels)).0 (obey_permitted n start cert.labels closes.made.size closes.closed obey);
        };
        value = valid.value ∙ value_worth instance problem poses prints cert.labels partition;
        none_better = λ others is. none_better_than instance problem poses prints cert.bound start
            (λ label permitted. subst (λ (b : ℤ). IsBetterOrEqual problem.objective b (printed problem (value_on (weight_of problem.pairs) label (below problem.pairs.n)))) bound_is
            (none_better label permitted))
            others is.partition ((permitted_obeys n rules start closes (slice_index others)).1 is.obeys);
        scale = problem.scale;
        scale_is = scale_posed instance problem poses;
        printed_is = report_is ∙ (λ i. check_report (objective_is i) (vertices_is i) (value_is i) (bound_is i) (scale_is i));
      }

-- ---- what a rejection stops a command with
-- a rejection by a rule names two vertices
pub within_of : (n : ℕ) (problem : Posed) (start : Closed) (cert : Certificate) (found : Reject) → IsRejected problem start cert found → problem.pairs.n ≡ n → IsWithin n found
within_of n problem start cert reject.Shape h size = tt
within_of n problem start cert reject.Blocks h size = tt
within_of n problem start cert (reject.Rule u v) h size = let less = h.1.ordered in let last = h.1.within in (omega (arith, less, last, size), omega (arith, last, size))
within_of n problem start cert (reject.Value found) h size = tt
within_of n problem start cert (reject.Step item) h size = tt
within_of n problem start cert (reject.Parts part) h size = tt
within_of n problem start cert (reject.Leaf item) h size = tt
within_of n problem start cert (reject.Unfinished part) h size = tt
within_of n problem start cert (reject.Bound found) h size = tt
within_of n problem start cert reject.Memory h size = tt

pub turns_down : (case : Case) (bytes : List ℕ) (found : Reject) → (found ≢ reject.Memory → NoneCertifies case bytes) → IsFaulty case bytes found
    → (stop : Stop) → StopsRejected (names_of case.instance) found stop → StopsCheck case bytes stop
turns_down case bytes found none faulty (stop.Rejected told) h =
    (none (λ memory. subst IsNumbered (h.0 ∙ memory) h.1), (h.1, subst (λ (r : Reject). IsFaulty case bytes r) (sym h.0) faulty))
turns_down case bytes found none faulty (stop.Broken pair) h =
    (none (λ memory. not_memory h.0 h.1 (sym h.2 ∙ memory)), (h.0, h.1, subst (λ (r : Reject). IsFaulty case bytes r) h.2 faulty, h.3))
  where
    not_memory : (u v : ℕ) → reject.Rule u v ≡ reject.Memory → ⊥
    not_memory u v e = cc
turns_down case bytes found none faulty (stop.BadText line) h = absurd h
turns_down case bytes found none faulty (stop.Refused refusal) h = absurd h
turns_down case bytes found none faulty (stop.Contradiction pair) h = absurd h
turns_down case bytes found none faulty stop.Words h = absurd h
turns_down case bytes found none faulty stop.ReadFault h = absurd h
turns_down case bytes found none faulty stop.WriteFault h = absurd h
turns_down case bytes found none faulty stop.Memory h = tt
turns_down case bytes found none faulty stop.TooLong h = absurd h
turns_down case bytes found none faulty stop.NoFile h = absurd h
