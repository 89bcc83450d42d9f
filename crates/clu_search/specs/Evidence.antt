-- What a search of a problem and its rules has to show where it ends.
use Rattle.std.specs.Prelude.{◌≡◌, ℕ, slice_index}
use Rattle.clu_partition.specs.Closed.{Closed, IsPermitted}
use Rattle.clu_partition.specs.Pairs.{weight_of}
use Rattle.clu_partition.specs.Partition.{below, IsPartition}
use Rattle.clu_partition.specs.Values.{value_on}
use Rattle.clu_objective.specs.Problem.{Posed, printed, IsBetterOrEqual}
use Rattle.clu_cert.specs.Fits.{Fits}
use Rattle.clu_cert.specs.Valid.{IsValid}
use Rattle.clu_search.specs.Outcome.{StatesItsBound, branchings_of}
use Rattle.clu_search.specs.declared.solver.Evidence.{Evidence}

-- a permitted partition, and a valid certificate with its labels whose bound is exactly what its items prove
pub record IsEvidence (problem : Posed) (start : Closed) (e : Evidence) : Type 0 where
  pub partition : IsPartition problem.pairs.n e.partition
  pub permitted : IsPermitted start (slice_index e.partition)
  pub valid : IsValid problem start e.certificate
  pub labels : e.certificate.labels ≡ e.partition
  pub exact : StatesItsBound problem start e.certificate
  pub none_better : (label : ℕ → ℕ) → IsPermitted start label → IsBetterOrEqual problem.objective e.certificate.bound
      (printed problem (value_on (weight_of problem.pairs) label (below problem.pairs.n)))
  pub branchings : e.branchings ≡ branchings_of e.certificate
  pub fits : Fits e.certificate
