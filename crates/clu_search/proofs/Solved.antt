-- What the certificate of a search says of the outcome.
use Rattle.std.proofs.Common.{◌≡◌, ◌≢◌, ⊎_elim, ℕ, ◌<◌, List, length, slice_index, sym, ◌∙◌, subst}
use Rattle.clu_partition.specs.Closed.{Closed, IsPermitted}
use Rattle.clu_partition.specs.Partition.{IsPartition}
use Rattle.clu_objective.specs.Problem.{Posed}
use Rattle.clu_cert.specs.declared.certificate.Certificate.{Certificate}
use Rattle.clu_cert.proofs.ValidLaws.{valid_sound}
use Rattle.clu_search.specs.Count.{partitions, permitted_of}
use Rattle.clu_search.specs.Evidence.{IsEvidence}
use Rattle.clu_search.specs.Search.{IsCertOfBest, IsSearch, IsStopped, made}
use Rattle.clu_search.specs.declared.solver.Evidence.{Evidence}
use Rattle.clu_search.specs.declared.search.Search.{Search}
use Rattle.clu_search.proofs.PartsCounted.{valid_counted}
use Rattle.clu_search.proofs.Permitted.{has_each_permitted}
use Rattle.clu_search.proofs.Searching.{task_of}

-- what the search at its end and its certificate show
pub evidence_of : (s : Search) (problem : Posed) (start : Closed) (e : Evidence) → IsSearch s → IsCertOfBest s e.certificate →
    e.partition ≡ s.incumbent.partition → e.branchings ≡ made s → s.problem.now ≡ problem → s.start.now ≡ start → IsEvidence problem start e
evidence_of s problem start e i certified found counted p q = subst (λ c. IsEvidence problem c e) q (subst (λ r. IsEvidence r s.start.now e) p (record {
  partition = subst (IsPartition s.problem.now.pairs.n) (sym found) i.known.partition;
  permitted = subst (λ labels. IsPermitted s.start.now (slice_index labels)) (sym found) i.known.permitted;
  valid = certified.valid;
  labels = certified.labels ∙ sym found;
  exact = certified.exact;
  none_better = valid_sound s.problem.now s.start.now e.certificate (task_of s.problem.now s.start.now i.posed i.state) certified.valid;
  branchings = counted ∙ sym certified.branchings;
  fits = certified.fits;
}))

-- said of a problem and rules that are the same
pub evidence_for : (problem other : Posed) (start also : Closed) (e : Evidence) → problem ≡ other → start ≡ also → IsEvidence problem start e →
    IsEvidence other also e
evidence_for problem other start also e p q h = subst (λ c. IsEvidence other c e) q (subst (λ r. IsEvidence r start e) p h)

-- fewer branchings were made than there are permitted partitions
pub made_counted : (s : Search) (cert : Certificate) (branchings : ℕ) (start : Closed) → IsSearch s → IsCertOfBest s cert → branchings ≡ made s →
    s.start.now ≡ start → branchings < length (permitted_of start (partitions (length start.group)))
made_counted s cert branchings start i certified is q =
    let lists : List (List ℕ) = permitted_of s.start.now (partitions (length s.start.now.group)) in
    subst (λ (c : Closed). branchings < length (permitted_of c (partitions (length c.group)))) q
    (subst (λ k. k < length lists) (sym (is ∙ sym certified.branchings))
    (valid_counted s.problem.now s.start.now cert lists (task_of s.problem.now s.start.now i.posed i.state) certified.valid
    (has_each_permitted s.start.now)))

-- value and bound differ only where all allowed branchings were made
pub all_made : (s : Search) (cert : Certificate) (branchings limit : ℕ) → IsCertOfBest s cert → branchings ≡ made s → IsStopped s limit →
    cert.value ≢ cert.bound → branchings ≡ limit
all_made s cert branchings limit certified is stopped gap = ⊎_elim (λ all. is ∙ all) (λ last. absurd (gap (certified.optimal last))) stopped
