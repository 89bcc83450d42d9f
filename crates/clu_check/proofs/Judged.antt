-- What is accepted is valid, and so no permitted partition is better than its bound.
use Rattle.std.proofs.Common.{◌≡◌, ℕ, ℤ, List, sym, subst}
use Rattle.clu_partition.specs.Closed.{Closed, IsPermitted}
use Rattle.clu_partition.specs.Pairs.{weight_of}
use Rattle.clu_partition.specs.Partition.{below}
use Rattle.clu_partition.specs.Values.{value_on}
use Rattle.clu_objective.specs.Problem.{Posed, printed, IsBetterOrEqual}
use Rattle.clu_cert.specs.declared.certificate.Certificate.{Certificate}
use Rattle.clu_cert.specs.Valid.{IsValid, HaveUppers, proved_bound}
use Rattle.clu_cert.proofs.ValidLaws.{valid_sound}
use Rattle.clu_check.specs.Rejected.{HaveParts}
use Rattle.clu_check.specs.Proved.{HasClosedRules}

valid_of : (problem : Posed) (start : Closed) (cert : Certificate) → HaveParts problem start cert
    → ((uppers : List ℤ) × HaveUppers problem start cert.root_steps cert.proofs uppers × IsBetterOrEqual problem.objective cert.bound
    (proved_bound problem uppers))
    → IsValid problem start cert
valid_of problem start cert p h = record {
  shape = p.root.stated.blocks.shape;
  partition = p.root.stated.blocks.partition;
  rules = p.root.stated.rules;
  value = p.root.stated.value;
  steps = p.root.steps;
  parts = p.parts;
  cover = p.cover;
  uppers = h.0;
  proved = h.1;
  bound = h.2;
}

pub none_better : (problem : Posed) (start : Closed) (cert : Certificate) (bound : ℤ) → bound ≡ cert.bound → HasClosedRules problem start →
    HaveParts problem start cert
    → ((uppers : List ℤ) × HaveUppers problem start cert.root_steps cert.proofs uppers × IsBetterOrEqual problem.objective cert.bound
    (proved_bound problem uppers))
    → (label : ℕ → ℕ) → IsPermitted start label
    → IsBetterOrEqual problem.objective bound (printed problem (value_on (weight_of problem.pairs) label (below problem.pairs.n)))
none_better problem start cert bound same r p h label permitted =
    subst (λ (z : ℤ). IsBetterOrEqual problem.objective z (printed problem (value_on (weight_of problem.pairs) label (below problem.pairs.n))))
    (sym same)
    (valid_sound problem start cert (record { posed = r.posed; closed = r.closed; size = r.one_size; few = r.few })
    (valid_of problem start cert p h) label permitted)
