-- The certificate of a partition, with one part of all vertices.
use Rattle.std.specs.Prelude.{ℕ, ℤ, pos, ◌^◌, List, [], ◌∷◌, ◌==◌, if◌then◌else◌}
use Rattle.std.specs.Int.{int_min}
use Rattle.clu_partition.specs.Partition.{below}
use Rattle.clu_objective.specs.Problem.{Posed, printed}
use Rattle.clu_cert.specs.declared.certificate.Certificate.{Certificate}
use Rattle.clu_cert.specs.declared.certificate.Item.{Item}
use Rattle.clu_cert.specs.declared.certificate.Proof.{Proof}
use Rattle.clu_search.specs.declared.incumbent.Incumbent.{Incumbent}

-- the items as the proof of all n vertices, if there are any
abbrev pub whole_proofs : ℕ → List Item → List Proof
whole_proofs n items = if n == 0 then [] else (record { part = below n; items = items }) ∷ []

-- the bound is the printed upper of the items
abbrev pub certificate_of : Posed → Incumbent → List Item → ℤ → Certificate
certificate_of problem best items upper = record {
  objective = problem.objective;
  labels = best.partition;
  value = printed problem best.value;
  bound = printed problem (int_min upper (pos (2 ^ 88)));
  root_steps = [];
  proofs = whole_proofs problem.pairs.n items;
}
