-- What a search leaves.
use Rattle.std.specs.Prelude.{◌≡◌, ℕ, ℤ, List, sum_by}
use Rattle.clu_partition.specs.Closed.{Closed}
use Rattle.clu_objective.specs.Problem.{Posed}
use Rattle.clu_cert.specs.Valid.{HaveUppers, proved_bound}
use Rattle.clu_cert.specs.declared.certificate.Certificate.{Certificate}
use Rattle.clu_tree.specs.Items.{branch_items}

-- how many branches the proofs of a certificate have
abbrev pub branchings_of : Certificate → ℕ
branchings_of cert = sum_by (λ proof. branch_items proof.items) cert.proofs

-- the stated bound is exactly what the items prove, no better and no worse
pub record StatesItsBound (problem : Posed) (start : Closed) (cert : Certificate) : Type 0 where
  pub uppers : List ℤ
  pub proved : HaveUppers problem start cert.root_steps cert.proofs uppers
  pub bound : cert.bound ≡ proved_bound problem uppers
