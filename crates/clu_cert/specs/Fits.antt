-- The ranges of the grammar.
use Rattle.std.specs.Prelude.{ℕ, List, ◌<◌, ◌≤◌, ◌^◌, length, unsigned_abs}
use Rattle.std.specs.List.{AllByRecursion}
use Rattle.clu_cert.specs.declared.certificate.Item.{Item}
use Rattle.clu_cert.specs.declared.certificate.Item.TheVariants.{Branch, Reduce, Leaf}
use Rattle.clu_reduce.specs.declared.step.Step.{Step}
use Rattle.clu_rows.specs.Rows.{TwoSet}
use Rattle.clu_rows.specs.declared.row.Leaf.{Leaf as LeafValue}
use Rattle.clu_cert.specs.declared.certificate.Proof.{Proof}
use Rattle.clu_cert.specs.declared.certificate.Certificate.{Certificate}

-- a vertex or a label
abbrev pub IndexFits : ℕ → Type 0
IndexFits n = n < 1000

abbrev pub StepFits : Step → Type 0
StepFits s = IndexFits s.u × IndexFits s.v

-- both sets of a row have a vertex
pub record RowFits (r : TwoSet) : Type 0 where
  pub y : r.y < 2 ^ 128
  pub some_s : 0 < length r.s
  pub s : AllByRecursion IndexFits r.s
  pub some_t : 0 < length r.t
  pub t : AllByRecursion IndexFits r.t

pub record LeafFits (l : LeafValue) : Type 0 where
  pub den : l.den < 2 ^ 64
  pub count : length l.rows < 2 ^ 64
  pub rows : AllByRecursion RowFits l.rows

-- one vertex or more
abbrev pub PartFits : List ℕ → Type 0
PartFits vs = (0 < length vs) × AllByRecursion IndexFits vs

abbrev pub ItemFits : Item → Type 0
ItemFits (Branch u v) = IndexFits u × IndexFits v
ItemFits (Reduce s) = StepFits s
ItemFits (Leaf l) = LeafFits l

pub record ProofFits (p : Proof) : Type 0 where
  pub part : PartFits p.part
  pub count : length p.items < 2 ^ 64
  pub items : AllByRecursion ItemFits p.items

-- a certificate that has a text
pub record Fits (c : Certificate) : Type 0 where
  pub count : length c.labels ≤ 1000
  pub labels : AllByRecursion IndexFits c.labels
  pub value : unsigned_abs c.value ≤ 2 ^ 126
  pub bound : unsigned_abs c.bound ≤ 2 ^ 126
  pub step_count : length c.root_steps < 2 ^ 64
  pub steps : AllByRecursion StepFits c.root_steps
  pub proof_count : length c.proofs < 2 ^ 64
  pub proofs : AllByRecursion ProofFits c.proofs
