-- What a reader of lines has read, and which lines may follow.
use Rattle.std.specs.Prelude.{◌≡◌, ℕ, ◌<◌, ◌≤◌, ◌^◌, ◌↔◌, List, [], ◌∷◌, ◌++◌, length, map, codes, unsigned_abs}
use Rattle.std.specs.List.{flat_map, AllByRecursion}
use Rattle.clu_cert.specs.declared.certificate.Item.{Item}
use Rattle.clu_cert.specs.declared.certificate.Item.TheVariants as item
use Rattle.clu_reduce.specs.declared.step.Step.{Step}
use Rattle.clu_rows.specs.Rows.{TwoSet}
use Rattle.clu_rows.specs.declared.row.Leaf.{Leaf}
use Rattle.clu_cert.specs.declared.certificate.Proof.{Proof}
use Rattle.clu_cert.specs.declared.certificate.Certificate.{Certificate}
use Rattle.clu_cert.specs.declared.reader.Stage.{Stage}
use Rattle.clu_cert.specs.declared.reader.Stage.TheVariants as at
use Rattle.clu_cert.specs.declared.reader.Reader.{Reader}
use Rattle.clu_cert.specs.Fits.{IndexFits, StepFits, RowFits, ItemFits, ProofFits, Fits}
use Rattle.clu_cert.specs.Text.{count_line, whole_line, numbers_line, objective_line, row_line, item_lines, lines_from_part, lines_from_step, lines_from_steps, lines_from_value, cert_lines}

-- the root steps and the proofs are in range
pub record StepsFit (c : Certificate) : Type 0 where
  pub step_count : length c.root_steps < 2 ^ 64
  pub steps : AllByRecursion StepFits c.root_steps
  pub proof_count : length c.proofs < 2 ^ 64
  pub proofs : AllByRecursion ProofFits c.proofs

-- the line `objective` is read
pub record VerticesLeft (cert c : Certificate) (more : List (List (List ℕ))) : Type 0 where
  pub fits : Fits c
  pub objective : c.objective ≡ cert.objective
  pub lines : more ≡ count_line (codes "vertices") (length c.labels) ∷ lines_from_value c

-- the line `vertices` is read, of n labels
pub record ValueLeft (n : ℕ) (cert c : Certificate) (more : List (List (List ℕ))) : Type 0 where
  pub objective : c.objective ≡ cert.objective
  pub count : length c.labels ≡ n
  pub value : unsigned_abs c.value ≤ 2 ^ 126
  pub bound : unsigned_abs c.bound ≤ 2 ^ 126
  pub labels : AllByRecursion IndexFits c.labels
  pub rest : StepsFit c
  pub lines : more ≡ lines_from_value c

pub record BoundLeft (n : ℕ) (cert c : Certificate) (more : List (List (List ℕ))) : Type 0 where
  pub objective : c.objective ≡ cert.objective
  pub value : c.value ≡ cert.value
  pub count : length c.labels ≡ n
  pub bound : unsigned_abs c.bound ≤ 2 ^ 126
  pub labels : AllByRecursion IndexFits c.labels
  pub rest : StepsFit c
  pub lines : more ≡ whole_line (codes "bound") c.bound ∷ numbers_line (codes "blocks") c.labels ∷ lines_from_steps c

pub record BlocksLeft (n : ℕ) (cert c : Certificate) (more : List (List (List ℕ))) : Type 0 where
  pub objective : c.objective ≡ cert.objective
  pub value : c.value ≡ cert.value
  pub bound : c.bound ≡ cert.bound
  pub count : length c.labels ≡ n
  pub labels : AllByRecursion IndexFits c.labels
  pub rest : StepsFit c
  pub lines : more ≡ numbers_line (codes "blocks") c.labels ∷ lines_from_steps c

-- what stands before the steps is read
pub record SameHead (cert c : Certificate) : Type 0 where
  pub objective : c.objective ≡ cert.objective
  pub value : c.value ≡ cert.value
  pub bound : c.bound ≡ cert.bound
  pub labels : c.labels ≡ cert.labels

pub record StepsLeft (cert c : Certificate) (more : List (List (List ℕ))) : Type 0 where
  pub head : SameHead cert c
  pub rest : StepsFit c
  pub lines : more ≡ lines_from_steps c

-- so many steps are left
pub record StepLeft (left : ℕ) (cert c : Certificate) (more : List (List (List ℕ))) : Type 0 where
  pub head : SameHead cert c
  pub steps : List Step
  pub steps_are : c.root_steps ≡ cert.root_steps ++ steps
  pub count : length steps ≡ left
  pub fits : AllByRecursion StepFits steps
  pub proof_count : length c.proofs < 2 ^ 64
  pub proofs : AllByRecursion ProofFits c.proofs
  pub lines : more ≡ lines_from_step steps c.proofs

-- so many parts are left
pub record PartLeft (left : ℕ) (cert c : Certificate) (more : List (List (List ℕ))) : Type 0 where
  pub head : SameHead cert c
  pub steps_are : c.root_steps ≡ cert.root_steps
  pub proofs : List Proof
  pub proofs_are : c.proofs ≡ cert.proofs ++ proofs
  pub count : length proofs ≡ left
  pub fits : AllByRecursion ProofFits proofs
  pub lines : more ≡ lines_from_part proofs

-- the lines of these items, and of the proofs behind them
abbrev pub lines_from_item : List Item → List Proof → List (List (List ℕ))
lines_from_item is ps = flat_map item_lines is ++ lines_from_part ps

-- the line `part` is read, and so many parts follow
pub record ItemsLeft (parts : ℕ) (cert : Certificate) (part : Proof) (c : Certificate) (more : List (List (List ℕ))) : Type 0 where
  pub head : SameHead cert c
  pub steps_are : c.root_steps ≡ cert.root_steps
  pub items : List Item
  pub proofs : List Proof
  pub proofs_are : c.proofs ≡ cert.proofs ++ (record { part = part.part; items = items }) ∷ proofs
  pub count : length proofs ≡ parts
  pub fits : AllByRecursion ProofFits proofs
  pub item_count : length items < 2 ^ 64
  pub items_fit : AllByRecursion ItemFits items
  pub lines : more ≡ count_line (codes "items") (length items) ∷ lines_from_item items proofs

-- so many items of the part are left
pub record ItemLeft (parts left : ℕ) (cert : Certificate) (part : Proof) (c : Certificate) (more : List (List (List ℕ))) : Type 0 where
  pub head : SameHead cert c
  pub steps_are : c.root_steps ≡ cert.root_steps
  pub items : List Item
  pub proofs : List Proof
  pub proofs_are : c.proofs ≡ cert.proofs ++ (record { part = part.part; items = part.items ++ items }) ∷ proofs
  pub count : length proofs ≡ parts
  pub fits : AllByRecursion ProofFits proofs
  pub item_count : length items ≡ left
  pub items_fit : AllByRecursion ItemFits items
  pub lines : more ≡ lines_from_item items proofs

-- so many rows of the leaf are left
pub record RowLeft (parts later left : ℕ) (cert : Certificate) (part : Proof) (leaf : Leaf) (c : Certificate)
    (more : List (List (List ℕ))) : Type 0 where
  pub head : SameHead cert c
  pub steps_are : c.root_steps ≡ cert.root_steps
  pub rows : List TwoSet
  pub items : List Item
  pub proofs : List Proof
  pub proofs_are : c.proofs ≡ cert.proofs ++ (record {
    part = part.part;
    items = part.items ++ item.Leaf (record { den = leaf.den; rows = leaf.rows ++ rows }) ∷ items;
  }) ∷ proofs
  pub count : length proofs ≡ parts
  pub fits : AllByRecursion ProofFits proofs
  pub item_count : length items ≡ later
  pub items_fit : AllByRecursion ItemFits items
  pub row_count : length rows ≡ left
  pub rows_fit : AllByRecursion RowFits rows
  pub lines : more ≡ map row_line rows ++ lines_from_item items proofs

-- `more` are the lines that complete what is read to the text of c
abbrev pub AtStage : Stage → Certificate → Proof → Leaf → Certificate → List (List (List ℕ)) → Type 0
AtStage at.Version cert part leaf c more = Fits c × (more ≡ cert_lines c)
AtStage at.Objective cert part leaf c more = Fits c
    × (more ≡ objective_line c.objective ∷ count_line (codes "vertices") (length c.labels) ∷ lines_from_value c)
AtStage at.Vertices cert part leaf c more = VerticesLeft cert c more
AtStage (at.Value n) cert part leaf c more = ValueLeft n cert c more
AtStage (at.Bound n) cert part leaf c more = BoundLeft n cert c more
AtStage (at.Blocks n) cert part leaf c more = BlocksLeft n cert c more
AtStage at.Steps cert part leaf c more = StepsLeft cert c more
AtStage (at.Step left) cert part leaf c more = StepLeft left cert c more
AtStage (at.Part left) cert part leaf c more = PartLeft left cert c more
AtStage (at.Items parts) cert part leaf c more = ItemsLeft parts cert part c more
AtStage (at.Item parts left) cert part leaf c more = ItemLeft parts left cert part c more
AtStage (at.Row parts later left) cert part leaf c more = RowLeft parts later left cert part leaf c more
AtStage at.Done cert part leaf c more = (c ≡ cert) × (more ≡ [])

abbrev pub Completes : Reader → Certificate → List (List (List ℕ)) → Type 0
Completes r c more = AtStage r.stage r.cert r.part r.leaf c more

-- after the line the reader is new, whatever the text
abbrev pub TakesLine : Reader → List (List ℕ) → Reader → Type 0
TakesLine old line new = (c : Certificate) (more : List (List (List ℕ))) → Completes old c (line ∷ more) ↔ Completes new c more

-- the line completes nothing here
abbrev pub RefusesLine : Reader → List (List ℕ) → Type 0
RefusesLine r line = (c : Certificate) (more : List (List (List ℕ))) → Completes r c (line ∷ more) → ⊥

-- what may follow stays
abbrev pub MeansTheSame : Reader → Reader → Type 0
MeansTheSame old new = (c : Certificate) (more : List (List (List ℕ))) → Completes old c more ↔ Completes new c more
