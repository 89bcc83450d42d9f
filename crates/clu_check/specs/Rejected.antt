-- Which condition of a valid certificate fails first, and where.
use Rattle.std.specs.Prelude.{◌≡◌, ◌≢◌, ◌⊎◌, ℕ, ◌+◌, ◌-◌, ◌<◌, ◌^◌, min, List, [], ◌∷◌, ◌++◌, length, sum_by}
use Rattle.clu_partition.specs.Closed.{Closed, Precedes}
use Rattle.clu_partition.specs.Partition.{IsPartition}
use Rattle.clu_objective.specs.Problem.{Posed, IsBetterOrEqual}
use Rattle.clu_state.specs.State.{State}
use Rattle.clu_reduce.specs.Reduction.{StepHolds}
use Rattle.clu_reduce.specs.declared.step.Step.{Step}
use Rattle.clu_cert.specs.Upper.{IsBadStep, IsBadLeaf, FailsAt, EndsEarly, GoesOn}
use Rattle.clu_cert.specs.Valid.{HasShape, ObeysAt, ObeyRules, printed_value, whole_state, StepsHold, stepped, IsPart, AllParts, Cover, parts_of, part_state, HaveUppers, proved_bound}
use Rattle.clu_cert.specs.declared.certificate.Certificate.{Certificate}
use Rattle.clu_cert.specs.declared.certificate.Item.{Item}
use Rattle.clu_cert.specs.declared.certificate.Proof.{Proof}
use Rattle.clu_check.specs.declared.reject.Reject.{Reject}
use Rattle.clu_check.specs.declared.reject.Reject.TheVariants.{Shape, Blocks, Rule, Value, Step as StepFault, Parts, Leaf, Unfinished, Bound, Memory}

-- a number as a count, which stands still at the last value of a `u64`
abbrev pub as_count : ℕ → ℕ
as_count number = min number (2 ^ 64 - 1)

-- ---- the conditions up to one
-- the labels are those of a partition of the problem's vertices
pub record AreBlocks (problem : Posed) (cert : Certificate) : Type 0 where
  pub shape : HasShape problem cert
  pub partition : IsPartition problem.pairs.n cert.labels

-- they obey the rules, and have the stated value
pub record HaveValue (problem : Posed) (start : Closed) (cert : Certificate) : Type 0 where
  pub blocks : AreBlocks problem cert
  pub rules : ObeyRules problem.pairs.n start cert.labels
  pub value : cert.value ≡ printed_value problem cert.labels

-- and the root steps hold
pub record HaveRoot (problem : Posed) (start : Closed) (cert : Certificate) : Type 0 where
  pub stated : HaveValue problem start cert
  pub steps : StepsHold (whole_state problem start) cert.root_steps

-- and the parts are as they should be
pub record HaveParts (problem : Posed) (start : Closed) (cert : Certificate) : Type 0 where
  pub root : HaveRoot problem start cert
  pub parts : AllParts (stepped (whole_state problem start) cert.root_steps) [] (parts_of cert)
  pub cover : Cover (stepped (whole_state problem start) cert.root_steps) (parts_of cert)

-- ---- where one fails
-- the least pair that doesn't obey the rules
pub record IsLeastPair (n : ℕ) (start : Closed) (labels : List ℕ) (u v : ℕ) : Type 0 where
  pub ordered : u < v
  pub within : v < n
  pub broken : ObeysAt start labels u v → ⊥
  pub least : (x y : ℕ) → x < y → y < n → Precedes (x, y) (u, v) → ObeysAt start labels x y

-- the steps before this one, counted from 1, hold, and it doesn't
pub record IsFirstBadStep (s : State) (steps : List Step) (number : ℕ) : Type 0 where
  pub before : List Step
  pub step : Step
  pub after : List Step
  pub steps_are : steps ≡ before ++ step ∷ after
  pub counted : number ≡ length before + 1
  pub held : StepsHold s before
  pub bad : StepHolds (stepped s before) step → ⊥

-- the parts before this one, counted from 1, are parts, and it is none
pub record IsFirstBadPart (s : State) (parts : List (List ℕ)) (number : ℕ) : Type 0 where
  pub before : List (List ℕ)
  pub part : List ℕ
  pub after : List (List ℕ)
  pub parts_are : parts ≡ before ++ part ∷ after
  pub counted : number ≡ length before + 1
  pub right : AllParts s [] before
  pub bad : IsPart s before part → ⊥

-- all are parts, and a vertex is in none
pub record MissesVertex (s : State) (parts : List (List ℕ)) (number : ℕ) : Type 0 where
  pub right : AllParts s [] parts
  pub missing : Cover s parts → ⊥
  pub counted : number ≡ length parts + 1

-- the proofs before this one have uppers, and its items fail
pub record ProofFails (problem : Posed) (start : Closed) (cert : Certificate) (Fails : State → List Item → ℕ → ℕ → Type 0) : Type 0 where
  pub before : List Proof
  pub proof : Proof
  pub after : List Proof
  pub proofs_are : cert.proofs ≡ before ++ proof ∷ after
  pub uppers : List _
  pub proved : HaveUppers problem start cert.root_steps before uppers
  -- by the number of items before it and the number of the part
  pub fails : Fails (part_state problem start cert.root_steps proof.part) proof.items
      (length cert.root_steps + sum_by (λ p. length p.items) before) (length before + 1)

-- an item with this number is bad
abbrev pub ItemFails : (State → Item → Type 0) → ℕ → State → List Item → ℕ → ℕ → Type 0
ItemFails Bad item s items earlier part = (number : ℕ) × FailsAt Bad s items number × (item ≡ as_count (earlier + number))

-- the tree of the part with this number isn't whole, or it is whole before its last item
abbrev pub TreeFails : ℕ → State → List Item → ℕ → ℕ → Type 0
TreeFails number s items earlier part = (EndsEarly s items ⊎ GoesOn s items) × (number ≡ part)

-- ---- the whole
-- the condition that the rejection names fails, and those before it hold
abbrev pub IsRejected : Posed → Closed → Certificate → Reject → Type 0
IsRejected problem start cert Shape = HasShape problem cert → ⊥
IsRejected problem start cert Blocks = HasShape problem cert × (IsPartition problem.pairs.n cert.labels → ⊥)
IsRejected problem start cert (Rule u v) = AreBlocks problem cert × IsLeastPair problem.pairs.n start cert.labels u v
IsRejected problem start cert (Value found) =
    AreBlocks problem cert × ObeyRules problem.pairs.n start cert.labels
    × (found ≡ printed_value problem cert.labels) × (found ≢ cert.value)
IsRejected problem start cert (StepFault item) =
    (HaveValue problem start cert × IsFirstBadStep (whole_state problem start) cert.root_steps item)
    ⊎ (HaveParts problem start cert × ProofFails problem start cert (ItemFails IsBadStep item))
IsRejected problem start cert (Parts part) =
    HaveRoot problem start cert
    × (IsFirstBadPart (stepped (whole_state problem start) cert.root_steps) (parts_of cert) part
    ⊎ MissesVertex (stepped (whole_state problem start) cert.root_steps) (parts_of cert) part)
IsRejected problem start cert (Leaf item) = HaveParts problem start cert × ProofFails problem start cert (ItemFails IsBadLeaf item)
IsRejected problem start cert (Unfinished part) = HaveParts problem start cert × ProofFails problem start cert (TreeFails part)
IsRejected problem start cert (Bound found) =
    HaveParts problem start cert × (uppers : List _) × HaveUppers problem start cert.root_steps cert.proofs uppers
    × (found ≡ proved_bound problem uppers) × (IsBetterOrEqual problem.objective cert.bound found → ⊥)
IsRejected problem start cert Memory = Unit {0}
