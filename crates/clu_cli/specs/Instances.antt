-- What a graph file holds for an objective: which bytes are a text of it, what its partitions are worth, and why bytes are a text
-- of none.
use Rattle.std.specs.Prelude.{◌≡◌, ◌≢◌, ℕ, ℤ, pos, ◌≤◌, ◌≤ℤ◌, ◌*ℤ◌, ◌^◌, List, [], Option, None, Err, length}
use Rattle.std.specs.List.{enumerate_from}
use Rattle.clu_text.specs.Lines.{lines_of}
use Rattle.clu_pace.specs.Numbers.{IsNumeralOf, graph_names}
use Rattle.clu_pace.specs.Pace.{IsAccepted}
use Rattle.clu_pace.specs.Refusals.{IsPaceFault}
use Rattle.clu_pace.specs.declared.error.PaceError.TheVariants as pace
use Rattle.clu_network.specs.Naming.{IsNameOf}
use Rattle.clu_network.specs.Network.{Net}
use Rattle.clu_network.specs.Reading.{FailsNetwork}
use Rattle.clu_network.specs.Scaling.{IsNetwork}
use Rattle.clu_network.specs.declared.error.NetError.{NetError}
use Rattle.clu_network.specs.declared.error.NetError.TheVariants as net_error
use Rattle.clu_objective.specs.Agreement.{AnswersAgreement, PosesAgreement, PrintsAgreement, agreement}
use Rattle.clu_objective.specs.Edits.{PosesEdits, PrintsEdits, edits}
use Rattle.clu_objective.specs.Lines.{all_sizes, all_weight, first_negative}
use Rattle.clu_objective.specs.Modularity.{AnswersModularity, PosesModularity, PrintsModularity, modularity}
use Rattle.clu_objective.specs.Problem.{IsBetterOrEqual, Posed}
use Rattle.clu_objective.specs.declared.error.ObjError.TheVariants as obj
use Rattle.clu_objective.specs.declared.objective.Objective.{Objective}
use Rattle.clu_objective.specs.declared.objective.Objective.TheVariants as objective
use Rattle.clu_cli.specs.declared.form.Form.{Form}
use Rattle.clu_cli.specs.declared.form.Form.TheVariants as form
use Rattle.clu_cli.specs.declared.instance.Instance.{Instance}
use Rattle.clu_cli.specs.declared.instance.Instance.TheVariants.{Edits, Agreement, Modularity}
use Rattle.clu_cli.specs.declared.refusal.Refusal.{Refusal}
use Rattle.clu_cli.specs.declared.refusal.Refusal.TheVariants as refusal

-- ---- an instance
-- what its partitions are judged by
abbrev pub objective_of : Instance → Objective
objective_of (Edits graph) = objective.Edits
objective_of (Agreement net) = objective.Agreement
objective_of (Modularity net) = objective.Modularity

-- its vertices are the numbers below this one
abbrev pub vertices_of : Instance → ℕ
vertices_of (Edits graph) = graph.n
vertices_of (Agreement net) = net.n
vertices_of (Modularity net) = net.n

-- the names of its vertices
abbrev pub names_of : Instance → List (List ℕ)
names_of (Edits graph) = graph_names graph
names_of (Agreement net) = net.names
names_of (Modularity net) = net.names

-- bytes that name a vertex
abbrev pub named_in : Instance → List ℕ → ℕ → Type 0
named_in (Edits graph) = IsNumeralOf graph
named_in (Agreement net) = IsNameOf net
named_in (Modularity net) = IsNameOf net

-- the objective of a partition, straight from the edges or the lines
abbrev pub worth : Instance → List ℕ → ℤ
worth (Edits graph) labels = pos (edits graph labels)
worth (Agreement net) labels = agreement net labels
worth (Modularity net) labels = modularity net labels

-- the number by which it is multiplied: ten to the decimal places, or four times the square of the total weight
abbrev pub scale_of : Instance → ℤ
scale_of (Edits graph) = pos 1
scale_of (Agreement net) = pos (10 ^ net.places)
scale_of (Modularity net) = pos 4 *ℤ all_weight net.lines *ℤ all_weight net.lines

-- no partition is better than this number
abbrev pub IsReached : Instance → ℤ → List ℕ → Type 0
IsReached instance bound labels = IsBetterOrEqual (objective_of instance) bound (worth instance labels)

-- the problem that it poses
abbrev pub Poses : Instance → Posed → Type 0
Poses (Edits graph) problem = PosesEdits graph problem
Poses (Agreement net) problem = PosesAgreement net problem
Poses (Modularity net) problem = PosesModularity net problem

-- the printed number of each partition is what it is worth
abbrev pub PrintsWorth : Instance → Posed → Type 0
PrintsWorth (Edits graph) problem = PrintsEdits graph problem
PrintsWorth (Agreement net) problem = PrintsAgreement net problem
PrintsWorth (Modularity net) problem = PrintsModularity net problem

-- ---- its text
-- the bytes are an edge list of at most 1,000 vertices
pub record IsEdgeList (places : Option ℕ) (bytes : List ℕ) (net : Net) : Type 0 where
  pub text : IsNetwork places bytes net
  pub counted : net.n ≡ length net.names
  pub small : net.n ≤ 1000

-- the lines weigh no more than the limit, without their signs
pub record IsAgreeable (places : Option ℕ) (bytes : List ℕ) (net : Net) : Type 0 where
  pub list : IsEdgeList places bytes net
  pub light : all_sizes net.lines ≤ 2 ^ 88

-- no line weighs less than 0, and all of them more than 0 and no more than the limit
pub record IsModular (places : Option ℕ) (bytes : List ℕ) (net : Net) : Type 0 where
  pub list : IsEdgeList places bytes net
  pub none_negative : first_negative net.lines ≡ None
  pub some : all_weight net.lines ≢ pos 0
  pub light : all_weight net.lines ≤ℤ pos (2 ^ 43)

-- the bytes of a file of this form are a text of the instance
abbrev pub IsInstance : Form → List ℕ → Instance → Type 0
IsInstance form.Edits bytes (Edits graph) = IsAccepted bytes graph
IsInstance form.Edits bytes (Agreement net) = ⊥
IsInstance form.Edits bytes (Modularity net) = ⊥
IsInstance (form.Agreement places) bytes (Edits graph) = ⊥
IsInstance (form.Agreement places) bytes (Agreement net) = IsAgreeable places bytes net
IsInstance (form.Agreement places) bytes (Modularity net) = ⊥
IsInstance (form.Modularity places) bytes (Edits graph) = ⊥
IsInstance (form.Modularity places) bytes (Agreement net) = ⊥
IsInstance (form.Modularity places) bytes (Modularity net) = IsModular places bytes net

-- ---- why there is none
-- the first line of an edge list that its reader refuses, and why
abbrev pub FailsToRead : Option ℕ → List ℕ → NetError → Type 0
FailsToRead places bytes error = (error ≢ net_error.Memory) × FailsNetwork places (enumerate_from 1 (lines_of bytes)) [] error

-- the first line that is refused, or what bars the objective
abbrev pub Refuses : Form → List ℕ → Refusal → Type 0
Refuses form.Edits bytes (refusal.Graph error) = (error ≢ pace.Memory) × IsPaceFault bytes error
Refuses form.Edits bytes (refusal.Network error) = ⊥
Refuses form.Edits bytes (refusal.Objective error) = ⊥
Refuses form.Edits bytes (refusal.Rules error) = ⊥
Refuses (form.Agreement places) bytes (refusal.Graph error) = ⊥
Refuses (form.Agreement places) bytes (refusal.Network error) = FailsToRead places bytes error
Refuses (form.Agreement places) bytes (refusal.Objective error) =
    (error ≢ obj.Memory) × (net : Net) × IsEdgeList places bytes net × AnswersAgreement net (Err error)
Refuses (form.Agreement places) bytes (refusal.Rules error) = ⊥
Refuses (form.Modularity places) bytes (refusal.Graph error) = ⊥
Refuses (form.Modularity places) bytes (refusal.Network error) = FailsToRead places bytes error
Refuses (form.Modularity places) bytes (refusal.Objective error) =
    (error ≢ obj.Memory) × (net : Net) × IsEdgeList places bytes net × AnswersModularity net (Err error)
Refuses (form.Modularity places) bytes (refusal.Rules error) = ⊥
