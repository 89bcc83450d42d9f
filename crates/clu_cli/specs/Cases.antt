-- What a command works on, as its files give it: the instance of a graph's file, and the rules that its partitions have to obey.
use Rattle.std.specs.Prelude.{◌≡◌, ℕ, ◌≤◌, List, [], length, Option, Some, None, slice_index}
use Rattle.clu_outside.specs.Folder.{Told, Holds}
use Rattle.clu_partition.specs.Closed.{Closed}
use Rattle.clu_partition.specs.Partition.{IsPartition}
use Rattle.clu_rules.specs.Closing.{IsClosureOf}
use Rattle.clu_rules.specs.Lines.{Rule}
use Rattle.clu_rules.specs.Reading.{IsTextOf}
use Rattle.clu_rules.specs.Rules.{Obeys}
use Rattle.clu_cli.specs.declared.form.Form.{Form}
use Rattle.clu_cli.specs.declared.instance.Instance.{Instance}
use Rattle.clu_cli.specs.Instances.{IsInstance, named_in, vertices_of}
use Rattle.clu_cli.specs.Words.{Source}

-- ---- a case
-- an instance, and the rules of its partitions
pub record Case : Type 0 where
  pub instance : Instance
  pub rules : List Rule

abbrev pub case_of : Instance → List Rule → Case
case_of instance rules = record { instance = instance; rules = rules }

-- labels that divide the vertices and obey the rules
pub record IsAllowed (case : Case) (labels : List ℕ) : Type 0 where
  pub partition : IsPartition (vertices_of case.instance) labels
  pub obeys : Obeys case.rules (slice_index labels)

-- no labels obey the rules
abbrev pub NoneObeys : List Rule → Type 0
NoneObeys rules = (label : ℕ → ℕ) → Obeys rules label → ⊥

-- the closed rules that they make
abbrev pub IsStartOf : Case → Closed → Type 0
IsStartOf case start = IsClosureOf (vertices_of case.instance) case.rules start

-- ---- what the files hold
-- the largest length of a graph file or of a rules file, in bytes
abbrev pub max_bytes : ℕ
max_bytes = 67108864

-- the folder, where it tells, holds these bytes under the name, and they are not too many
pub record HoldsInput (file : List ℕ) (told : Option Told) (bytes : List ℕ) : Type 0 where
  pub held : Holds told file bytes
  pub small : length bytes ≤ max_bytes

-- the file of this name, read in this form, is a text of the instance
pub record GivesGraph (file : List ℕ) (form : Form) (told : Option Told) (instance : Instance) : Type 0 where
  pub bytes : List ℕ
  pub loaded : HoldsInput file told bytes
  pub read : IsInstance form bytes instance

-- what a rules file of this name holds; without a name there is nothing to read
abbrev pub HoldsRules : Option (List ℕ) → Option Told → List ℕ → Type 0
HoldsRules None told bytes = bytes ≡ []
HoldsRules (Some name) told bytes = HoldsInput name told bytes

-- its text is one of these rules of the instance's vertices
pub record GivesRules (name : Option (List ℕ)) (told : Option Told) (instance : Instance) (rules : List Rule) : Type 0 where
  pub bytes : List ℕ
  pub loaded : HoldsRules name told bytes
  pub read : IsTextOf (named_in instance) bytes rules

-- the files of the source are texts of the case, and some labels obey its rules
pub record Gives (source : Source) (told : Option Told) (case : Case) : Type 0 where
  pub graph : GivesGraph source.file source.form told case.instance
  pub rules : GivesRules source.rules told case.instance case.rules
  pub label : ℕ → ℕ
  pub obeys : Obeys case.rules label

-- the same, and of no other case
pub record GivesOnly (source : Source) (told : Option Told) (case : Case) : Type 0 where
  pub gives : Gives source told case
  pub instance : (other : Instance) → IsInstance source.form gives.graph.bytes other → other ≡ case.instance
  pub rules : (others : List Rule) → IsTextOf (named_in case.instance) gives.rules.bytes others → others ≡ case.rules
