-- What the files of a command come to, where a command stops for it, and which status follows.
use Rattle.std.specs.Prelude.{◌≡◌, ◌⊎◌, ℕ, ◌≤◌, ◌<◌, List, ◌∷◌, [], ◌++◌, length, take, Bool, Option, Some, None, Result, Ok, Err, if◌then◌else◌}
use Rattle.clu_outside.specs.Folder.{Told, Holds, HoldsMore, Lacks}
use Rattle.clu_outside.specs.Sink.{TakesSome}
use Rattle.clu_partition.specs.Closed.{Closed}
use Rattle.clu_rules.specs.Lines.{Rule}
use Rattle.clu_rules.specs.Reading.{IsRulesFault, IsTextOf}
use Rattle.clu_cert.specs.Fits.{Fits}
use Rattle.clu_cert.specs.Text.{cert_text}
use Rattle.clu_cert.specs.declared.certificate.Certificate.{Certificate}
use Rattle.clu_search.specs.Count.{count}
use Rattle.clu_cli.specs.declared.form.Form.{Form}
use Rattle.clu_cli.specs.declared.instance.Instance.{Instance}
use Rattle.clu_cli.specs.declared.refusal.Refusal.{Refusal}
use Rattle.clu_cli.specs.declared.refusal.Refusal.TheVariants as refusal
use Rattle.clu_cli.specs.declared.stop.Stop.{Stop}
use Rattle.clu_cli.specs.declared.stop.Stop.TheVariants.{BadText, Broken, Contradiction, Refused, Rejected, Words, ReadFault, WriteFault, Memory, TooLong, NoFile}
use Rattle.clu_cli.specs.Cases.{Case, Gives, GivesGraph, HoldsInput, IsStartOf, NoneObeys, max_bytes}
use Rattle.clu_cli.specs.Headline.{Certifies, Contradict, FindsFault, IsTruncated, NoneCertifies, PrintsReport, after_loads, files_in}
use Rattle.clu_cli.specs.Instances.{IsInstance, Refuses, named_in, names_of, vertices_of}
use Rattle.clu_cli.specs.Status.{stop_line, stop_status}
use Rattle.clu_cli.specs.Words.{Command, Source, solve, check, source_of}

-- ---- verdicts
-- what the files of a command come to
pub data Verdict : Type 0 where
  -- one is missing
  absent : Verdict
  -- that of the graph or of the rules is too long
  too_long : Verdict
  -- that of the graph is a text of no instance, or that of the rules a text of no rules of its vertices
  refused : Verdict
  -- no labels obey the rules
  contradicted : Verdict
  -- the certificate's file is the text of no certificate that is valid
  turned_down : Verdict
  -- it is the text of one
  proven : Verdict
  -- there is an instance to be solved, and its rules can be obeyed
  solvable : Verdict

-- where the file of the graph alone decides
abbrev pub GraphSays : Source → Option Told → Verdict → Type 0
GraphSays source told absent = Lacks told source.file
GraphSays source told too_long = HoldsMore told source.file max_bytes
GraphSays source told refused = (bytes : List ℕ) × HoldsInput source.file told bytes × ((instance : Instance) → IsInstance source.form bytes instance → ⊥)
GraphSays source told contradicted = ⊥
GraphSays source told turned_down = ⊥
GraphSays source told proven = ⊥
GraphSays source told solvable = ⊥

-- where that of the rules does, beside an instance
abbrev pub RulesSay : Option Told → Verdict → Instance → List ℕ → Type 0
RulesSay told absent instance name = Lacks told name
RulesSay told too_long instance name = HoldsMore told name max_bytes
RulesSay told refused instance name =
    (bytes : List ℕ) × HoldsInput name told bytes × ((rules : List Rule) → IsTextOf (named_in instance) bytes rules → ⊥)
RulesSay told contradicted instance name =
    (bytes : List ℕ) × HoldsInput name told bytes × (rules : List Rule) × IsTextOf (named_in instance) bytes rules × NoneObeys rules
RulesSay told turned_down instance name = ⊥
RulesSay told proven instance name = ⊥
RulesSay told solvable instance name = ⊥

-- where the certificate's file does, beside a case
abbrev pub CertificateSays : List ℕ → Option Told → Verdict → Case → Type 0
CertificateSays name told absent case = Lacks told name
CertificateSays name told too_long case = ⊥
CertificateSays name told refused case = ⊥
CertificateSays name told contradicted case = ⊥
CertificateSays name told turned_down case = (bytes : List ℕ) × Holds told name bytes × NoneCertifies case bytes
CertificateSays name told proven case = (cert : Certificate) × Fits cert × Holds told name (cert_text cert) × Certifies case cert
CertificateSays name told solvable case = ⊥

-- the verdict of a case: `solve` has nothing more to ask of it, and `check` asks the certificate's file
abbrev pub CaseSays : Command → Option Told → Verdict → Case → Type 0
CaseSays (solve source certificate limit) told verdict case = verdict ≡ solvable
CaseSays (check source name) told verdict case = CertificateSays name told verdict case

-- ---- the order of the files
-- the files that a command loads, in the order of its work
abbrev pub files_of : Command → List (List ℕ)
files_of (solve source certificate limit) = files_in source
files_of (check source name) = files_in source ++ name ∷ []

-- a fact of a name, if there is one
abbrev pub OfName : Option (List ℕ) → (List ℕ → Type 0) → Type 0
OfName None Fact = ⊥
OfName (Some name) Fact = Fact name

-- A fact of the files of a source, and after how many loads: of the graph's, or where it is one of that of the rules.
abbrev pub ComesToInput : Source → Option Told → Type 0 → (Instance → List ℕ → Type 0) → ℕ → Type 0
ComesToInput source told Graph Rules loads =
    ((loads ≡ 1) × Graph)
    ⊎ ((loads ≡ 2) × (instance : Instance) × GivesGraph source.file source.form told instance × OfName source.rules (Rules instance))

-- The same of the files of a command: where they give a case, a fact of that after all loads.
abbrev pub ComesTo : Command → Option Told → Type 0 → (Instance → List ℕ → Type 0) → (Case → Type 0) → ℕ → Type 0
ComesTo command told Graph Rules Last loads =
    ComesToInput (source_of command) told Graph Rules loads
    ⊎ ((loads ≡ length (files_of command)) × (case : Case) × Gives (source_of command) told case × Last case)

-- the files of a command come to the verdict after so many loads
abbrev pub Says : Command → Option Told → Verdict → ℕ → Type 0
Says command told verdict = ComesTo command told (GraphSays (source_of command) told verdict) (RulesSay told verdict) (CaseSays command told verdict)

-- The folder has had the loads of the first so many of the command's files, in their order, and no other call. The rules are loaded
-- only where there is an instance, and the certificate only where there is a case.
pub record HasLoaded (command : Command) (loads : ℕ) (before after : Option Told) : Type 0 where
  pub few : loads ≤ length (files_of command)
  pub told : after ≡ after_loads (take loads (files_of command)) before
  pub instance : 2 ≤ loads → (instance : Instance) × GivesGraph (source_of command).file (source_of command).form before instance
  pub case : length (files_in (source_of command)) < loads → (case : Case) × Gives (source_of command) before case

-- after so many loads the command stopped: no file has changed, and the sink has taken nothing
pub record StopsAfter (command : Command) (loads : ℕ) (before after : Option Told) (old new : Option (List ℕ)) : Type 0 where
  pub loaded : HasLoaded command loads before after
  pub unwritten : new ≡ old

-- the files come to the verdict, and the command stopped for it
pub record Stops (verdict : Verdict) (command : Command) (before after : Option Told) (old new : Option (List ℕ)) : Type 0 where
  pub loads : ℕ
  pub says : Says command before verdict loads
  pub stops : StopsAfter command loads before after old new

-- status 7: a load met a fault, so there was one at least
abbrev pub StopsUnread : Command → Option Told → Option Told → Option (List ℕ) → Option (List ℕ) → Type 0
StopsUnread command before after old new = (loads : ℕ) × (1 ≤ loads) × StopsAfter command loads before after old new

-- status 9: want of memory came after some of the loads, or while storing or writing
abbrev pub StopsUnmade : Command → Option Told → Option Told → Option (List ℕ) → Option (List ℕ) → Type 0
StopsUnmade command before after old new =
    ((loads : ℕ) × StopsAfter command loads before after old new) ⊎ IsTruncated command before after old new

-- ---- why a command stops
-- the graph's file is refused for this
pub record IsBarred (file : List ℕ) (form : Form) (told : Option Told) (refusal : Refusal) : Type 0 where
  pub bytes : List ℕ
  pub loaded : HoldsInput file told bytes
  pub refuses : Refuses form bytes refusal

-- the first line of the rules' file is refused for this
abbrev pub BarsRules : Option Told → Refusal → Instance → List ℕ → Type 0
BarsRules told (refusal.Graph error) instance name = ⊥
BarsRules told (refusal.Network error) instance name = ⊥
BarsRules told (refusal.Objective error) instance name = ⊥
BarsRules told (refusal.Rules error) instance name = (bytes : List ℕ) × HoldsInput name told bytes × IsRulesFault (named_in instance) bytes error

-- what the graph's file has to do with a stop at it; a fault and want of memory may come at any file
abbrev pub GraphStops : Source → Option Told → Stop → Type 0
GraphStops source told NoFile = Lacks told source.file
GraphStops source told TooLong = HoldsMore told source.file max_bytes
GraphStops source told (Refused refusal) = IsBarred source.file source.form told refusal
GraphStops source told ReadFault = Unit {0}
GraphStops source told Memory = Unit {0}
GraphStops source told (BadText line) = ⊥
GraphStops source told (Rejected found) = ⊥
GraphStops source told (Broken pair) = ⊥
GraphStops source told (Contradiction pair) = ⊥
GraphStops source told Words = ⊥
GraphStops source told WriteFault = ⊥

-- the same of that of the rules, beside an instance
abbrev pub RulesStop : Option Told → Stop → Instance → List ℕ → Type 0
RulesStop told NoFile instance name = Lacks told name
RulesStop told TooLong instance name = HoldsMore told name max_bytes
RulesStop told (Refused refusal) instance name = BarsRules told refusal instance name
RulesStop told (Contradiction pair) instance name =
    (bytes : List ℕ) × HoldsInput name told bytes × Contradict (vertices_of instance) (names_of instance) (named_in instance) bytes pair
RulesStop told ReadFault instance name = Unit {0}
RulesStop told Memory instance name = Unit {0}
RulesStop told (BadText line) instance name = ⊥
RulesStop told (Rejected found) instance name = ⊥
RulesStop told (Broken pair) instance name = ⊥
RulesStop told Words instance name = ⊥
RulesStop told WriteFault instance name = ⊥

-- the bytes of the certificate's file certify nothing, and this is why
abbrev pub TurnsDown : List ℕ → Option Told → Stop → Case → Type 0
TurnsDown name told stop case = (bytes : List ℕ) × Holds told name bytes × NoneCertifies case bytes × FindsFault case bytes stop

-- the same of the certificate's, beside a case
abbrev pub CaseStops : Command → Option Told → Stop → Case → Type 0
CaseStops (solve source certificate limit) told stop case = ⊥
CaseStops (check source name) told NoFile case = Lacks told name
CaseStops (check source name) told (BadText line) case = TurnsDown name told (BadText line) case
CaseStops (check source name) told (Rejected found) case = TurnsDown name told (Rejected found) case
CaseStops (check source name) told (Broken pair) case = TurnsDown name told (Broken pair) case
CaseStops (check source name) told ReadFault case = Unit {0}
CaseStops (check source name) told Memory case = Unit {0}
CaseStops (check source name) told TooLong case = ⊥
CaseStops (check source name) told (Refused refusal) case = ⊥
CaseStops (check source name) told (Contradiction pair) case = ⊥
CaseStops (check source name) told Words case = ⊥
CaseStops (check source name) told WriteFault case = ⊥

-- a stop of a command that its files explain, after so many loads
abbrev pub IsExplained : Command → Option Told → Stop → ℕ → Type 0
IsExplained command told stop = ComesTo command told (GraphStops (source_of command) told stop) (RulesStop told stop) (CaseStops command told stop)

-- the command stopped there
pub record StopsFor (stop : Stop) (command : Command) (before after : Option Told) (old new : Option (List ℕ)) : Type 0 where
  pub loads : ℕ
  pub explained : IsExplained command before stop loads
  pub stops : StopsAfter command loads before after old new

-- how a command ends, by the cause
abbrev pub Ends : Command → Option Told → Option Told → Option (List ℕ) → Option (List ℕ) → Result Bool Stop → Type 0
Ends command before after old new (Ok optimal) = PrintsReport command before after old new (if optimal then 0 else 1)
Ends command before after old new (Err (BadText line)) = StopsFor (BadText line) command before after old new
Ends command before after old new (Err (Rejected found)) = StopsFor (Rejected found) command before after old new
Ends command before after old new (Err (Broken pair)) = StopsFor (Broken pair) command before after old new
Ends command before after old new (Err (Refused refusal)) = StopsFor (Refused refusal) command before after old new
Ends command before after old new (Err (Contradiction pair)) = StopsFor (Contradiction pair) command before after old new
Ends command before after old new (Err Words) = ⊥
Ends command before after old new (Err ReadFault) = StopsUnread command before after old new
Ends command before after old new (Err WriteFault) = IsTruncated command before after old new
Ends command before after old new (Err Memory) = StopsUnmade command before after old new
Ends command before after old new (Err TooLong) = StopsFor TooLong command before after old new
Ends command before after old new (Err NoFile) = StopsFor NoFile command before after old new

-- err has taken a prefix of the line of a stop with this status that the files explain
pub record TellsCause (command : Command) (told : Option Told) (old new : Option (List ℕ)) (status : ℕ) : Type 0 where
  pub stop : Stop
  pub status_is : status ≡ stop_status stop
  pub loads : ℕ
  pub explained : IsExplained command told stop loads
  pub taken : TakesSome old new (stop_line stop)

-- ---- which status comes
-- the status of a verdict, or that of a read fault (7), of a write fault (8) where there is something to write, or of want of memory (9)
abbrev pub AllowsStatus : Verdict → ℕ → Type 0
AllowsStatus absent status = (status ≡ 11) ⊎ (status ≡ 7) ⊎ (status ≡ 9)
AllowsStatus too_long status = (status ≡ 10) ⊎ (status ≡ 7) ⊎ (status ≡ 9)
AllowsStatus refused status = (status ≡ 4) ⊎ (status ≡ 7) ⊎ (status ≡ 9)
AllowsStatus contradicted status = (status ≡ 5) ⊎ (status ≡ 7) ⊎ (status ≡ 9)
AllowsStatus turned_down status = (status ≡ 3) ⊎ (status ≡ 7) ⊎ (status ≡ 9)
AllowsStatus proven status = (status ≡ 0) ⊎ (status ≡ 7) ⊎ (status ≡ 8) ⊎ (status ≡ 9)
AllowsStatus solvable status = (status ≤ 1) ⊎ (status ≡ 7) ⊎ (status ≡ 8) ⊎ (status ≡ 9)

-- the case of `solve` has at most as many partitions that obey its rules as branchings are allowed
abbrev pub IsCompletable : Command → Option Told → Type 0
IsCompletable (solve source certificate limit) told = (case : Case) × Gives source told case × (start : Closed) × IsStartOf case start × (count start ≤ limit)
IsCompletable (check source name) told = ⊥

-- The command and the files decide the status, but where a read fault, a write fault or want of memory comes before it. A case is
-- solved to the end where as many branchings are allowed as there are partitions that obey its rules.
pub record DecidesStatus (command : Command) (told : Option Told) (status : ℕ) : Type 0 where
  pub verdict : (verdict : Verdict) (loads : ℕ) → Says command told verdict loads → AllowsStatus verdict status
  pub completed : IsCompletable command told → (status ≡ 0) ⊎ (status ≡ 7) ⊎ (status ≡ 8) ⊎ (status ≡ 9)
