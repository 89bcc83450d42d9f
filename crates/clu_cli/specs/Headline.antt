-- What a run promises: the headline, and what a report and a certificate tell of the files.
use Rattle.std.specs.Prelude.{◌≡◌, ◌⊎◌, ◌↔◌, ℕ, pos, ◌≤◌, ◌<◌, List, [], ◌∷◌, length, Option, Some, None, slice_index_or}
use Rattle.clu_outside.specs.Folder.{Told, after_load, Holds, IsStored, IsStoredPartly, CallsWithin, stores_of}
use Rattle.clu_outside.specs.Sink.{TakesSome, with_bytes}
use Rattle.clu_partition.specs.Closed.{Closed}
use Rattle.clu_partition.specs.Partition.{EachOnce, blocks_of}
use Rattle.clu_rules.specs.Closing.{IsContradiction}
use Rattle.clu_rules.specs.Lines.{Rule}
use Rattle.clu_rules.specs.Reading.{IsTextOf}
use Rattle.clu_objective.specs.Problem.{Posed}
use Rattle.clu_cert.specs.Faults.{IsCertFault}
use Rattle.clu_cert.specs.Fits.{Fits}
use Rattle.clu_cert.specs.Text.{cert_text}
use Rattle.clu_cert.specs.Valid.{IsValid}
use Rattle.clu_cert.specs.declared.certificate.Certificate.{Certificate}
use Rattle.clu_check.specs.Rejected.{IsRejected}
use Rattle.clu_check.specs.declared.reject.Reject.{Reject}
use Rattle.clu_check.specs.declared.reject.Reject.TheVariants as reject
use Rattle.clu_search.specs.Count.{count}
use Rattle.clu_search.specs.Outcome.{StatesItsBound, branchings_of}
use Rattle.clu_cli.specs.declared.report.Facts.{Facts}
use Rattle.clu_cli.specs.declared.stop.NamedPair.{NamedPair}
use Rattle.clu_cli.specs.declared.stop.Stop.{Stop}
use Rattle.clu_cli.specs.declared.stop.Stop.TheVariants.{BadText, Broken, Contradiction, Refused, Rejected, Words, ReadFault, WriteFault, Memory, TooLong, NoFile}
use Rattle.clu_cli.specs.Cases.{Case, GivesOnly, IsAllowed, IsStartOf}
use Rattle.clu_cli.specs.Instances.{IsReached, Poses, names_of, objective_of, scale_of, vertices_of, worth}
use Rattle.clu_cli.specs.Report.{report, check_report}
use Rattle.clu_cli.specs.Words.{Command, Source, solve, check}

-- ---- certificates
-- The certificate is valid for the problem of the instance and the closed rules of the case.
pub record Certifies (case : Case) (cert : Certificate) : Type 0 where
  pub problem : Posed
  pub poses : Poses case.instance problem
  pub start : Closed
  pub closes : IsStartOf case start
  pub valid : IsValid problem start cert

-- the bytes are the text of no certificate that is valid for the case
abbrev pub NoneCertifies : Case → List ℕ → Type 0
NoneCertifies case bytes = (cert : Certificate) → Fits cert → bytes ≡ cert_text cert → Certifies case cert → ⊥

-- the first condition of a valid certificate that fails
pub record IsFaulty (case : Case) (bytes : List ℕ) (found : Reject) : Type 0 where
  pub cert : Certificate
  pub fits : Fits cert
  pub read : bytes ≡ cert_text cert
  pub problem : Posed
  pub poses : Poses case.instance problem
  pub start : Closed
  pub closes : IsStartOf case start
  pub rejected : IsRejected problem start cert found

-- a rejection that is told by numbers: that of a broken rule is told by names, and want of memory is none
abbrev pub IsNumbered : Reject → Type 0
IsNumbered reject.Shape = Unit {0}
IsNumbered reject.Blocks = Unit {0}
IsNumbered (reject.Rule u v) = ⊥
IsNumbered (reject.Value found) = Unit {0}
IsNumbered (reject.Step item) = Unit {0}
IsNumbered (reject.Parts part) = Unit {0}
IsNumbered (reject.Leaf item) = Unit {0}
IsNumbered (reject.Unfinished part) = Unit {0}
IsNumbered (reject.Bound found) = Unit {0}
IsNumbered reject.Memory = ⊥

-- the names of two vertices
pub record AreNames (names : List (List ℕ)) (u v : ℕ) (pair : NamedPair) : Type 0 where
  pub first : pair.first.items ≡ slice_index_or names u []
  pub second : pair.second.items ≡ slice_index_or names v []

-- the bytes are a text of rules of n vertices that contradict, and these are the names of the least pair that is forbidden and tied
pub record Contradict (n : ℕ) (names : List (List ℕ)) (named : List ℕ → ℕ → Type 0) (bytes : List ℕ) (pair : NamedPair) : Type 0 where
  pub rules : List Rule
  pub read : IsTextOf named bytes rules
  pub u : ℕ
  pub v : ℕ
  pub least : IsContradiction n rules u v
  pub named_are : AreNames names u v pair

-- why bytes certify nothing: the first bad line, the first condition that fails, or where that is the rules, the least pair against them
abbrev pub FindsFault : Case → List ℕ → Stop → Type 0
FindsFault case bytes (BadText line) = IsCertFault bytes line
FindsFault case bytes (Rejected found) = IsNumbered found × IsFaulty case bytes found
FindsFault case bytes (Broken pair) = (u v : ℕ) × IsFaulty case bytes (reject.Rule u v) × AreNames (names_of case.instance) u v pair
FindsFault case bytes (Refused refusal) = ⊥
FindsFault case bytes (Contradiction pair) = ⊥
FindsFault case bytes Words = ⊥
FindsFault case bytes ReadFault = ⊥
FindsFault case bytes WriteFault = ⊥
FindsFault case bytes Memory = ⊥
FindsFault case bytes TooLong = ⊥
FindsFault case bytes NoFile = ⊥

-- ---- what is printed
-- What a search leaves: the certificate is valid for the problem of the instance and the closed rules, its bound is exactly what its
-- items prove, and it has fewer branches than there are partitions that obey the rules.
pub record IsSearched (case : Case) (cert : Certificate) : Type 0 where
  pub problem : Posed
  pub poses : Poses case.instance problem
  pub start : Closed
  pub closes : IsStartOf case start
  pub valid : IsValid problem start cert
  pub exact : StatesItsBound problem start cert
  pub counted : branchings_of cert < count start

-- What is printed for a case, where so many branchings are allowed. The report is that of a partition that obeys the rules, and its
-- blocks hold each vertex exactly once. The printed value is exactly its objective, at the printed scale, and no partition that obeys
-- the rules is better than the printed bound. The status is 0 exactly where value and bound are equal, and else 1, which comes only
-- where all allowed branchings were made. The certificate has these blocks, this value, this bound and as many branches as the printed
-- branchings; it is valid, and its bound is exactly what it proves. There are fewer branchings than partitions that obey the rules.
pub record IsAnswer (case : Case) (printed : List ℕ) (cert : Certificate) (limit status : ℕ) : Type 0 where
  pub labels : List ℕ
  pub allowed : IsAllowed case labels
  pub each_once : EachOnce (vertices_of case.instance) (blocks_of labels)
  pub facts : Facts
  pub objective : facts.objective ≡ objective_of case.instance
  pub vertices : facts.vertices ≡ vertices_of case.instance
  pub value : facts.value ≡ worth case.instance labels
  pub none_better : (others : List ℕ) → IsAllowed case others → IsReached case.instance facts.bound others
  pub scale : pos facts.scale ≡ scale_of case.instance
  pub text : printed ≡ report facts (names_of case.instance) labels
  pub known : status ≤ 1
  pub optimal : (status ≡ 0) ↔ (facts.value ≡ facts.bound)
  pub gap : status ≡ 1 → facts.branchings ≡ limit
  pub within : facts.branchings ≤ limit
  pub fits : Fits cert
  pub searched : IsSearched case cert
  pub stated_blocks : cert.labels ≡ labels
  pub stated_value : cert.value ≡ facts.value
  pub stated_bound : cert.bound ≡ facts.bound
  pub stated_branchings : branchings_of cert ≡ facts.branchings

-- What is printed for an accepted certificate of a case. The bytes are the text of one certificate alone, and it is valid. Its labels
-- are those of a partition that obeys the rules, and its value is exactly their objective, at the printed scale. No partition that
-- obeys the rules is better than its bound.
pub record IsProofOf (case : Case) (bytes printed : List ℕ) : Type 0 where
  pub cert : Certificate
  pub fits : Fits cert
  pub read : bytes ≡ cert_text cert
  pub only : (other : Certificate) → Fits other → bytes ≡ cert_text other → other ≡ cert
  pub certifies : Certifies case cert
  pub allowed : IsAllowed case cert.labels
  pub value : cert.value ≡ worth case.instance cert.labels
  pub none_better : (others : List ℕ) → IsAllowed case others → IsReached case.instance cert.bound others
  pub scale : ℕ
  pub scale_is : pos scale ≡ scale_of case.instance
  pub printed_is : printed ≡ check_report (objective_of case.instance) (vertices_of case.instance) cert.value cert.bound scale

-- ---- what was loaded
-- the file under a name, if there is one
abbrev pub files_named : Option (List ℕ) → List (List ℕ)
files_named None = []
files_named (Some name) = name ∷ []

-- the files of a source, in the order of the work
abbrev pub files_in : Source → List (List ℕ)
files_in source = source.file ∷ files_named source.rules

-- what a folder tells after loads of these names, one after the other
abbrev pub after_loads : List (List ℕ) → Option Told → Option Told
after_loads [] told = told
after_loads (name ∷ names) told = after_loads names (after_load name told)

-- After the loads of the source's files the certificate is stored whole under its name, where one is given, and nothing else has
-- changed; else no file has changed.
abbrev pub Stores : Source → Option (List ℕ) → Option Told → Option Told → Certificate → Type 0
Stores source None before after cert = after ≡ after_loads (files_in source) before
Stores source (Some name) before after cert =
    IsStored (after_loads (files_in source) before) after name (cert_text cert)
    × CallsWithin (stores_of (length (cert_text cert))) (after_loads (files_in source) before) after

-- ---- how a command ends
-- the report of `solve`, at a time at which the certificate is stored
pub record SolveReports (source : Source) (certificate : Option (List ℕ)) (limit : ℕ) (before after : Option Told) (printed : List ℕ) (status : ℕ) : Type 0 where
  pub case : Case
  pub given : GivesOnly source before case
  pub cert : Certificate
  pub answer : IsAnswer case printed cert limit status
  pub stored : Stores source certificate before after cert

-- the report of `check`
pub record CheckReports (source : Source) (name : List ℕ) (before after : Option Told) (printed : List ℕ) (status : ℕ) : Type 0 where
  pub case : Case
  pub given : GivesOnly source before case
  pub certificate : List ℕ
  pub held : Holds before name certificate
  pub proof : IsProofOf case certificate printed
  pub accepted : status ≡ 0
  pub kept : after ≡ after_load name (after_loads (files_in source) before)

abbrev pub Reports : Command → Option Told → Option Told → List ℕ → ℕ → Type 0
Reports (solve source certificate limit) before after printed status = SolveReports source certificate limit before after printed status
Reports (check source name) before after printed status = CheckReports source name before after printed status

-- status 0 or 1: the sink, where it tells, has taken the command's report, and nothing else
pub record PrintsReport (command : Command) (before after : Option Told) (old new : Option (List ℕ)) (status : ℕ) : Type 0 where
  pub printed : List ℕ
  pub reports : Reports command before after printed status
  pub written : new ≡ with_bytes old printed

-- the sink has taken a prefix of the report
pub record WritesPartly (command : Command) (before after : Option Told) (old new : Option (List ℕ)) : Type 0 where
  pub printed : List ℕ
  pub status : ℕ
  pub reports : Reports command before after printed status
  pub taken : TakesSome old new printed

-- after the loads of the source's files the certificate's name holds what it held or a prefix of the certificate, and the sink has
-- taken nothing
pub record StoresPartly (source : Source) (name : List ℕ) (limit : ℕ) (before after : Option Told) (old new : Option (List ℕ)) : Type 0 where
  pub case : Case
  pub given : GivesOnly source before case
  pub printed : List ℕ
  pub status : ℕ
  pub cert : Certificate
  pub answer : IsAnswer case printed cert limit status
  pub stored : IsStoredPartly (after_loads (files_in source) before) after name (cert_text cert)
  pub few : CallsWithin (stores_of (length (cert_text cert))) (after_loads (files_in source) before) after
  pub unwritten : new ≡ old

-- the same of a command, which stores a certificate only where it is `solve` and has a name for it
abbrev pub IsStoredShort : Command → Option Told → Option Told → Option (List ℕ) → Option (List ℕ) → Type 0
IsStoredShort (solve source None limit) before after old new = ⊥
IsStoredShort (solve source (Some name) limit) before after old new = StoresPartly source name limit before after old new
IsStoredShort (check source name) before after old new = ⊥

-- status 8, and 9 where storing had begun: the certificate or the report is cut short, and the report is begun only where
-- the certificate is whole
abbrev pub IsTruncated : Command → Option Told → Option Told → Option (List ℕ) → Option (List ℕ) → Type 0
IsTruncated command before after old new = IsStoredShort command before after old new ⊎ WritesPartly command before after old new
