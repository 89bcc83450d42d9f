-- What the steps of a command tell: a load, the reading of a graph and of rules, a check, and what is stored and printed.
use Rattle.std.specs.Prelude.{◌≡◌, ◌⊎◌, ℕ, ◌≤◌, ◌<◌, List, length, take, Option, Some, None, Result, Ok, Err, IfOk, IfErr, OnOk}
use Rattle.std.specs.Global.{Vec}
use Rattle.clu_outside.specs.Counts.{last_count, Rose}
use Rattle.clu_outside.specs.Folder.{Told, after_load, Holds, HoldsMore, Lacks, IsStored, IsStoredPartly, CallsWithin, stores_of}
use Rattle.clu_outside.specs.Sink.{TakesSome, with_bytes}
use Rattle.clu_partition.specs.Closed.{Closed}
use Rattle.clu_rules.specs.Closing.{IsClosureOf}
use Rattle.clu_rules.specs.Lines.{Rule}
use Rattle.clu_rules.specs.Reading.{IsRulesFault, IsTextOf}
use Rattle.clu_cert.specs.Text.{cert_text}
use Rattle.clu_cert.specs.declared.certificate.Certificate.{Certificate}
use Rattle.clu_cli.specs.Cases.{Case, GivesGraph, GivesOnly, GivesRules, IsStartOf, case_of}
use Rattle.clu_check.specs.declared.reject.Reject.{Reject}
use Rattle.clu_check.specs.declared.reject.Reject.TheVariants as reject
use Rattle.clu_cli.specs.Headline.{AreNames, Contradict, FindsFault, IsNumbered, NoneCertifies, after_loads, files_in}
use Rattle.clu_cli.specs.Verdicts.{ComesToInput, GraphStops, OfName, RulesStop}
use Rattle.clu_cli.specs.Instances.{FailsToRead, IsInstance, Poses, PrintsWorth, Refuses}
use Rattle.clu_cli.specs.Words.{Source}
use Rattle.clu_cli.specs.declared.form.Form.{Form}
use Rattle.clu_cli.specs.declared.instance.Instance.{Instance}
use Rattle.clu_cli.specs.declared.instance.Task.{Task}
use Rattle.clu_cli.specs.declared.refusal.Refusal.TheVariants.{Graph, Network, Objective, Rules}
use Rattle.clu_cli.specs.declared.stop.Stop.{Stop}
use Rattle.clu_cli.specs.declared.stop.Stop.TheVariants.{BadText, Broken, Contradiction, Rejected, Refused, Words, ReadFault, WriteFault, Memory, TooLong, NoFile}

-- the stop that a step ended with
abbrev pub stop_of : {T : Type 0} → Result T Stop → Option Stop
stop_of (Ok value) = None
stop_of (Err stop) = Some stop

-- what a folder tells after a load of a name; at want of memory it may not have begun
abbrev pub TellsLoad : Option Stop → List ℕ → Option Told → Option Told → Type 0
TellsLoad (Some Memory) name before after = (after ≡ before) ⊎ (after ≡ after_load name before)
TellsLoad other name before after = after ≡ after_load name before

-- the faults of loads: one more at a read fault, and no more at any other end
abbrev pub CountsLoads : Option Stop → ℕ → ℕ → Type 0
CountsLoads (Some ReadFault) before after = Rose before after
CountsLoads other before after = after ≡ before

-- the faults of a folder's stores or of a sink: one more at a write fault, and no more at any other end
abbrev pub CountsWrites : Option Stop → ℕ → ℕ → Type 0
CountsWrites (Some WriteFault) before after = Rose before after
CountsWrites other before after = after ≡ before

-- those of a folder's stores and of a sink together: one more of one of them at a write fault, and no more at any other end
abbrev pub CountsEither : Option Stop → ℕ → ℕ → ℕ → ℕ → Type 0
CountsEither (Some WriteFault) stores stores_after writes writes_after = Rose stores stores_after ⊎ Rose writes writes_after
CountsEither other stores stores_after writes writes_after = (stores_after ≡ stores) × (writes_after ≡ writes)

-- what the faults of a folder and of a sink say of the end of a command
pub record CountsFaults (stop : Option Stop) (loads_before loads_after stores_before stores_after writes_before writes_after : ℕ) : Type 0 where
  pub loads : CountsLoads stop loads_before loads_after
  pub writes : CountsEither stop stores_before stores_after writes_before writes_after

-- why there are no bytes of that name: it is missing, its file is longer than a limit, or a fault or want of memory came
abbrev pub StopsLoad : Option Told → List ℕ → ℕ → Stop → Type 0
StopsLoad told name limit NoFile = Lacks told name
StopsLoad told name limit TooLong = (limit < last_count) × HoldsMore told name limit
StopsLoad told name limit ReadFault = Unit {0}
StopsLoad told name limit Memory = Unit {0}
StopsLoad told name limit (BadText line) = ⊥
StopsLoad told name limit (Rejected reject) = ⊥
StopsLoad told name limit (Broken pair) = ⊥
StopsLoad told name limit (Contradiction pair) = ⊥
StopsLoad told name limit (Refused refusal) = ⊥
StopsLoad told name limit Words = ⊥
StopsLoad told name limit WriteFault = ⊥

-- a load gives the bytes under the name
pub record LoadGives (told : Option Told) (name : List ℕ) (limit : ℕ) (result : Result (Vec ℕ) Stop) : Type 0 where
  pub found : IfOk result (λ bytes. Holds told name bytes.items)
  pub within : limit < last_count → IfOk result (λ bytes. length bytes.items ≤ limit)
  pub stops : IfErr result (λ stop. StopsLoad told name limit stop)

-- why bytes are no edge list: one of its lines is refused, or want of memory came
abbrev pub StopsList : Option ℕ → List ℕ → Stop → Type 0
StopsList places bytes (Refused (Graph error)) = ⊥
StopsList places bytes (Refused (Network error)) = FailsToRead places bytes error
StopsList places bytes (Refused (Objective error)) = ⊥
StopsList places bytes (Refused (Rules error)) = ⊥
StopsList places bytes Memory = Unit {0}
StopsList places bytes (BadText line) = ⊥
StopsList places bytes (Rejected reject) = ⊥
StopsList places bytes (Broken pair) = ⊥
StopsList places bytes (Contradiction pair) = ⊥
StopsList places bytes Words = ⊥
StopsList places bytes ReadFault = ⊥
StopsList places bytes WriteFault = ⊥
StopsList places bytes TooLong = ⊥
StopsList places bytes NoFile = ⊥

-- why bytes give no instance: they are refused, or want of memory came
abbrev pub StopsReading : Form → List ℕ → Stop → Type 0
StopsReading form bytes (Refused refusal) = Refuses form bytes refusal
StopsReading form bytes Memory = Unit {0}
StopsReading form bytes (BadText line) = ⊥
StopsReading form bytes (Rejected reject) = ⊥
StopsReading form bytes (Broken pair) = ⊥
StopsReading form bytes (Contradiction pair) = ⊥
StopsReading form bytes Words = ⊥
StopsReading form bytes ReadFault = ⊥
StopsReading form bytes WriteFault = ⊥
StopsReading form bytes TooLong = ⊥
StopsReading form bytes NoFile = ⊥

-- the graph's file is a text of the instance, and of no other
pub record GivesGraphOnly (file : List ℕ) (form : Form) (told : Option Told) (instance : Instance) : Type 0 where
  pub gives : GivesGraph file form told instance
  pub only : (other : Instance) → IsInstance form gives.bytes other → other ≡ instance

-- why bytes give no closed rules of vertices with these names: a line is refused, the rules contradict, or want of memory came
abbrev pub StopsClosing : List (List ℕ) → (List ℕ → ℕ → Type 0) → List ℕ → Stop → Type 0
StopsClosing names named bytes (Refused (Graph error)) = ⊥
StopsClosing names named bytes (Refused (Network error)) = ⊥
StopsClosing names named bytes (Refused (Objective error)) = ⊥
StopsClosing names named bytes (Refused (Rules error)) = IsRulesFault named bytes error
StopsClosing names named bytes (Contradiction pair) = Contradict (length names) names named bytes pair
StopsClosing names named bytes Memory = Unit {0}
StopsClosing names named bytes (BadText line) = ⊥
StopsClosing names named bytes (Rejected reject) = ⊥
StopsClosing names named bytes (Broken pair) = ⊥
StopsClosing names named bytes Words = ⊥
StopsClosing names named bytes ReadFault = ⊥
StopsClosing names named bytes WriteFault = ⊥
StopsClosing names named bytes TooLong = ⊥
StopsClosing names named bytes NoFile = ⊥

-- bytes are a text of rules of n vertices, and these are the closed rules that they make
pub record TextCloses (n : ℕ) (named : List ℕ → ℕ → Type 0) (bytes : List ℕ) (start : Closed) : Type 0 where
  pub rules : List Rule
  pub read : IsTextOf named bytes rules
  pub closes : IsClosureOf n rules start

-- why a step at the rules stops: for their file, where one is named, or for want of memory
abbrev pub StopsRules : Option Told → Option (List ℕ) → Instance → Stop → Type 0
StopsRules told name instance Memory = Unit {0}
StopsRules told name instance stop = OfName name (RulesStop told stop instance)

-- what a folder tells after the load of a file, where one is named
abbrev pub TellsNamed : Option Stop → Option (List ℕ) → Option Told → Option Told → Type 0
TellsNamed stop None before after = after ≡ before
TellsNamed stop (Some name) before after = TellsLoad stop name before after

-- the rules that a file gives, where one is named, of the vertices of an instance, and the closed rules that they make
pub record ClosesRules (name : Option (List ℕ)) (told : Option Told) (instance : Instance) (start : Closed) : Type 0 where
  pub rules : List Rule
  pub given : GivesRules name told instance rules
  pub closes : IsStartOf (case_of instance rules) start

-- the files of a source give a case and no other, and the task poses its problem and has its closed rules
pub record PosesTask (source : Source) (told : Option Told) (task : Task) : Type 0 where
  pub rules : List Rule
  pub given : GivesOnly source told (case_of task.instance rules)
  pub closes : IsStartOf (case_of task.instance rules) task.start
  pub poses : Poses task.instance task.problem
  pub prints : PrintsWorth task.instance task.problem

-- The folder has had the loads of the first so many files of a source, and no other call. The rules are loaded only where there is an
-- instance.
pub record HasRead (source : Source) (loads : ℕ) (before after : Option Told) : Type 0 where
  pub few : loads ≤ length (files_in source)
  pub told : after ≡ after_loads (take loads (files_in source)) before
  pub instance : 2 ≤ loads → (instance : Instance) × GivesGraph source.file source.form before instance

-- what the files have to do with a stop at one of them; want of memory may come before the first load
abbrev pub SourceStops : Source → Option Told → Stop → ℕ → Type 0
SourceStops source told Memory loads = Unit {0}
SourceStops source told stop loads = ComesToInput source told (GraphStops source told stop) (RulesStop told stop) loads

-- why a source gives no case, and which of its files were loaded
abbrev pub StopsSource : Source → Option Told → Option Told → Stop → Type 0
StopsSource source before after stop =
    (loads : ℕ) × HasRead source loads before after × SourceStops source before stop loads

-- why bytes were not stored or written: a fault or want of memory
abbrev pub StopsWrite : Stop → Type 0
StopsWrite WriteFault = Unit {0}
StopsWrite Memory = Unit {0}
StopsWrite (BadText line) = ⊥
StopsWrite (Rejected reject) = ⊥
StopsWrite (Broken pair) = ⊥
StopsWrite (Contradiction pair) = ⊥
StopsWrite (Refused refusal) = ⊥
StopsWrite Words = ⊥
StopsWrite ReadFault = ⊥
StopsWrite TooLong = ⊥
StopsWrite NoFile = ⊥

-- the certificate is whole under the name, where one is given
abbrev pub IsKeptWhole : Option (List ℕ) → Option Told → Option Told → Certificate → Type 0
IsKeptWhole None old new cert = new ≡ old
IsKeptWhole (Some name) old new cert = IsStored old new name (cert_text cert) × CallsWithin (stores_of (length (cert_text cert))) old new

-- a name is given, and holds what it held or a prefix of the certificate
abbrev pub IsKeptPartly : Option (List ℕ) → Option Told → Option Told → Certificate → Type 0
IsKeptPartly None old new cert = ⊥
IsKeptPartly (Some name) old new cert =
    IsStoredPartly old new name (cert_text cert) × CallsWithin (stores_of (length (cert_text cert))) old new

-- the certificate was not begun for want of memory, or is cut short
abbrev pub StopsKeeping : Option (List ℕ) → Option Told → Option Told → Certificate → Stop → Type 0
StopsKeeping name old new cert stop =
    ((stop ≡ Memory) × (new ≡ old)) ⊎ (StopsWrite stop × IsKeptPartly name old new cert)

-- what keeping a certificate leaves
pub record Keeps {T : Type 0} (name : Option (List ℕ)) (old new : Option Told) (cert : Certificate) (result : Result T Stop) : Type 0 where
  pub whole : OnOk result (IsKeptWhole name old new cert)
  pub stops : IfErr result (λ stop. StopsKeeping name old new cert stop)

-- the bytes are printed whole, or a prefix of them
pub record PrintsBytes {T : Type 0} (old new : Option (List ℕ)) (bytes : List ℕ) (result : Result T Stop) : Type 0 where
  pub some : TakesSome old new bytes
  pub whole : OnOk result (new ≡ with_bytes old bytes)
  pub stops : IfErr result StopsWrite

-- why a certificate is not accepted: it isn't one that is valid, for what was found, or want of memory came
abbrev pub StopsCheck : Case → List ℕ → Stop → Type 0
StopsCheck case bytes (BadText line) = NoneCertifies case bytes × FindsFault case bytes (BadText line)
StopsCheck case bytes (Rejected reject) = NoneCertifies case bytes × FindsFault case bytes (Rejected reject)
StopsCheck case bytes (Broken pair) = NoneCertifies case bytes × FindsFault case bytes (Broken pair)
StopsCheck case bytes Memory = Unit {0}
StopsCheck case bytes (Refused refusal) = ⊥
StopsCheck case bytes (Contradiction pair) = ⊥
StopsCheck case bytes Words = ⊥
StopsCheck case bytes ReadFault = ⊥
StopsCheck case bytes WriteFault = ⊥
StopsCheck case bytes TooLong = ⊥
StopsCheck case bytes NoFile = ⊥

-- the kinds of stop that a check has
abbrev pub StopsAtCheck : Stop → Type 0
StopsAtCheck (BadText line) = Unit {0}
StopsAtCheck (Rejected reject) = Unit {0}
StopsAtCheck (Broken pair) = Unit {0}
StopsAtCheck Memory = Unit {0}
StopsAtCheck (Refused refusal) = ⊥
StopsAtCheck (Contradiction pair) = ⊥
StopsAtCheck Words = ⊥
StopsAtCheck ReadFault = ⊥
StopsAtCheck WriteFault = ⊥
StopsAtCheck TooLong = ⊥
StopsAtCheck NoFile = ⊥

-- the vertices of a rejection by a rule are below n
abbrev pub IsWithin : ℕ → Reject → Type 0
IsWithin n (reject.Rule u v) = (u < n) × (v < n)
IsWithin n reject.Shape = Unit {0}
IsWithin n reject.Blocks = Unit {0}
IsWithin n (reject.Value found) = Unit {0}
IsWithin n (reject.Step item) = Unit {0}
IsWithin n (reject.Parts part) = Unit {0}
IsWithin n (reject.Leaf item) = Unit {0}
IsWithin n (reject.Unfinished part) = Unit {0}
IsWithin n (reject.Bound found) = Unit {0}
IsWithin n reject.Memory = Unit {0}

-- the stop of a rejection: by numbers, by the names of two vertices, or for want of memory
abbrev pub StopsRejected : List (List ℕ) → Reject → Stop → Type 0
StopsRejected names found (Rejected reject) = (reject ≡ found) × IsNumbered reject
StopsRejected names found (Broken pair) = (u v : ℕ) × (found ≡ reject.Rule u v) × AreNames names u v pair
StopsRejected names found Memory = Unit {0}
StopsRejected names found (BadText line) = ⊥
StopsRejected names found (Refused refusal) = ⊥
StopsRejected names found (Contradiction pair) = ⊥
StopsRejected names found Words = ⊥
StopsRejected names found ReadFault = ⊥
StopsRejected names found WriteFault = ⊥
StopsRejected names found TooLong = ⊥
StopsRejected names found NoFile = ⊥
