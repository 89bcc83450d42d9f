-- The command and the files decide the status: each verdict excludes the others.
use Rattle.std.proofs.Common.{◌≡◌, ℕ, zero, suc, ◌≤◌, ◌<◌, ◌==◌, List, length, refl, sym, ◌∙◌, ap, subst, arith, inl, inr, ⊎_elim, Option, Some, None, Bool, true, false, Ok, Err}
use Rattle.std.specs.Prelude.{◌⊎◌, Result, IfErr, IfSome, IsSomeAnd, String, if◌then◌else◌}
use Rattle.std.specs.Global.{Global}
use Rattle.clu_outside.specs.Folder.{Told, HoldsMore, Lacks}
use Rattle.clu_outside.specs.Sink.{TakesSome}
use Rattle.clu_partition.specs.Closed.{Closed}
use Rattle.clu_rules.specs.Lines.{Rule}
use Rattle.clu_rules.specs.Reading.{IsTextOf}
use Rattle.clu_rules.specs.Rules.{Obeys}
use Rattle.clu_rules.proofs.ClosureLaws.{none_obeys, one_closure, one_text, refused_or_text}
use Rattle.clu_cert.specs.Text.{cert_text}
use Rattle.clu_cert.specs.declared.certificate.Certificate.{Certificate}
use Rattle.clu_search.specs.Count.{count}
use Rattle.clu_search.specs.Outcome.{branchings_of}
use Rattle.clu_cli.specs.Cases.{Case, Gives, GivesGraph, GivesRules, HoldsInput, HoldsRules, IsStartOf, max_bytes}
use Rattle.clu_cli.specs.Headline.{IsAnswer, IsTruncated, PrintsReport, Reports}
use Rattle.clu_cli.specs.Instances.{IsInstance, named_in, vertices_of}
use Rattle.clu_cli.specs.Status.{end_status, stop_line, stop_status}
use Rattle.clu_cli.specs.Verdicts.{AllowsStatus, CaseSays, CaseStops, CertificateSays, ComesTo, DecidesStatus, Ends, GraphSays, GraphStops, IsCompletable, IsExplained, OfName, RulesSay, RulesStop, Says, Stops, StopsAfter, StopsFor, StopsUnmade, StopsUnread, TellsCause, Verdict, absent, contradicted, files_of, proven, refused, solvable, too_long, turned_down}
use Rattle.clu_cli.specs.Words.{Asked, Command, Source, solve, check, source_of}
use Rattle.clu_cli.specs.declared.instance.Instance.{Instance}
use Rattle.clu_cli.specs.declared.refusal.Refusal.{Refusal}
use Rattle.clu_cli.specs.declared.refusal.Refusal.TheVariants as refusal
use Rattle.clu_cli.specs.declared.stop.NamedPair.{NamedPair}
use Rattle.clu_cli.specs.declared.stop.Stop.{Stop}
use Rattle.clu_cli.specs.declared.stop.Stop.TheVariants.{BadText, Broken, Contradiction, Rejected, Refused, Words, ReadFault, WriteFault, Memory, TooLong, NoFile}
use Rattle.clu_cli.proofs.InstanceLaws.{one_instance, refused_or_instance}
use Rattle.clu_cli.proofs.Sources.{one_named}

-- ---- the verdict behind a stop
module _ (command : Command) (told : Option Told) where
  -- the same place with other facts
  comes : (Graph Graph' : Type 0) (Rules Rules' : Instance → List ℕ → Type 0) (Last Last' : Case → Type 0) → (Graph → Graph')
      → ((instance : Instance) (name : List ℕ) → Rules instance name → Rules' instance name) → ((case : Case) → Last case → Last' case)
      → (loads : ℕ) → ComesTo command told Graph Rules Last loads → ComesTo command told Graph' Rules' Last' loads
  comes Graph Graph' Rules Rules' Last Last' graph rules last loads (inl (inl h)) = inl (inl (h.0, graph h.1))
  comes Graph Graph' Rules Rules' Last Last' graph rules last loads (inl (inr h)) = inl (inr (h.0, h.1, h.2, named (source_of command).rules h.3))
    where
      named : (name : Option (List ℕ)) → OfName name (Rules h.1) → OfName name (Rules' h.1)
      named None k = k
      named (Some file) k = rules h.1 file k
  comes Graph Graph' Rules Rules' Last Last' graph rules last loads (inr h) = inr (h.0, h.1, h.2, last h.1 h.3)

  barred_graph : (refusal : Refusal) → GraphStops (source_of command) told (Refused refusal) → GraphSays (source_of command) told refused
  barred_graph refusal h = (h.bytes, h.loaded, λ instance is. refused_or_instance (source_of command).form h.bytes refusal instance h.refuses is)

  barred_rules : (refusal : Refusal) (instance : Instance) (name : List ℕ) → RulesStop told (Refused refusal) instance name → RulesSay told refused instance name
  barred_rules (refusal.Graph error) instance name h = absurd h
  barred_rules (refusal.Network error) instance name h = absurd h
  barred_rules (refusal.Objective error) instance name h = absurd h
  barred_rules (refusal.Rules error) instance name h = (h.0, h.1, λ rules is. refused_or_text (named_in instance) (one_named instance) h.0 error rules h.2 is)

  contradict : (pair : NamedPair) (instance : Instance) (name : List ℕ) → RulesStop told (Contradiction pair) instance name → RulesSay told contradicted instance name
  contradict pair instance name h = (h.0, h.1, h.2.rules, h.2.read, none_obeys (vertices_of instance) h.2.rules h.2.u h.2.v h.2.least)

missing_case : (command : Command) (told : Option Told) (case : Case) → CaseStops command told NoFile case → CaseSays command told absent case
missing_case (solve source certificate limit) told case h = absurd h
missing_case (check source name) told case h = h

long_case : (command : Command) (told : Option Told) (case : Case) → CaseStops command told TooLong case → ⊥
long_case (solve source certificate limit) told case h = h
long_case (check source name) told case h = h

refused_case : (command : Command) (told : Option Told) (refusal : Refusal) (case : Case) → CaseStops command told (Refused refusal) case → ⊥
refused_case (solve source certificate limit) told refusal case h = h
refused_case (check source name) told refusal case h = h

contradicted_case : (command : Command) (told : Option Told) (pair : NamedPair) (case : Case) → CaseStops command told (Contradiction pair) case → ⊥
contradicted_case (solve source certificate limit) told pair case h = h
contradicted_case (check source name) told pair case h = h

turned_case : (command : Command) (told : Option Told) (line : ℕ) (case : Case) → CaseStops command told (BadText line) case → CaseSays command told turned_down case
turned_case (solve source certificate limit) told line case h = absurd h
turned_case (check source name) told line case h = (h.0, h.1, h.2)

rejected_case : (command : Command) (told : Option Told) (found : _) (case : Case) → CaseStops command told (Rejected found) case → CaseSays command told turned_down case
rejected_case (solve source certificate limit) told found case h = absurd h
rejected_case (check source name) told found case h = (h.0, h.1, h.2)

broken_case : (command : Command) (told : Option Told) (pair : NamedPair) (case : Case) → CaseStops command told (Broken pair) case → CaseSays command told turned_down case
broken_case (solve source certificate limit) told pair case h = absurd h
broken_case (check source name) told pair case h = (h.0, h.1, h.2)

-- ---- the status of a verdict that bars a command
abbrev status_of : Verdict → ℕ
status_of absent = 11
status_of too_long = 10
status_of refused = 4
status_of contradicted = 5
status_of turned_down = 3
status_of proven = 0
status_of solvable = 0

-- what a stop says of the files
record SaysFor (command : Command) (told : Option Told) (status loads : ℕ) : Type 0 where
  verdict : Verdict
  status_is : status ≡ status_of verdict
  says : Says command told verdict loads

module _ (command : Command) (told : Option Told) where
  says_missing : (loads : ℕ) → IsExplained command told NoFile loads → SaysFor command told 11 loads
  says_missing loads h = record {
    verdict = absent;
    status_is = refl;
    says = comes command told _ _ (RulesStop told NoFile) (RulesSay told absent) (CaseStops command told NoFile) (CaseSays command told absent) (λ g. g) (λ instance name r. r) (missing_case command told) loads h;
  }

  says_long : (loads : ℕ) → IsExplained command told TooLong loads → SaysFor command told 10 loads
  says_long loads h = record {
    verdict = too_long;
    status_is = refl;
    says = comes command told _ _ (RulesStop told TooLong) (RulesSay told too_long) (CaseStops command told TooLong) (CaseSays command told too_long) (λ g. g) (λ instance name r. r)
        (λ case k. absurd (long_case command told case k)) loads h;
  }

  says_refused : (refusal : Refusal) (loads : ℕ) → IsExplained command told (Refused refusal) loads → SaysFor command told 4 loads
  says_refused refusal loads h = record {
    verdict = refused;
    status_is = refl;
    says = comes command told _ _ (RulesStop told (Refused refusal)) (RulesSay told refused) (CaseStops command told (Refused refusal)) (CaseSays command told refused)
        (barred_graph command told refusal) (barred_rules command told refusal) (λ case k. absurd (refused_case command told refusal case k)) loads h;
  }

  says_contradicted : (pair : NamedPair) (loads : ℕ) → IsExplained command told (Contradiction pair) loads → SaysFor command told 5 loads
  says_contradicted pair loads h = record {
    verdict = contradicted;
    status_is = refl;
    says = comes command told _ _ (RulesStop told (Contradiction pair)) (RulesSay told contradicted) (CaseStops command told (Contradiction pair)) (CaseSays command told contradicted)
        (λ g. g) (contradict command told pair) (λ case k. absurd (contradicted_case command told pair case k)) loads h;
  }

  says_bad : (line loads : ℕ) → IsExplained command told (BadText line) loads → SaysFor command told 3 loads
  says_bad line loads h = record {
    verdict = turned_down;
    status_is = refl;
    says = comes command told _ _ (RulesStop told (BadText line)) (RulesSay told turned_down) (CaseStops command told (BadText line)) (CaseSays command told turned_down)
        (λ g. g) (λ instance name r. r) (turned_case command told line) loads h;
  }

  says_rejected : (found : _) (loads : ℕ) → IsExplained command told (Rejected found) loads → SaysFor command told 3 loads
  says_rejected found loads h = record {
    verdict = turned_down;
    status_is = refl;
    says = comes command told _ _ (RulesStop told (Rejected found)) (RulesSay told turned_down) (CaseStops command told (Rejected found)) (CaseSays command told turned_down)
        (λ g. g) (λ instance name r. r) (rejected_case command told found) loads h;
  }

  says_broken : (pair : NamedPair) (loads : ℕ) → IsExplained command told (Broken pair) loads → SaysFor command told 3 loads
  says_broken pair loads h = record {
    verdict = turned_down;
    status_is = refl;
    says = comes command told _ _ (RulesStop told (Broken pair)) (RulesSay told turned_down) (CaseStops command told (Broken pair)) (CaseSays command told turned_down)
        (λ g. g) (λ instance name r. r) (broken_case command told pair) loads h;
  }

-- what the files say, and that it allows the status
record Known (command : Command) (told : Option Told) (status : ℕ) : Type 0 where
  verdict : Verdict
  loads : ℕ
  says : Says command told verdict loads
  allows : AllowsStatus verdict status

-- ---- what ends say
-- a stop that says something of the files
record StopsSaying (command : Command) (told after : Option Told) (old new : Option (List ℕ)) (status : ℕ) : Type 0 where
  low : 3 ≤ status
  loads : ℕ
  stops : StopsAfter command loads told after old new
  says : SaysFor command told status loads

-- a command ends with a report, with such a stop, with a part of what it stores and prints, or with a read fault or want of memory
abbrev EndsWith : Command → Option Told → Option Told → Option (List ℕ) → Option (List ℕ) → ℕ → Type 0
EndsWith command told after old new status =
    ((status ≤ 1) × PrintsReport command told after old new status)
    ⊎ StopsSaying command told after old new status
    ⊎ ((status ≡ 8) × IsTruncated command told after old new)
    ⊎ ((status ≡ 7) × StopsUnread command told after old new)
    ⊎ ((status ≡ 9) × StopsUnmade command told after old new)

module _ (command : Command) (told after : Option Told) (old new : Option (List ℕ)) where
  saying : (status : ℕ) (stop : Stop) (stops : StopsFor stop command told after old new) → 3 ≤ status → SaysFor command told status stops.loads → EndsWith command told after old new status
  saying status stop stops low says = inr (inl (record { low = low; loads = stops.loads; stops = stops.stops; says = says }))

  ends_with : (end : Result Bool Stop) → Ends command told after old new end → EndsWith command told after old new (end_status end)
  ends_with (Ok true) h = inl (omega arith, h)
  ends_with (Ok false) h = inl (omega arith, h)
  ends_with (Err (BadText line)) h = saying 3 (BadText line) h (omega arith) (says_bad command told line h.loads h.explained)
  ends_with (Err (Rejected found)) h = saying 3 (Rejected found) h (omega arith) (says_rejected command told found h.loads h.explained)
  ends_with (Err (Broken pair)) h = saying 3 (Broken pair) h (omega arith) (says_broken command told pair h.loads h.explained)
  ends_with (Err (Refused refusal)) h = saying 4 (Refused refusal) h (omega arith) (says_refused command told refusal h.loads h.explained)
  ends_with (Err (Contradiction pair)) h = saying 5 (Contradiction pair) h (omega arith) (says_contradicted command told pair h.loads h.explained)
  ends_with (Err Words) h = absurd h
  ends_with (Err ReadFault) h = inr (inr (inr (inl (refl, h))))
  ends_with (Err WriteFault) h = inr (inr (inl (refl, h)))
  ends_with (Err Memory) h = inr (inr (inr (inr (refl, h))))
  ends_with (Err TooLong) h = saying 10 TooLong h (omega arith) (says_long command told h.loads h.explained)
  ends_with (Err NoFile) h = saying 11 NoFile h (omega arith) (says_missing command told h.loads h.explained)

-- ---- the fact that a verdict stands for
abbrev GraphFact : Source → Option Told → Verdict → Type 0
GraphFact source told verdict =
    ((verdict ≡ absent) × Lacks told source.file)
    ⊎ ((verdict ≡ too_long) × HoldsMore told source.file max_bytes)
    ⊎ ((verdict ≡ refused) × GraphSays source told refused)

graph_fact : (source : Source) (told : Option Told) (verdict : Verdict) → GraphSays source told verdict → GraphFact source told verdict
graph_fact source told absent h = inl (refl, h)
graph_fact source told too_long h = inr (inl (refl, h))
graph_fact source told refused h = inr (inr (refl, h))
graph_fact source told contradicted h = absurd h
graph_fact source told turned_down h = absurd h
graph_fact source told proven h = absurd h
graph_fact source told solvable h = absurd h

abbrev RulesFact : Option Told → Verdict → Instance → List ℕ → Type 0
RulesFact told verdict instance name =
    ((verdict ≡ absent) × Lacks told name)
    ⊎ ((verdict ≡ too_long) × HoldsMore told name max_bytes)
    ⊎ ((verdict ≡ refused) × RulesSay told refused instance name)
    ⊎ ((verdict ≡ contradicted) × RulesSay told contradicted instance name)

rules_fact : (told : Option Told) (verdict : Verdict) (instance : Instance) (name : List ℕ) → RulesSay told verdict instance name → RulesFact told verdict instance name
rules_fact told absent instance name h = inl (refl, h)
rules_fact told too_long instance name h = inr (inl (refl, h))
rules_fact told refused instance name h = inr (inr (inl (refl, h)))
rules_fact told contradicted instance name h = inr (inr (inr (refl, h)))
rules_fact told turned_down instance name h = absurd h
rules_fact told proven instance name h = absurd h
rules_fact told solvable instance name h = absurd h

abbrev CertificateFact : List ℕ → Option Told → Verdict → Case → Type 0
CertificateFact name told verdict case =
    ((verdict ≡ absent) × Lacks told name)
    ⊎ ((verdict ≡ turned_down) × CertificateSays name told turned_down case)
    ⊎ ((verdict ≡ proven) × CertificateSays name told proven case)

certificate_fact : (name : List ℕ) (told : Option Told) (verdict : Verdict) (case : Case) → CertificateSays name told verdict case → CertificateFact name told verdict case
certificate_fact name told absent case h = inl (refl, h)
certificate_fact name told too_long case h = absurd h
certificate_fact name told refused case h = absurd h
certificate_fact name told contradicted case h = absurd h
certificate_fact name told turned_down case h = inr (inl (refl, h))
certificate_fact name told proven case h = inr (inr (refl, h))
certificate_fact name told solvable case h = absurd h

-- ---- of one name
lacking : (held : Option (List ℕ)) (bytes : List ℕ) → held ≡ Some bytes → held ≡ None → ⊥
lacking held bytes is none = let e : None ≡ Some bytes = sym none ∙ is in cc

not_none : (held : Option (List ℕ)) (P : List ℕ → Type 0) → held ≡ None → IsSomeAnd held P → ⊥
not_none held P is some = subst (λ (h : Option (List ℕ)). IsSomeAnd h P) is some

not_longer : (held : Option (List ℕ)) (bytes : List ℕ) → held ≡ Some bytes → length bytes ≤ max_bytes → IsSomeAnd held (λ bs. max_bytes < length bs) → ⊥
not_longer held bytes is small longer =
    let long : max_bytes < length bytes = subst (λ (h : Option (List ℕ)). IsSomeAnd h (λ bs. max_bytes < length bs)) is longer in omega (arith, long, small)

same_bytes : (held : Option (List ℕ)) (bytes others : List ℕ) → held ≡ Some bytes → held ≡ Some others → others ≡ bytes
same_bytes held bytes others is are = let e : Some others ≡ Some bytes = sym are ∙ is in cc

module _ (t : Told) where
  lacks_or_more : (name : List ℕ) → Lacks (Some t) name → HoldsMore (Some t) name max_bytes → ⊥
  lacks_or_more name lacks more = not_none (t.held name) (λ bs. max_bytes < length bs) lacks more

  lacks_or_holds : (name bytes : List ℕ) → Lacks (Some t) name → HoldsInput name (Some t) bytes → ⊥
  lacks_or_holds name bytes lacks holds = lacking (t.held name) bytes holds.held lacks

  more_or_holds : (name bytes : List ℕ) → HoldsMore (Some t) name max_bytes → HoldsInput name (Some t) bytes → ⊥
  more_or_holds name bytes more holds = not_longer (t.held name) bytes holds.held holds.small more

  one_input : (name bytes others : List ℕ) → HoldsInput name (Some t) bytes → HoldsInput name (Some t) others → others ≡ bytes
  one_input name bytes others this that = same_bytes (t.held name) bytes others this.held that.held

  -- ---- of the graph's file
  one_graph : (source : Source) (instance other : Instance) → GivesGraph source.file source.form (Some t) instance → GivesGraph source.file source.form (Some t) other → other ≡ instance
  one_graph source instance other this that = one_instance source.form this.bytes instance other this.read
      (subst (λ (bs : List ℕ). IsInstance source.form bs other) (one_input source.file this.bytes that.bytes this.loaded that.loaded) that.read)

  graph_or_given : (source : Source) (verdict : Verdict) (instance : Instance) → GraphFact source (Some t) verdict → GivesGraph source.file source.form (Some t) instance → ⊥
  graph_or_given source verdict instance (inl h) given = lacks_or_holds source.file given.bytes h.1 given.loaded
  graph_or_given source verdict instance (inr (inl h)) given = more_or_holds source.file given.bytes h.1 given.loaded
  graph_or_given source verdict instance (inr (inr h)) given =
      h.1.2 instance (subst (λ (bs : List ℕ). IsInstance source.form bs instance) (one_input source.file h.1.0 given.bytes h.1.1 given.loaded) given.read)

  graph_once : (source : Source) (verdict other : Verdict) → GraphFact source (Some t) verdict → GraphFact source (Some t) other → verdict ≡ other
  graph_once source verdict other (inl h) (inl k) = h.0 ∙ sym k.0
  graph_once source verdict other (inl h) (inr (inl k)) = absurd (lacks_or_more source.file h.1 k.1)
  graph_once source verdict other (inl h) (inr (inr k)) = absurd (lacks_or_holds source.file k.1.0 h.1 k.1.1)
  graph_once source verdict other (inr (inl h)) (inl k) = absurd (lacks_or_more source.file k.1 h.1)
  graph_once source verdict other (inr (inl h)) (inr (inl k)) = h.0 ∙ sym k.0
  graph_once source verdict other (inr (inl h)) (inr (inr k)) = absurd (more_or_holds source.file k.1.0 h.1 k.1.1)
  graph_once source verdict other (inr (inr h)) (inl k) = absurd (lacks_or_holds source.file h.1.0 k.1 h.1.1)
  graph_once source verdict other (inr (inr h)) (inr (inl k)) = absurd (more_or_holds source.file h.1.0 k.1 h.1.1)
  graph_once source verdict other (inr (inr h)) (inr (inr k)) = h.0 ∙ sym k.0

  -- ---- of that of the rules
  refused_or_read : (name : List ℕ) (instance : Instance) (bytes : List ℕ) (rules : List Rule) → RulesSay (Some t) refused instance name → HoldsInput name (Some t) bytes
      → IsTextOf (named_in instance) bytes rules → ⊥
  refused_or_read name instance bytes rules h holds read =
      h.2 rules (subst (λ (bs : List ℕ). IsTextOf (named_in instance) bs rules) (one_input name h.0 bytes h.1 holds) read)

  one_rules : (instance : Instance) (bytes others : List ℕ) (rules more : List Rule) → others ≡ bytes → IsTextOf (named_in instance) bytes rules → IsTextOf (named_in instance) others more → more ≡ rules
  one_rules instance bytes others rules more same this that =
      one_text (named_in instance) (one_named instance) bytes rules more this (subst (λ (bs : List ℕ). IsTextOf (named_in instance) bs more) same that)

  contradicted_or_obeyed : (name : List ℕ) (instance : Instance) (bytes : List ℕ) (rules : List Rule) (label : ℕ → ℕ) → RulesSay (Some t) contradicted instance name
      → HoldsInput name (Some t) bytes → IsTextOf (named_in instance) bytes rules → Obeys rules label → ⊥
  contradicted_or_obeyed name instance bytes rules label h holds read obeys =
      h.4 label (subst (λ (rs : List Rule). Obeys rs label) (one_rules instance h.0 bytes h.2 rules (one_input name h.0 bytes h.1 holds) h.3 read) obeys)

  rules_or_given : (name : List ℕ) (instance : Instance) (verdict : Verdict) (rules : List Rule) (label : ℕ → ℕ) → RulesFact (Some t) verdict instance name
      → GivesRules (Some name) (Some t) instance rules → Obeys rules label → ⊥
  rules_or_given name instance verdict rules label (inl h) given obeys = lacks_or_holds name given.bytes h.1 given.loaded
  rules_or_given name instance verdict rules label (inr (inl h)) given obeys = more_or_holds name given.bytes h.1 given.loaded
  rules_or_given name instance verdict rules label (inr (inr (inl h))) given obeys = refused_or_read name instance given.bytes rules h.1 given.loaded given.read
  rules_or_given name instance verdict rules label (inr (inr (inr h))) given obeys = contradicted_or_obeyed name instance given.bytes rules label h.1 given.loaded given.read obeys

  rules_once : (name : List ℕ) (instance : Instance) (verdict other : Verdict) → RulesFact (Some t) verdict instance name → RulesFact (Some t) other instance name → verdict ≡ other
  rules_once name instance verdict other (inl h) (inl k) = h.0 ∙ sym k.0
  rules_once name instance verdict other (inl h) (inr (inl k)) = absurd (lacks_or_more name h.1 k.1)
  rules_once name instance verdict other (inl h) (inr (inr (inl k))) = absurd (lacks_or_holds name k.1.0 h.1 k.1.1)
  rules_once name instance verdict other (inl h) (inr (inr (inr k))) = absurd (lacks_or_holds name k.1.0 h.1 k.1.1)
  rules_once name instance verdict other (inr (inl h)) (inl k) = absurd (lacks_or_more name k.1 h.1)
  rules_once name instance verdict other (inr (inl h)) (inr (inl k)) = h.0 ∙ sym k.0
  rules_once name instance verdict other (inr (inl h)) (inr (inr (inl k))) = absurd (more_or_holds name k.1.0 h.1 k.1.1)
  rules_once name instance verdict other (inr (inl h)) (inr (inr (inr k))) = absurd (more_or_holds name k.1.0 h.1 k.1.1)
  rules_once name instance verdict other (inr (inr (inl h))) (inl k) = absurd (lacks_or_holds name h.1.0 k.1 h.1.1)
  rules_once name instance verdict other (inr (inr (inl h))) (inr (inl k)) = absurd (more_or_holds name h.1.0 k.1 h.1.1)
  rules_once name instance verdict other (inr (inr (inl h))) (inr (inr (inl k))) = h.0 ∙ sym k.0
  rules_once name instance verdict other (inr (inr (inl h))) (inr (inr (inr k))) = absurd (refused_or_read name instance k.1.0 k.1.2 h.1 k.1.1 k.1.3)
  rules_once name instance verdict other (inr (inr (inr h))) (inl k) = absurd (lacks_or_holds name h.1.0 k.1 h.1.1)
  rules_once name instance verdict other (inr (inr (inr h))) (inr (inl k)) = absurd (more_or_holds name h.1.0 k.1 h.1.1)
  rules_once name instance verdict other (inr (inr (inr h))) (inr (inr (inl k))) = absurd (refused_or_read name instance h.1.0 h.1.2 k.1 h.1.1 h.1.3)
  rules_once name instance verdict other (inr (inr (inr h))) (inr (inr (inr k))) = h.0 ∙ sym k.0

  -- whether a file is named or not
  named_once : (name : Option (List ℕ)) (instance other_instance : Instance) (verdict other : Verdict) → other_instance ≡ instance → OfName name (RulesSay (Some t) verdict instance)
      → OfName name (RulesSay (Some t) other other_instance) → verdict ≡ other
  named_once None instance other_instance verdict other same h k = absurd h
  named_once (Some name) instance other_instance verdict other same h k = rules_once name instance verdict other (rules_fact (Some t) verdict instance name h)
      (rules_fact (Some t) other instance name (subst (λ (i : Instance). RulesSay (Some t) other i name) same k))

  named_or_given : (name : Option (List ℕ)) (instance other : Instance) (verdict : Verdict) (rules : List Rule) (label : ℕ → ℕ) → other ≡ instance
      → OfName name (RulesSay (Some t) verdict instance) → GivesRules name (Some t) other rules → Obeys rules label → ⊥
  named_or_given None instance other verdict rules label same h given obeys = h
  named_or_given (Some name) instance other verdict rules label same h given obeys =
      rules_or_given name instance verdict rules label (rules_fact (Some t) verdict instance name h) (subst (λ (i : Instance). GivesRules (Some name) (Some t) i rules) same given) obeys

  -- ---- of the case
  same_rules_bytes : (name : Option (List ℕ)) (bytes others : List ℕ) → HoldsRules name (Some t) bytes → HoldsRules name (Some t) others → others ≡ bytes
  same_rules_bytes None bytes others this that = that ∙ sym this
  same_rules_bytes (Some name) bytes others this that = one_input name bytes others this that

  one_case : (source : Source) (case other : Case) → Gives source (Some t) case → Gives source (Some t) other → other ≡ case
  one_case source case other this that =
      let instances = one_graph source case.instance other.instance this.graph that.graph in
      let rules = one_rules case.instance this.rules.bytes that.rules.bytes case.rules other.rules
      (same_rules_bytes source.rules this.rules.bytes that.rules.bytes this.rules.loaded that.rules.loaded) this.rules.read
      (subst (λ (i : Instance). IsTextOf (named_in i) that.rules.bytes other.rules) instances that.rules.read) in
      λ i. record { instance = instances i; rules = rules i }

  certified_or_not : (name : List ℕ) (case : Case) → CertificateSays name (Some t) turned_down case → CertificateSays name (Some t) proven case → ⊥
  certified_or_not name case down proof = down.2 proof.0 proof.1 (same_bytes (t.held name) (cert_text proof.0) down.0 proof.2 down.1) proof.3

  certificate_once : (name : List ℕ) (case : Case) (verdict other : Verdict) → CertificateFact name (Some t) verdict case → CertificateFact name (Some t) other case → verdict ≡ other
  certificate_once name case verdict other (inl h) (inl k) = h.0 ∙ sym k.0
  certificate_once name case verdict other (inl h) (inr (inl k)) = absurd (lacking (t.held name) k.1.0 k.1.1 h.1)
  certificate_once name case verdict other (inl h) (inr (inr k)) = absurd (lacking (t.held name) (cert_text k.1.0) k.1.2 h.1)
  certificate_once name case verdict other (inr (inl h)) (inl k) = absurd (lacking (t.held name) h.1.0 h.1.1 k.1)
  certificate_once name case verdict other (inr (inl h)) (inr (inl k)) = h.0 ∙ sym k.0
  certificate_once name case verdict other (inr (inl h)) (inr (inr k)) = absurd (certified_or_not name case h.1 k.1)
  certificate_once name case verdict other (inr (inr h)) (inl k) = absurd (lacking (t.held name) (cert_text h.1.0) h.1.2 k.1)
  certificate_once name case verdict other (inr (inr h)) (inr (inl k)) = absurd (certified_or_not name case k.1 h.1)
  certificate_once name case verdict other (inr (inr h)) (inr (inr k)) = h.0 ∙ sym k.0

  case_once : (command : Command) (case : Case) (verdict other : Verdict) → CaseSays command (Some t) verdict case → CaseSays command (Some t) other case → verdict ≡ other
  case_once (solve source certificate limit) case verdict other h k = h ∙ sym k
  case_once (check source name) case verdict other h k = certificate_once name case verdict other (certificate_fact name (Some t) verdict case h) (certificate_fact name (Some t) other case k)

  -- ---- one verdict
  once : (command : Command) (verdict other : Verdict) (loads more : ℕ) → Says command (Some t) verdict loads → Says command (Some t) other more → verdict ≡ other
  once command verdict other loads more (inl (inl h)) (inl (inl k)) = let source = source_of command in
      graph_once source verdict other (graph_fact source (Some t) verdict h.1) (graph_fact source (Some t) other k.1)
  once command verdict other loads more (inl (inl h)) (inl (inr k)) = let source = source_of command in
      absurd (graph_or_given source verdict k.1 (graph_fact source (Some t) verdict h.1) k.2)
  once command verdict other loads more (inl (inl h)) (inr k) = let source = source_of command in
      absurd (graph_or_given source verdict k.1.instance (graph_fact source (Some t) verdict h.1) k.2.graph)
  once command verdict other loads more (inl (inr h)) (inl (inl k)) = let source = source_of command in
      absurd (graph_or_given source other h.1 (graph_fact source (Some t) other k.1) h.2)
  once command verdict other loads more (inl (inr h)) (inl (inr k)) = let source = source_of command in
      named_once source.rules h.1 k.1 verdict other (one_graph source h.1 k.1 h.2 k.2) h.3 k.3
  once command verdict other loads more (inl (inr h)) (inr k) = let source = source_of command in
      absurd (named_or_given source.rules h.1 k.1.instance verdict k.1.rules k.2.label (one_graph source h.1 k.1.instance h.2 k.2.graph) h.3 k.2.rules k.2.obeys)
  once command verdict other loads more (inr h) (inl (inl k)) = let source = source_of command in
      absurd (graph_or_given source other h.1.instance (graph_fact source (Some t) other k.1) h.2.graph)
  once command verdict other loads more (inr h) (inl (inr k)) = let source = source_of command in
      absurd (named_or_given source.rules k.1 h.1.instance other h.1.rules h.2.label (one_graph source k.1 h.1.instance k.2 h.2.graph) k.3 h.2.rules h.2.obeys)
  once command verdict other loads more (inr h) (inr k) =
      case_once command h.1 verdict other h.3 (subst (λ (c : Case). CaseSays command (Some t) other c) (one_case (source_of command) h.1 k.1 h.2 k.2) k.3)

  -- ---- what a report says
  -- the files of a command that has a report, or a part of one
  reported : (command : Command) (after : Option Told) (printed : List ℕ) (status seen : ℕ) → Reports command (Some t) after printed status
      → ((status ≡ 0) → AllowsStatus proven seen) → AllowsStatus solvable seen → Known command (Some t) seen
  reported (solve source certificate limit) after printed status seen h accepted solved = record {
    verdict = solvable;
    loads = length (files_of (solve source certificate limit));
    says = inr (refl, h.case, h.given.gives, refl);
    allows = solved;
  }
  reported (check source name) after printed status seen h accepted solved = record {
    verdict = proven;
    loads = length (files_of (check source name));
    says = inr (refl, h.case, h.given.gives, (h.proof.cert, h.proof.fits, subst (λ (bs : List ℕ). t.held name ≡ Some bs) h.proof.read h.held, h.proof.certifies));
    allows = accepted h.accepted;
  }

  cut_short : (command : Command) (after : Option Told) (old new : Option (List ℕ)) → IsTruncated command (Some t) after old new → Known command (Some t) 8
  cut_short (solve source None limit) after old new (inl h) = absurd h
  cut_short (solve source (Some name) limit) after old new (inl h) = record {
    verdict = solvable;
    loads = length (files_of (solve source (Some name) limit));
    says = inr (refl, h.case, h.given.gives, refl);
    allows = inr (inr (inl refl));
  }
  cut_short (check source name) after old new (inl h) = absurd h
  cut_short command after old new (inr h) = reported command after h.printed h.status 8 h.reports (λ _. inr (inr (inl refl))) (inr (inr (inl refl)))

  -- ---- the status
  allowed : (verdict : Verdict) (status : ℕ) → status ≡ status_of verdict → 3 ≤ status → AllowsStatus verdict status
  allowed absent status is low = inl is
  allowed too_long status is low = inl is
  allowed refused status is low = inl is
  allowed contradicted status is low = inl is
  allowed turned_down status is low = inl is
  allowed proven status is low = absurd (omega (arith, is, low))
  allowed solvable status is low = absurd (omega (arith, is, low))

  faulty : (verdict : Verdict) (status : ℕ) → status ≡ 7 → AllowsStatus verdict status
  faulty absent status is = inr (inl is)
  faulty too_long status is = inr (inl is)
  faulty refused status is = inr (inl is)
  faulty contradicted status is = inr (inl is)
  faulty turned_down status is = inr (inl is)
  faulty proven status is = inr (inl is)
  faulty solvable status is = inr (inl is)

  wanting : (verdict : Verdict) (status : ℕ) → status ≡ 9 → AllowsStatus verdict status
  wanting absent status is = inr (inr is)
  wanting too_long status is = inr (inr is)
  wanting refused status is = inr (inr is)
  wanting contradicted status is = inr (inr is)
  wanting turned_down status is = inr (inr is)
  wanting proven status is = inr (inr (inr is))
  wanting solvable status is = inr (inr (inr is))

  module _ (command : Command) (status : ℕ) where
    told_by : Known command (Some t) status → (verdict : Verdict) (loads : ℕ) → Says command (Some t) verdict loads → AllowsStatus verdict status
    told_by known verdict loads says =
        subst (λ (v : Verdict). AllowsStatus v status) (once command known.verdict verdict known.loads loads known.says says) known.allows

    module _ (after : Option Told) (old new : Option (List ℕ)) where
      verdict_decides : EndsWith command (Some t) after old new status → (verdict : Verdict) (loads : ℕ) → Says command (Some t) verdict loads → AllowsStatus verdict status
      verdict_decides (inl h) verdict loads says = told_by (reported command after h.1.printed status status h.1.reports (λ zero. inl zero) (inl h.0)) verdict loads says
      verdict_decides (inr (inl h)) verdict loads says = told_by (record {
        verdict = h.says.verdict;
        loads = h.loads;
        says = h.says.says;
        allows = allowed h.says.verdict status h.says.status_is h.low;
      }) verdict loads says
      verdict_decides (inr (inr (inl h))) verdict loads says = told_by (subst (λ (n : ℕ). Known command (Some t) n) (sym h.0) (cut_short command after old new h.1)) verdict loads says
      verdict_decides (inr (inr (inr (inl h)))) verdict loads says = faulty verdict status h.0
      verdict_decides (inr (inr (inr (inr h)))) verdict loads says = wanting verdict status h.0

  -- ---- optimal or not
  -- a search that made all allowed branchings made fewer than there are partitions
  spent : (case : Case) (printed : List ℕ) (cert : Certificate) (limit status : ℕ) (answer : IsAnswer case printed cert limit status) (start : Closed)
      → IsStartOf case start → count start ≤ limit → status ≡ 0
  spent case printed cert limit status answer start closes room = ⊎_elim (λ zero. zero) (λ one. absurd (gap one)) (low status answer.known)
    where
      low : (n : ℕ) → n ≤ 1 → (n ≡ 0) ⊎ (n ≡ 1)
      low zero few = inl refl
      low (suc n) few = inr (omega (arith, few))

      gap : status ≡ 1 → ⊥
      gap one =
          let less = subst (λ (c : Closed). branchings_of cert < count c) (one_closure (vertices_of case.instance) case.rules start answer.searched.start closes answer.searched.closes) answer.searched.counted in
          let made = answer.gap one in
          let stated = answer.stated_branchings in
          omega (arith, less, made, stated, room)

  completed_report : (command : Command) (after : Option Told) (printed : List ℕ) (status : ℕ) → Reports command (Some t) after printed status
      → IsCompletable command (Some t) → status ≡ 0
  completed_report (solve source certificate limit) after printed status h all =
      spent h.case printed h.cert limit status h.answer all.2
      (subst (λ (c : Case). IsStartOf c all.2) (one_case source h.case all.0 h.given.gives all.1) all.3) all.4
  completed_report (check source name) after printed status h all = absurd all

  completable : (command : Command) → IsCompletable command (Some t) → Says command (Some t) solvable (length (files_of command))
  completable (solve source certificate limit) all = inr (refl, all.0, all.1, refl)
  completable (check source name) all = absurd all

  completed_by : (command : Command) (status : ℕ) (after : Option Told) (old new : Option (List ℕ)) → EndsWith command (Some t) after old new status → IsCompletable command (Some t)
      → (status ≡ 0) ⊎ (status ≡ 7) ⊎ (status ≡ 8) ⊎ (status ≡ 9)
  completed_by command status after old new (inl h) all = inl (completed_report command after h.1.printed status h.1.reports all)
  completed_by command status after old new (inr (inl h)) all =
      let same : h.says.verdict ≡ solvable = once command h.says.verdict solvable h.loads (length (files_of command)) h.says.says (completable command all) in
      let low = h.low in
      let none : status ≡ 0 = h.says.status_is ∙ ap status_of same in
      absurd (omega (arith, low, none))
  completed_by command status after old new (inr (inr (inl h))) all = inr (inr (inl h.0))
  completed_by command status after old new (inr (inr (inr (inl h)))) all = inr (inl h.0)
  completed_by command status after old new (inr (inr (inr (inr h)))) all = inr (inr (inr h.0))

  decided : (command : Command) (status : ℕ) (after : Option Told) (old new : Option (List ℕ)) → EndsWith command (Some t) after old new status → DecidesStatus command (Some t) status
  decided command status after old new ends = record {
    verdict = verdict_decides command status after old new ends;
    completed = completed_by command status after old new ends;
  }

-- ---- the clauses of a run
-- the verdict of a status that bars a command
abbrev decoded : ℕ → Verdict
decoded status =
    if status == 11 then absent else if status == 10 then too_long else if status == 5 then contradicted else if status == 4 then refused else turned_down

decodes : (verdict : Verdict) → 3 ≤ status_of verdict → decoded (status_of verdict) ≡ verdict
decodes absent low = refl
decodes too_long low = refl
decodes refused low = refl
decodes contradicted low = refl
decodes turned_down low = refl
decodes proven low = absurd (omega (arith, low))
decodes solvable low = absurd (omega (arith, low))

-- no verdict has the status of a fault or of want of memory
between : (verdict : Verdict) (status : ℕ) → status ≡ status_of verdict → 7 ≤ status → status ≤ 9 → ⊥
between absent status is low high = absurd (omega (arith, is, high))
between too_long status is low high = absurd (omega (arith, is, high))
between refused status is low high = absurd (omega (arith, is, low))
between contradicted status is low high = absurd (omega (arith, is, low))
between turned_down status is low high = absurd (omega (arith, is, low))
between proven status is low high = absurd (omega (arith, is, low))
between solvable status is low high = absurd (omega (arith, is, low))

module _ (words : List (String Global)) (told after : Option Told) (old new : Option (List ℕ)) (end : Result Bool Stop) (status : ℕ) (is : status ≡ end_status end)
    (ends : Asked words (λ command. Ends command told after old new end)) where
  asked_ends : Asked words (λ command. EndsWith command told after old new status)
  asked_ends command asked = subst (λ (n : ℕ). EndsWith command told after old new n) (sym is) (ends_with command told after old new end (ends command asked))

  -- a status that bars the command says what its files come to
  pub stops_with : (wanted : Verdict) → status ≡ status_of wanted → 3 ≤ status → (status < 7) ⊎ (9 < status) → Asked words (λ command. Stops wanted command told after old new)
  stops_with wanted wanted_is low high command asked = here (asked_ends command asked)
    where
      here : EndsWith command told after old new status → Stops wanted command told after old new
      here (inl h) = let few = h.0 in absurd (omega (arith, few, low))
      here (inr (inl h)) =
          let same : status_of h.says.verdict ≡ status_of wanted = sym h.says.status_is ∙ wanted_is in
          let verdict : h.says.verdict ≡ wanted = sym (decodes h.says.verdict (subst (λ (n : ℕ). 3 ≤ n) h.says.status_is low)) ∙ ap decoded same
          ∙ decodes wanted (subst (λ (n : ℕ). 3 ≤ n) wanted_is low) in
          record { loads = h.loads; says = subst (λ (v : Verdict). Says command told v h.loads) verdict h.says.says; stops = h.stops }
      here (inr (inr (inl h))) = let eight = h.0 in absurd (omega (arith, eight, high))
      here (inr (inr (inr (inl h)))) = let seven = h.0 in absurd (omega (arith, seven, high))
      here (inr (inr (inr (inr h)))) = let nine = h.0 in absurd (omega (arith, nine, high))

  pub unread_with : status ≡ 7 → Asked words (λ command. StopsUnread command told after old new)
  unread_with seven command asked = here (asked_ends command asked)
    where
      here : EndsWith command told after old new status → StopsUnread command told after old new
      here (inl h) = let few = h.0 in absurd (omega (arith, few, seven))
      here (inr (inl h)) = absurd (between h.says.verdict status h.says.status_is (omega (arith, seven)) (omega (arith, seven)))
      here (inr (inr (inl h))) = let eight = h.0 in absurd (omega (arith, eight, seven))
      here (inr (inr (inr (inl h)))) = h.1
      here (inr (inr (inr (inr h)))) = let nine = h.0 in absurd (omega (arith, nine, seven))

  pub cut_short_with : status ≡ 8 → Asked words (λ command. IsTruncated command told after old new)
  cut_short_with eight command asked = here (asked_ends command asked)
    where
      here : EndsWith command told after old new status → IsTruncated command told after old new
      here (inl h) = let few = h.0 in absurd (omega (arith, few, eight))
      here (inr (inl h)) = absurd (between h.says.verdict status h.says.status_is (omega (arith, eight)) (omega (arith, eight)))
      here (inr (inr (inl h))) = h.1
      here (inr (inr (inr (inl h)))) = let seven = h.0 in absurd (omega (arith, seven, eight))
      here (inr (inr (inr (inr h)))) = let nine = h.0 in absurd (omega (arith, nine, eight))

  pub unmade_with : status ≡ 9 → Asked words (λ command. StopsUnmade command told after old new)
  unmade_with nine command asked = here (asked_ends command asked)
    where
      here : EndsWith command told after old new status → StopsUnmade command told after old new
      here (inl h) = let few = h.0 in absurd (omega (arith, few, nine))
      here (inr (inl h)) = absurd (between h.says.verdict status h.says.status_is (omega (arith, nine)) (omega (arith, nine)))
      here (inr (inr (inl h))) = let eight = h.0 in absurd (omega (arith, eight, nine))
      here (inr (inr (inr (inl h)))) = let seven = h.0 in absurd (omega (arith, seven, nine))
      here (inr (inr (inr (inr h)))) = h.1

pub decided_where_told : (words : List (String Global)) (told after : Option Told) (old new : Option (List ℕ)) (end : Result Bool Stop) (status : ℕ)
    → status ≡ end_status end → Asked words (λ command. Ends command told after old new end)
    → IfSome told (λ t. Asked words (λ command. DecidesStatus command (Some t) status))
decided_where_told words None after old new end status is ends = tt
decided_where_told words (Some t) after old new end status is ends = λ command asked.
    decided t command status after old new (asked_ends words (Some t) after old new end status is ends command asked)

-- err is told the line of the stop
pub tells_cause : (words : List (String Global)) (told after : Option Told) (out written old new : Option (List ℕ)) (end : Result Bool Stop) (status : ℕ) → status ≡ end_status end
    → Asked words (λ command. Ends command told after out written end) → IfErr end (λ stop. TakesSome old new (stop_line stop))
    → 3 ≤ status → (status < 7) ⊎ (9 < status) → Asked words (λ command. TellsCause command told old new status)
tells_cause words told after out written old new end status is ends line low high command asked = told_of end is (ends command asked) line
  where
    cause : (stop : Stop) → status ≡ stop_status stop → StopsFor stop command told after out written → TakesSome old new (stop_line stop) → TellsCause command told old new status
    cause stop same h taken = record { stop = stop; status_is = same; loads = h.loads; explained = h.explained; taken = taken }

    told_of : (end : Result Bool Stop) → status ≡ end_status end → Ends command told after out written end → IfErr end (λ stop. TakesSome old new (stop_line stop))
        → TellsCause command told old new status
    told_of (Ok true) same h taken = absurd (omega (arith, same, low))
    told_of (Ok false) same h taken = absurd (omega (arith, same, low))
    told_of (Err (BadText bad)) same h taken = cause (BadText bad) same h taken
    told_of (Err (Rejected found)) same h taken = cause (Rejected found) same h taken
    told_of (Err (Broken pair)) same h taken = cause (Broken pair) same h taken
    told_of (Err (Refused refusal)) same h taken = cause (Refused refusal) same h taken
    told_of (Err (Contradiction pair)) same h taken = cause (Contradiction pair) same h taken
    told_of (Err Words) same h taken = absurd h
    told_of (Err ReadFault) same h taken = absurd (omega (arith, same, high))
    told_of (Err WriteFault) same h taken = absurd (omega (arith, same, high))
    told_of (Err Memory) same h taken = absurd (omega (arith, same, high))
    told_of (Err TooLong) same h taken = cause TooLong same h taken
    told_of (Err NoFile) same h taken = cause NoFile same h taken
