-- How a command ends, from what its steps tell.
use Rattle.std.proofs.Common.{◌≡◌, ℕ, ◌≤◌, List, [], ◌∷◌, length, refl, sym, ◌∙◌, ap, subst, arith, inl, inr, Option, Some, None, Bool, Ok, Err, length-append}
use Rattle.std.specs.Prelude.{◌⊎◌, if◌then◌else◌, Result, IsErrAnd}
use Rattle.std.proofs.lemmas.List.{take-append-le, take_all}
use Rattle.clu_outside.specs.Counts.{last_count}
use Rattle.clu_outside.specs.Folder.{Told, after_load, Holds, Lacks, IsStored, IsStoredPartly, CallsWithin, stores_of}
use Rattle.clu_outside.specs.Sink.{TakesSome, with_bytes}
use Rattle.clu_cert.specs.Text.{cert_text}
use Rattle.clu_cert.specs.declared.certificate.Certificate.{Certificate}
use Rattle.clu_cli.specs.Cases.{Case, Gives, GivesOnly}
use Rattle.clu_cli.specs.Headline.{FindsFault, IsAnswer, IsProofOf, NoneCertifies, Reports, Stores, StoresPartly, after_loads, files_in}
use Rattle.clu_cli.specs.Steps.{HasRead, IsKeptWhole, StopsCheck, StopsKeeping, StopsLoad, StopsSource, StopsWrite, TellsLoad}
use Rattle.clu_cli.specs.Verdicts.{CaseStops, ComesToInput, Ends, HasLoaded, OfName, StopsAfter, StopsFor, TurnsDown, files_of}
use Rattle.clu_cli.specs.Words.{Command, Source, solve, check, source_of}
use Rattle.clu_cli.specs.declared.instance.Instance.{Instance}
use Rattle.clu_cli.specs.declared.stop.Stop.{Stop}
use Rattle.clu_cli.specs.declared.stop.Stop.TheVariants.{BadText, Broken, Contradiction, Rejected, Refused, Words, ReadFault, WriteFault, Memory, TooLong, NoFile}
use Rattle.clu_cli.proofs.Loads.{holds_before, lacks_before, loads_behind}

-- a stop that a step hands on
pub passed : (command : Command) (before after : Option Told) (old new : Option (List ℕ)) (stop : Stop) (result : Result Bool Stop)
    → IsErrAnd result (λ e. e ≡ stop) → Ends command before after old new (Err stop) → Ends command before after old new result
passed command before after old new stop (Ok x) is h = absurd is
passed command before after old new stop (Err y) is h = subst (λ (s : Stop). Ends command before after old new (Err s)) (sym is) h

-- ---- after how many loads
-- all files of a source were read
read_whole : (source : Source) (before after : Option Told) (case : Case) → Gives source before case → after ≡ after_loads (files_in source) before
    → HasRead source (length (files_in source)) before after
read_whole source before after case gives is = record {
  few = omega arith;
  told = is ∙ ap (λ (names : List (List ℕ)). after_loads names before) (sym (take_all (length (files_in source)) (files_in source) (omega arith)));
  instance = λ _. (case.instance, gives.graph);
}

loaded_of : (command : Command) (loads : ℕ) (before after : Option Told) → HasRead (source_of command) loads before after → HasLoaded command loads before after
loaded_of (solve source certificate limit) loads before after read = record {
  few = read.few;
  told = read.told;
  instance = read.instance;
  case = λ more. let few = read.few in absurd (omega (arith, more, few));
}
loaded_of (check source name) loads before after read = let few = read.few in record {
  few = omega (arith, few, length-append (files_in source) (name ∷ []));
  told = read.told ∙ ap (λ (names : List (List ℕ)). after_loads names before) (sym (take-append-le loads (files_in source) (name ∷ []) few));
  instance = read.instance;
  case = λ more. absurd (omega (arith, more, few));
}

-- the certificate's file was loaded too
loaded_all : (source : Source) (name : List ℕ) (before mid after : Option Told) (case : Case) → Gives source before case → mid ≡ after_loads (files_in source) before
    → after ≡ after_load name mid → HasLoaded (check source name) (length (files_of (check source name))) before after
loaded_all source name before mid after case gives is next = record {
  few = omega arith;
  told = next ∙ ap (after_load name) is ∙ sym (loads_behind (files_in source) name before)
      ∙ ap (λ (names : List (List ℕ)). after_loads names before) (sym (take_all (length (files_of (check source name))) (files_of (check source name)) (omega arith)));
  instance = λ _. (case.instance, gives.graph);
  case = λ _. (case, gives);
}

-- ---- the files of the source
loads_some : (source : Source) (told : Option Told) (Graph : Type 0) (Rules : Instance → List ℕ → Type 0) (loads : ℕ) → ComesToInput source told Graph Rules loads → 1 ≤ loads
loads_some source told Graph Rules loads (inl h) = let is = h.0 in omega (arith, is)
loads_some source told Graph Rules loads (inr h) = let is = h.0 in omega (arith, is)

of_nothing : (name : Option (List ℕ)) → OfName name (λ file. ⊥) → ⊥
of_nothing None h = h
of_nothing (Some file) h = h

nowhere : (source : Source) (told : Option Told) (loads : ℕ) → ComesToInput source told ⊥ (λ instance file. ⊥) loads → ⊥
nowhere source told loads (inl h) = h.1
nowhere source told loads (inr h) = of_nothing source.rules h.3

module _ (command : Command) (before after : Option Told) (old new : Option (List ℕ)) (same : new ≡ old) where
  stopped : (loads : ℕ) → HasRead (source_of command) loads before after → StopsAfter command loads before after old new
  stopped loads read = record { loaded = loaded_of command loads before after read; unwritten = same }

  pub ends_unread_source : (stop : Stop) → StopsSource (source_of command) before after stop → Ends command before after old new (Err stop)
  ends_unread_source (BadText line) h = record { loads = h.0; explained = inl h.2; stops = stopped h.0 h.1 }
  ends_unread_source (Rejected found) h = record { loads = h.0; explained = inl h.2; stops = stopped h.0 h.1 }
  ends_unread_source (Broken pair) h = record { loads = h.0; explained = inl h.2; stops = stopped h.0 h.1 }
  ends_unread_source (Refused refusal) h = record { loads = h.0; explained = inl h.2; stops = stopped h.0 h.1 }
  ends_unread_source (Contradiction pair) h = record { loads = h.0; explained = inl h.2; stops = stopped h.0 h.1 }
  ends_unread_source Words h = nowhere (source_of command) before h.0 h.2
  ends_unread_source ReadFault h = (h.0, loads_some (source_of command) before (Unit {0}) (λ instance file. Unit {0}) h.0 h.2, stopped h.0 h.1)
  ends_unread_source WriteFault h = absurd (nowhere (source_of command) before h.0 h.2)
  ends_unread_source Memory h = inl (h.0, stopped h.0 h.1)
  ends_unread_source TooLong h = record { loads = h.0; explained = inl h.2; stops = stopped h.0 h.1 }
  ends_unread_source NoFile h = record { loads = h.0; explained = inl h.2; stops = stopped h.0 h.1 }

  -- want of memory after all of them
  pub ends_unsolved : (case : Case) → Gives (source_of command) before case → after ≡ after_loads (files_in (source_of command)) before
      → Ends command before after old new (Err Memory)
  ends_unsolved case gives is = let source = source_of command in inl (length (files_in source), stopped (length (files_in source)) (read_whole source before after case gives is))

-- ---- the report
pub ends_unprinted : (command : Command) (before after : Option Told) (old new : Option (List ℕ)) (printed : List ℕ) (status : ℕ) (stop : Stop) → StopsWrite stop
    → Reports command before after printed status → TakesSome old new printed → Ends command before after old new (Err stop)
ends_unprinted command before after old new printed status (BadText line) h reports some = absurd h
ends_unprinted command before after old new printed status (Rejected reject) h reports some = absurd h
ends_unprinted command before after old new printed status (Broken pair) h reports some = absurd h
ends_unprinted command before after old new printed status (Refused refusal) h reports some = absurd h
ends_unprinted command before after old new printed status (Contradiction pair) h reports some = absurd h
ends_unprinted command before after old new printed status Words h reports some = absurd h
ends_unprinted command before after old new printed status ReadFault h reports some = absurd h
ends_unprinted command before after old new printed status WriteFault h reports some = inr (record { printed = printed; status = status; reports = reports; taken = some })
ends_unprinted command before after old new printed status Memory h reports some = inr (inr (record { printed = printed; status = status; reports = reports; taken = some }))
ends_unprinted command before after old new printed status TooLong h reports some = absurd h
ends_unprinted command before after old new printed status NoFile h reports some = absurd h

pub ends_printed : (command : Command) (before after : Option Told) (old new : Option (List ℕ)) (printed : List ℕ) (optimal : Bool)
    → Reports command before after printed (if optimal then 0 else 1) → new ≡ with_bytes old printed → Ends command before after old new (Ok optimal)
ends_printed command before after old new printed optimal reports written = record { printed = printed; reports = reports; written = written }

-- ---- the certificate of `solve`
module _ (source : Source) (before mid after : Option Told) (case : Case) (printed : List ℕ) (cert : Certificate) (limit status : ℕ)
    (found : GivesOnly source before case) (answers : IsAnswer case printed cert limit status) (is : mid ≡ after_loads (files_in source) before) where
  stores_here : (certificate : Option (List ℕ)) → IsKeptWhole certificate mid after cert → Stores source certificate before after cert
  stores_here None h = h ∙ is
  stores_here (Some name) h = subst (λ (t : Option Told). IsStored t after name (cert_text cert) × CallsWithin (stores_of (length (cert_text cert))) t after) is h

  pub solve_reports : (certificate : Option (List ℕ)) → IsKeptWhole certificate mid after cert → Reports (solve source certificate limit) before after printed status
  solve_reports certificate h = record {
    case = case;
    given = found;
    cert = cert;
    answer = answers;
    stored = stores_here certificate h;
  }

  module _ (old new : Option (List ℕ)) (same : new ≡ old) where
    unbegun : (certificate : Option (List ℕ)) (stop : Stop) → after ≡ after_loads (files_in source) before → stop ≡ Memory
        → Ends (solve source certificate limit) before after old new (Err stop)
    unbegun certificate stop now e = let command = solve source certificate limit in
        subst (λ (s : Stop). Ends command before after old new (Err s)) (sym e) (ends_unsolved command before after old new same case found.gives now)

    partly : (name : List ℕ) → IsStoredPartly mid after name (cert_text cert) → CallsWithin (stores_of (length (cert_text cert))) mid after
        → StoresPartly source name limit before after old new
    partly name h few = record {
      case = case;
      given = found;
      printed = printed;
      status = status;
      cert = cert;
      answer = answers;
      stored = subst (λ (t : Option Told). IsStoredPartly t after name (cert_text cert)) is h;
      few = subst (λ (t : Option Told). CallsWithin (stores_of (length (cert_text cert))) t after) is few;
      unwritten = same;
    }

    cut : (name : List ℕ) (stop : Stop) → StopsWrite stop → StoresPartly source name limit before after old new
        → Ends (solve source (Some name) limit) before after old new (Err stop)
    cut name (BadText line) h part = absurd h
    cut name (Rejected reject) h part = absurd h
    cut name (Broken pair) h part = absurd h
    cut name (Refused refusal) h part = absurd h
    cut name (Contradiction pair) h part = absurd h
    cut name Words h part = absurd h
    cut name ReadFault h part = absurd h
    cut name WriteFault h part = inl part
    cut name Memory h part = inr (inl part)
    cut name TooLong h part = absurd h
    cut name NoFile h part = absurd h

    pub ends_unkept : (certificate : Option (List ℕ)) (stop : Stop) → StopsKeeping certificate mid after cert stop
        → Ends (solve source certificate limit) before after old new (Err stop)
    ends_unkept None stop (inl h) = unbegun None stop (h.1 ∙ is) h.0
    ends_unkept None stop (inr h) = absurd h.1
    ends_unkept (Some name) stop (inl h) = unbegun (Some name) stop (h.1 ∙ is) h.0
    ends_unkept (Some name) stop (inr h) = cut name stop h.0 (partly name h.1.0 h.1.1)

-- ---- the certificate of `check`
module _ (source : Source) (name : List ℕ) (before mid after : Option Told) (old new : Option (List ℕ)) (case : Case) (found : GivesOnly source before case)
    (is : mid ≡ after_loads (files_in source) before) where
  held_here : (certificate : List ℕ) → Holds mid name certificate → Holds before name certificate
  held_here certificate h = holds_before (files_in source) before name certificate (subst (λ (t : Option Told). Holds t name certificate) is h)

  module _ (next : after ≡ after_load name mid) where
    pub check_reports : (certificate shown printed : List ℕ) → Holds mid name certificate → shown ≡ certificate
        → IsProofOf case shown printed → Reports (check source name) before after printed 0
    check_reports certificate shown printed h same proof = record {
      case = case;
      given = found;
      certificate = certificate;
      held = held_here certificate h;
      proof = subst (λ (bs : List ℕ). IsProofOf case bs printed) same proof;
      accepted = refl;
      kept = next ∙ ap (after_load name) is;
    }

  module _ (same : new ≡ old) where
    here : after ≡ after_load name mid → StopsAfter (check source name) (length (files_of (check source name))) before after old new
    here next = record { loaded = loaded_all source name before mid after case found.gives is next; unwritten = same }

    unmade_here : (after ≡ mid) ⊎ (after ≡ after_load name mid) → Ends (check source name) before after old new (Err Memory)
    unmade_here (inl kept) = ends_unsolved (check source name) before after old new same case found.gives (kept ∙ is)
    unmade_here (inr next) = inl (length (files_of (check source name)), here next)

    explains : (stop : Stop) → CaseStops (check source name) before stop case → after ≡ after_load name mid → StopsFor stop (check source name) before after old new
    explains stop h next = record { loads = length (files_of (check source name)); explained = inr (refl, case, found.gives, h); stops = here next }

    turned_down : (stop : Stop) (certificate shown : List ℕ) → Holds mid name certificate → shown ≡ certificate
        → NoneCertifies case shown × FindsFault case shown stop → TurnsDown name before stop case
    turned_down stop certificate shown h is_shown none =
        let both : NoneCertifies case certificate × FindsFault case certificate stop = subst (λ (bs : List ℕ). NoneCertifies case bs × FindsFault case bs stop) is_shown none in
        (certificate, held_here certificate h, both.0, both.1)

    pub ends_unread : (limit : ℕ) (stop : Stop) → limit ≡ last_count → StopsLoad mid name limit stop → TellsLoad (Some stop) name mid after
        → Ends (check source name) before after old new (Err stop)
    ends_unread limit (BadText line) all h next = absurd h
    ends_unread limit (Rejected reject) all h next = absurd h
    ends_unread limit (Broken pair) all h next = absurd h
    ends_unread limit (Refused refusal) all h next = absurd h
    ends_unread limit (Contradiction pair) all h next = absurd h
    ends_unread limit Words all h next = absurd h
    ends_unread limit ReadFault all h next = (length (files_of (check source name)), omega arith, here next)
    ends_unread limit WriteFault all h next = absurd h
    ends_unread limit Memory all h next = unmade_here next
    ends_unread limit TooLong all h next = absurd (omega (arith, h.0, all))
    ends_unread limit NoFile all h next =
        explains NoFile (lacks_before (files_in source) before name (subst (λ (t : Option Told). Lacks t name) is h)) next

    pub ends_unproven : (certificate shown : List ℕ) → Holds mid name certificate → shown ≡ certificate → after ≡ after_load name mid
        → (stop : Stop) → StopsCheck case shown stop → Ends (check source name) before after old new (Err stop)
    ends_unproven certificate shown holds is_shown next (BadText line) h = explains (BadText line) (turned_down (BadText line) certificate shown holds is_shown h) next
    ends_unproven certificate shown holds is_shown next (Rejected reject) h = explains (Rejected reject) (turned_down (Rejected reject) certificate shown holds is_shown h) next
    ends_unproven certificate shown holds is_shown next (Broken pair) h = explains (Broken pair) (turned_down (Broken pair) certificate shown holds is_shown h) next
    ends_unproven certificate shown holds is_shown next (Refused refusal) h = absurd h
    ends_unproven certificate shown holds is_shown next (Contradiction pair) h = absurd h
    ends_unproven certificate shown holds is_shown next Words h = absurd h
    ends_unproven certificate shown holds is_shown next ReadFault h = absurd h
    ends_unproven certificate shown holds is_shown next WriteFault h = absurd h
    ends_unproven certificate shown holds is_shown next Memory h = unmade_here (inr next)
    ends_unproven certificate shown holds is_shown next TooLong h = absurd h
    ends_unproven certificate shown holds is_shown next NoFile h = absurd h
