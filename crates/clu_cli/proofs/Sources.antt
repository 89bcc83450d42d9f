-- What the files of a source give, from what the loads of its graph and of its rules tell.
use Rattle.std.proofs.Common.{◌≡◌, ℕ, ◌≤◌, List, [], ◌∷◌, length, take, slice_index, refl, sym, ◌∙◌, ap, subst, arith, inl, inr, Option, Some, None, Ok, Err}
use Rattle.std.specs.Prelude.{Result, IfErr, IsErrAnd}
use Rattle.clu_outside.specs.Folder.{Told, after_load, Holds}
use Rattle.clu_partition.specs.Closed.{Closed, BindsNothing}
use Rattle.clu_pace.specs.NumberLaws.{one_name as one_numeral}
use Rattle.clu_network.specs.NamingLaws.{one_name as one_text_name}
use Rattle.clu_rules.specs.Closing.{IsClosureOf}
use Rattle.clu_rules.proofs.ClosureLaws.{empty_is_text, nothing_closes, one_text, own_obeys}
use Rattle.clu_cli.specs.Cases.{GivesGraph, GivesOnly, HoldsInput, HoldsRules, case_of, max_bytes}
use Rattle.clu_cli.specs.Headline.{Contradict, after_loads, files_in, files_named}
use Rattle.clu_cli.specs.Instances.{IsInstance, named_in, names_of, vertices_of}
use Rattle.clu_cli.specs.Steps.{ClosesRules, GivesGraphOnly, HasRead, StopsClosing, StopsRules, StopsSource, TellsLoad, TellsNamed, TextCloses}
use Rattle.clu_cli.specs.Verdicts.{GraphStops, OfName, RulesStop}
use Rattle.clu_cli.specs.Words.{Source}
use Rattle.clu_cli.specs.declared.form.Form.{Form}
use Rattle.clu_cli.specs.declared.instance.Instance.{Instance}
use Rattle.clu_cli.specs.declared.instance.Instance.TheVariants.{Edits, Agreement, Modularity}
use Rattle.clu_cli.specs.declared.refusal.Refusal.TheVariants as refusal
use Rattle.clu_cli.specs.declared.stop.Stop.{Stop}
use Rattle.clu_cli.specs.declared.stop.Stop.TheVariants.{BadText, Broken, Contradiction, Rejected, Refused, Words, ReadFault, WriteFault, Memory, TooLong, NoFile}
use Rattle.clu_cli.proofs.InstanceLaws.{one_instance}
use Rattle.clu_cli.proofs.Loads.{holds_over, lacks_over, more_over}

-- bytes name one vertex at most
pub one_named : (instance : Instance) (name : List ℕ) (u v : ℕ) → named_in instance name u → named_in instance name v → u ≡ v
one_named (Edits graph) name u v this that = one_numeral graph name u v this that
one_named (Agreement net) name u v this that = one_text_name net name u v this that
one_named (Modularity net) name u v this that = one_text_name net name u v this that

-- ---- the graph
-- the bytes are a text of one instance at most
pub gives_graph : (file : List ℕ) (form : Form) (told : Option Told) (bytes read : List ℕ) (instance : Instance) → Holds told file bytes → length bytes ≤ max_bytes
    → read ≡ bytes → IsInstance form read instance → GivesGraphOnly file form told instance
gives_graph file form told bytes read instance held small are is =
    let here : IsInstance form bytes instance = subst (λ (bs : List ℕ). IsInstance form bs instance) are is in
    record {
      gives = record { bytes = bytes; loaded = record { held = held; small = small }; read = here };
      only = λ other other_is. one_instance form bytes instance other here other_is;
    }

-- ---- the rules
-- without a file there are none
pub closes_nothing : (told : Option Told) (instance : Instance) (start : Closed) → BindsNothing (vertices_of instance) start → ClosesRules None told instance start
closes_nothing told instance start unbound = record {
  rules = [];
  given = record { bytes = []; loaded = refl; read = empty_is_text (named_in instance) };
  closes = nothing_closes (vertices_of instance) start unbound;
}

pub closes_file : (name : List ℕ) (told : Option Told) (instance : Instance) (bytes shown : List ℕ) (start : Closed) → Holds told name bytes → length bytes ≤ max_bytes
    → shown ≡ bytes → length (names_of instance) ≡ vertices_of instance → TextCloses (length (names_of instance)) (named_in instance) shown start
    → ClosesRules (Some name) told instance start
closes_file name told instance bytes shown start held small are count text = record {
  rules = text.rules;
  given = record {
    bytes = shown;
    loaded = subst (λ (bs : List ℕ). HoldsInput name told bs) (sym are) (record { held = held; small = small });
    read = text.read;
  };
  closes = subst (λ (n : ℕ). IsClosureOf n text.rules start) count text.closes;
}

-- what was found in the bytes of the file
pub stops_closing : (name : List ℕ) (told : Option Told) (instance : Instance) (bytes shown : List ℕ) → Holds told name bytes → length bytes ≤ max_bytes → shown ≡ bytes
    → length (names_of instance) ≡ vertices_of instance → (stop : Stop) → StopsClosing (names_of instance) (named_in instance) shown stop
    → StopsRules told (Some name) instance stop
stops_closing name told instance bytes shown held small are count stop h =
    found stop h
  where
    here : HoldsInput name told shown
    here = subst (λ (bs : List ℕ). HoldsInput name told bs) (sym are) (record { held = held; small = small })

    found : (stop : Stop) → StopsClosing (names_of instance) (named_in instance) shown stop → StopsRules told (Some name) instance stop
    found (BadText line) h = h
    found (Rejected reject) h = h
    found (Broken pair) h = h
    found (Refused (refusal.Graph error)) h = h
    found (Refused (refusal.Network error)) h = h
    found (Refused (refusal.Objective error)) h = h
    found (Refused (refusal.Rules error)) h = (shown, here, h)
    found (Contradiction pair) h = (shown, here, subst (λ (n : ℕ). Contradict n (names_of instance) (named_in instance) shown pair) count h)
    found Words h = h
    found ReadFault h = absurd h
    found WriteFault h = h
    found Memory h = tt
    found TooLong h = absurd h
    found NoFile h = absurd h

-- ---- behind the load of the graph
module _ (told : Option Told) (file : List ℕ) where
  input_over : (name bytes : List ℕ) → HoldsInput name (after_load file told) bytes → HoldsInput name told bytes
  input_over name bytes h = record { held = holds_over told file name bytes h.held; small = h.small }

  rules_over : (name : Option (List ℕ)) (bytes : List ℕ) → HoldsRules name (after_load file told) bytes → HoldsRules name told bytes
  rules_over None bytes h = h
  rules_over (Some name) bytes h = input_over name bytes h

  closes_over : (name : Option (List ℕ)) (instance : Instance) (start : Closed) → ClosesRules name (after_load file told) instance start → ClosesRules name told instance start
  closes_over name instance start h = record {
    rules = h.rules;
    given = record { bytes = h.given.bytes; loaded = rules_over name h.given.bytes h.given.loaded; read = h.given.read };
    closes = h.closes;
  }

  stop_over : (instance : Instance) (name : List ℕ) (stop : Stop) → RulesStop (after_load file told) stop instance name → RulesStop told stop instance name
  stop_over instance name (BadText line) h = h
  stop_over instance name (Rejected reject) h = h
  stop_over instance name (Broken pair) h = h
  stop_over instance name (Refused (refusal.Graph error)) h = h
  stop_over instance name (Refused (refusal.Network error)) h = h
  stop_over instance name (Refused (refusal.Objective error)) h = h
  stop_over instance name (Refused (refusal.Rules error)) h = (h.0, input_over name h.0 h.1, h.2)
  stop_over instance name (Contradiction pair) h = (h.0, input_over name h.0 h.1, h.2)
  stop_over instance name Words h = h
  stop_over instance name ReadFault h = h
  stop_over instance name WriteFault h = h
  stop_over instance name Memory h = h
  stop_over instance name TooLong h = more_over told file name max_bytes h
  stop_over instance name NoFile h = lacks_over told file name h

-- ---- the whole source
-- a stop that a step hands on
pub passed_source : {T : Type 0} (source : Source) (before after : Option Told) (stop : Stop) (result : Result T Stop) → IsErrAnd result (λ e. e ≡ stop)
    → StopsSource source before after stop → IfErr result (StopsSource source before after)
passed_source source before after stop (Ok x) is h = absurd is
passed_source source before after stop (Err y) is h = subst (StopsSource source before after) (sym is) h

module _ (source : Source) (before mid after : Option Told) where
  pub gives_only : (instance : Instance) (start : Closed) → GivesGraphOnly source.file source.form before instance → mid ≡ after_load source.file before
      → (closed : ClosesRules source.rules mid instance start) → GivesOnly source before (case_of instance closed.rules)
  gives_only instance start graph is closed =
      let here = closes_over before source.file source.rules instance start (subst (λ (t : Option Told). ClosesRules source.rules t instance start) is closed) in
      record {
        gives = record {
          graph = graph.gives;
          rules = record { bytes = closed.given.bytes; loaded = rules_over before source.file source.rules closed.given.bytes (subst (λ (t : Option Told). HoldsRules source.rules t closed.given.bytes) is closed.given.loaded); read = closed.given.read };
          label = slice_index start.group;
          obeys = own_obeys (vertices_of instance) closed.rules start closed.closes;
        };
        instance = graph.only;
        rules = λ others read. one_text (named_in instance) (one_named instance) closed.given.bytes closed.rules others closed.given.read read;
      }

  -- ---- after how many loads it stops
  read_none : after ≡ before → HasRead source 0 before after
  read_none is = record { few = omega arith; told = is; instance = λ two. absurd (omega (arith, two)) }

  read_one : after ≡ after_load source.file before → HasRead source 1 before after
  read_one is = record { few = omega arith; told = is; instance = λ two. absurd (omega (arith, two)) }

  read_two : (name : List ℕ) (instance : Instance) → source.rules ≡ Some name → GivesGraph source.file source.form before instance → mid ≡ after_load source.file before
      → after ≡ after_load name mid → HasRead source 2 before after
  read_two name instance named graph is next = record {
    few = subst (λ (r : Option (List ℕ)). 2 ≤ length (source.file ∷ files_named r)) (sym named) (omega arith);
    told = subst (λ (r : Option (List ℕ)). after ≡ after_loads (take 2 (source.file ∷ files_named r)) before) (sym named) (next ∙ ap (after_load name) is);
    instance = λ _. (instance, graph);
  }

  pub stops_graph : (stop : Stop) → GraphStops source before stop → TellsLoad (Some stop) source.file before after → StopsSource source before after stop
  stops_graph (BadText line) h next = absurd h
  stops_graph (Rejected reject) h next = absurd h
  stops_graph (Broken pair) h next = absurd h
  stops_graph (Refused refusal) h next = (1, read_one next, inl (refl, h))
  stops_graph (Contradiction pair) h next = absurd h
  stops_graph Words h next = absurd h
  stops_graph ReadFault h next = (1, read_one next, inl (refl, h))
  stops_graph WriteFault h next = absurd h
  stops_graph Memory h (inl same) = (0, read_none same, tt)
  stops_graph Memory h (inr next) = (1, read_one next, tt)
  stops_graph TooLong h next = (1, read_one next, inl (refl, h))
  stops_graph NoFile h next = (1, read_one next, inl (refl, h))

  module _ (instance : Instance) (graph : GivesGraph source.file source.form before instance) (is : mid ≡ after_load source.file before) where
    -- a stop at the rules' file, after its load
    at_rules : (name : List ℕ) (stop : Stop) → source.rules ≡ Some name → RulesStop mid stop instance name → OfName source.rules (RulesStop before stop instance)
    at_rules name stop named h = subst (λ (r : Option (List ℕ)). OfName r (RulesStop before stop instance)) (sym named)
        (stop_over before source.file instance name stop (subst (λ (t : Option Told). RulesStop t stop instance name) is h))

    stops_file : (name : List ℕ) → source.rules ≡ Some name → (stop : Stop) → StopsRules mid (Some name) instance stop → TellsLoad (Some stop) name mid after
        → StopsSource source before after stop
    stops_file name named (BadText line) h next = absurd h
    stops_file name named (Rejected reject) h next = absurd h
    stops_file name named (Broken pair) h next = absurd h
    stops_file name named (Refused refusal) h next = (2, read_two name instance named graph is next, inr (refl, instance, graph, at_rules name (Refused refusal) named h))
    stops_file name named (Contradiction pair) h next = (2, read_two name instance named graph is next, inr (refl, instance, graph, at_rules name (Contradiction pair) named h))
    stops_file name named Words h next = absurd h
    stops_file name named ReadFault h next = (2, read_two name instance named graph is next, inr (refl, instance, graph, at_rules name ReadFault named h))
    stops_file name named WriteFault h next = absurd h
    stops_file name named Memory h (inl same) = (1, read_one (same ∙ is), tt)
    stops_file name named Memory h (inr next) = (2, read_two name instance named graph is next, tt)
    stops_file name named TooLong h next = (2, read_two name instance named graph is next, inr (refl, instance, graph, at_rules name TooLong named h))
    stops_file name named NoFile h next = (2, read_two name instance named graph is next, inr (refl, instance, graph, at_rules name NoFile named h))

    stops_none : (stop : Stop) → StopsRules mid None instance stop → after ≡ mid → StopsSource source before after stop
    stops_none (BadText line) h same = absurd h
    stops_none (Rejected reject) h same = absurd h
    stops_none (Broken pair) h same = absurd h
    stops_none (Refused refusal) h same = absurd h
    stops_none (Contradiction pair) h same = absurd h
    stops_none Words h same = absurd h
    stops_none ReadFault h same = absurd h
    stops_none WriteFault h same = absurd h
    stops_none Memory h same = (1, read_one (same ∙ is), tt)
    stops_none TooLong h same = absurd h
    stops_none NoFile h same = absurd h

    pub stops_rules : (name : Option (List ℕ)) → source.rules ≡ name → (stop : Stop) → StopsRules mid name instance stop → TellsNamed (Some stop) name mid after
        → StopsSource source before after stop
    stops_rules None named stop h same = stops_none stop h same
    stops_rules (Some name) named stop h next = stops_file name named stop h next

  -- all files are loaded
  pub all_loaded : (name : Option (List ℕ)) → source.rules ≡ name → mid ≡ after_load source.file before → TellsNamed None name mid after
      → after ≡ after_loads (files_in source) before
  all_loaded name named is next = subst (λ (r : Option (List ℕ)). after ≡ after_loads (source.file ∷ files_named r) before) (sym named) (behind name next)
    where
      behind : (name : Option (List ℕ)) → TellsNamed None name mid after → after ≡ after_loads (source.file ∷ files_named name) before
      behind None same = same ∙ is
      behind (Some file) next = next ∙ ap (after_load file) is
