-- The options of a command: names and values in turn.
use Rattle.std.specs.Prelude.{ℕ, List, [], ◌∷◌, Option, Some, None, bytes_eq, codes, if◌then◌else◌}
use Rattle.std.specs.Option.{option_and_then, option_map}
use Rattle.clu_cli.specs.declared.options.Options.{Options}

-- the values that options were given
pub record Given : Type 0 where
  pub certificate : Option (List ℕ)
  pub branchings : Option (List ℕ)
  pub format : Option (List ℕ)
  pub objective : Option (List ℕ)
  pub places : Option (List ℕ)
  pub rules : Option (List ℕ)

-- before any option
abbrev pub nothing : Given
nothing = record { certificate = None; branchings = None; format = None; objective = None; places = None; rules = None }

-- a value where there was none
abbrev pub only_once : Option (List ℕ) → List ℕ → (Option (List ℕ) → Given) → Option Given
only_once None value given = Some (given (Some value))
only_once (Some old) value given = None

-- what is given with one option more; none where it is no option or was given before
abbrev pub taken : Given → List ℕ → List ℕ → Option Given
taken old option value =
    if bytes_eq option (codes "--certificate") then
    only_once old.certificate value (λ new. record { certificate = new; branchings = old.branchings; format = old.format; objective = old.objective; places = old.places; rules = old.rules })
    else if bytes_eq option (codes "--branchings") then
    only_once old.branchings value (λ new. record { certificate = old.certificate; branchings = new; format = old.format; objective = old.objective; places = old.places; rules = old.rules })
    else if bytes_eq option (codes "--format") then
    only_once old.format value (λ new. record { certificate = old.certificate; branchings = old.branchings; format = new; objective = old.objective; places = old.places; rules = old.rules })
    else if bytes_eq option (codes "--objective") then
    only_once old.objective value (λ new. record { certificate = old.certificate; branchings = old.branchings; format = old.format; objective = new; places = old.places; rules = old.rules })
    else if bytes_eq option (codes "--places") then
    only_once old.places value (λ new. record { certificate = old.certificate; branchings = old.branchings; format = old.format; objective = old.objective; places = new; rules = old.rules })
    else if bytes_eq option (codes "--rules") then
    only_once old.rules value (λ new. record { certificate = old.certificate; branchings = old.branchings; format = old.format; objective = old.objective; places = old.places; rules = new })
    else None

-- what the words give together with what was given before them; none where they are no options
abbrev pub given_of : List (List ℕ) → Given → Option Given
given_of [] old = Some old
given_of (option ∷ []) old = None
given_of (option ∷ value ∷ words) old = option_and_then (given_of words) (taken old option value)

-- what options that were read give
abbrev pub given_by : Options → Given
given_by options = record {
  certificate = option_map (λ w. w.now) options.certificate;
  branchings = option_map (λ w. w.now) options.branchings;
  format = option_map (λ w. w.now) options.format;
  objective = option_map (λ w. w.now) options.objective;
  places = option_map (λ w. w.now) options.places;
  rules = option_map (λ w. w.now) options.rules;
}
