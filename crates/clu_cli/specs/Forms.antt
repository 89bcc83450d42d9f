-- How options say the form of a graph file: its format and what its partitions are judged by.
use Rattle.std.specs.Prelude.{◌≡◌, ℕ, ◌≤◌, List, Bool, true, false, Option, Some, None, bytes_eq, codes, if◌then◌else◌, IfSome}
use Rattle.std.specs.Option.{option_and_then, option_map}
use Rattle.clu_objective.specs.declared.objective.Objective.{Objective}
use Rattle.clu_objective.specs.declared.objective.Objective.TheVariants as objective
use Rattle.clu_text.specs.Numbers.{IsU64}
use Rattle.clu_cli.specs.declared.form.Form.{Form}
use Rattle.clu_cli.specs.declared.form.Form.TheVariants.{Edits, Agreement, Modularity}
use Rattle.clu_cli.specs.declared.form.Format.{Format}
use Rattle.clu_cli.specs.declared.form.Format.TheVariants.{Pace, Edges}
use Rattle.clu_cli.specs.Options.{Given}

-- the words of formats and objectives
abbrev pub format_named : List ℕ → Option Format
format_named word = if bytes_eq word (codes "pace") then Some Pace else if bytes_eq word (codes "edges") then Some Edges else None

abbrev pub objective_named : List ℕ → Option Objective
objective_named word =
    if bytes_eq word (codes "edits") then Some objective.Edits
    else if bytes_eq word (codes "agreement") then Some objective.Agreement
    else if bytes_eq word (codes "modularity") then Some objective.Modularity
    else None

-- the objective of a format where no word names it
abbrev pub usual : Format → Objective
usual Pace = objective.Edits
usual Edges = objective.Modularity

-- a graph is judged by edits, and an edge list by the others
abbrev pub go_together : Format → Objective → Bool
go_together Pace objective.Edits = true
go_together Pace objective.Agreement = false
go_together Pace objective.Modularity = false
go_together Edges objective.Edits = false
go_together Edges objective.Agreement = true
go_together Edges objective.Modularity = true

-- the objective where it goes together with the format
abbrev pub paired : Format → Objective → Option Objective
paired format chosen = if go_together format chosen then Some chosen else None

-- the objective that the words of format and objective give
abbrev pub asked_objective : Option (List ℕ) → Option (List ℕ) → Option Objective
asked_objective None None = Some objective.Edits
asked_objective (Some format) None = option_map usual (format_named format)
asked_objective None (Some word) = objective_named word
asked_objective (Some format) (Some word) = option_and_then (λ f. option_and_then (paired f) (objective_named word)) (format_named format)

-- the number of decimal places that a word gives, if there is one
abbrev pub GivesDecimals : Option (List ℕ) → Option ℕ → Type 0
GivesDecimals None None = Unit {0}
GivesDecimals None (Some places) = ⊥
GivesDecimals (Some word) None = ⊥
GivesDecimals (Some word) (Some places) = IsU64 word places × (places ≤ 9)

-- the form that options ask for
abbrev pub IsForm : Given → Form → Type 0
IsForm given Edits = (asked_objective given.format given.objective ≡ Some objective.Edits) × (given.places ≡ None)
IsForm given (Agreement places) = (asked_objective given.format given.objective ≡ Some objective.Agreement) × GivesDecimals given.places places
IsForm given (Modularity places) = (asked_objective given.format given.objective ≡ Some objective.Modularity) × GivesDecimals given.places places

-- at most so many decimal places as the limit allows are kept
abbrev pub HasFewPlaces : Form → Type 0
HasFewPlaces Edits = Unit {0}
HasFewPlaces (Agreement places) = IfSome places (λ k. k ≤ 9)
HasFewPlaces (Modularity places) = IfSome places (λ k. k ≤ 9)
