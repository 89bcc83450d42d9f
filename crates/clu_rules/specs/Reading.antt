-- The lines of a rules file in order: the rules that they give, or the first line that is refused.
use Rattle.std.specs.Prelude.{◌≡◌, ◌⊎◌, ℕ, true, false, List, [], ◌∷◌, ◌++◌, Contains}
use Rattle.std.specs.List.{enumerate_from}
use Rattle.clu_text.specs.Lines.{lines_of, fields_of}
use Rattle.clu_rules.specs.Lines.{is_kept_in_rules, LineForm, form_fields, Rule, tied, parted, valued, shared, differing, alike, Says, HasUnknown}
use Rattle.clu_rules.specs.Rules.{IsListOf, Requires, Forbids}
use Rattle.clu_rules.specs.declared.error.RuleError.{RuleError}
use Rattle.clu_rules.specs.declared.error.RuleError.TheVariants.{BadRule, UnknownVertex, AttributeTwice, Memory}

-- the rule gives the vertex a value under the key
abbrev pub GivesSome : List ℕ → ℕ → Rule → Type 0
GivesSome key v rule = (value : List ℕ) × (rule ≡ valued v key value)

-- a rule of the list does
abbrev pub HasSome : List Rule → List ℕ → ℕ → Type 0
HasSome rules key v = (rule : Rule) × Contains rules rule × GivesSome key v rule

-- an earlier rule gives the vertex of this one a value under its key
abbrev pub GivesTwice : List Rule → Rule → Type 0
GivesTwice earlier (valued v key value) = HasSome earlier key v
GivesTwice earlier (tied u v) = ⊥
GivesTwice earlier (parted u v) = ⊥
GivesTwice earlier (shared key) = ⊥
GivesTwice earlier (differing key) = ⊥
GivesTwice earlier (alike key) = ⊥

-- the line is kept, and says this, which no earlier rule bars
pub record AddsRule (named : List ℕ → ℕ → Type 0) (earlier : List Rule) (bytes : List ℕ) (rule : Rule) : Type 0 where
  pub kept : is_kept_in_rules (fields_of bytes) ≡ true
  pub form : LineForm
  pub words_are : fields_of bytes ≡ form_fields form
  pub says : Says named form rule
  pub once : GivesTwice earlier rule → ⊥

-- the numbered lines, behind those that gave the earlier rules, give all of these
abbrev pub ReadsRules : (List ℕ → ℕ → Type 0) → List (ℕ × List ℕ) → List Rule → List Rule → Type 0
ReadsRules named [] earlier all = earlier ≡ all
ReadsRules named (line ∷ lines) earlier all =
    ((is_kept_in_rules (fields_of line.1) ≡ false) × ReadsRules named lines earlier all)
    ⊎ ((rule : Rule) × AddsRule named earlier line.1 rule × ReadsRules named lines (earlier ++ rule ∷ []) all)

-- why the kept line with this number is refused: its form, then its names, then its key
abbrev pub StopsAtRule : (List ℕ → ℕ → Type 0) → List Rule → ℕ → List ℕ → RuleError → Type 0
StopsAtRule named earlier number bytes (BadRule line) = (line ≡ number) × ((form : LineForm) → fields_of bytes ≡ form_fields form → ⊥)
StopsAtRule named earlier number bytes (UnknownVertex line) = (line ≡ number) × (form : LineForm) × (fields_of bytes ≡ form_fields form) × HasUnknown named form
StopsAtRule named earlier number bytes (AttributeTwice line) =
    (line ≡ number) × (form : LineForm) × (fields_of bytes ≡ form_fields form) × (rule : Rule) × Says named form rule × GivesTwice earlier rule
StopsAtRule named earlier number bytes Memory = ⊥

-- the first line that is refused, behind lines that are not
abbrev pub FailsRules : (List ℕ → ℕ → Type 0) → List (ℕ × List ℕ) → List Rule → RuleError → Type 0
FailsRules named [] earlier error = ⊥
FailsRules named (line ∷ lines) earlier error =
    ((is_kept_in_rules (fields_of line.1) ≡ true) × StopsAtRule named earlier line.0 line.1 error)
    ⊎ (((is_kept_in_rules (fields_of line.1) ≡ false) × FailsRules named lines earlier error)
    ⊎ ((rule : Rule) × AddsRule named earlier line.1 rule × FailsRules named lines (earlier ++ rule ∷ []) error))

-- the first line of the bytes that is refused, and why
abbrev pub IsRulesFault : (List ℕ → ℕ → Type 0) → List ℕ → RuleError → Type 0
IsRulesFault named bytes error = FailsRules named (enumerate_from 1 (lines_of bytes)) [] error

-- the bytes are a text of these rules
abbrev pub IsTextOf : (List ℕ → ℕ → Type 0) → List ℕ → List Rule → Type 0
IsTextOf named bytes rules = ReadsRules named (enumerate_from 1 (lines_of bytes)) [] rules

-- the bytes are a text of rules that give these pairs of n vertices
pub record AreRules (n : ℕ) (named : List ℕ → ℕ → Type 0) (bytes : List ℕ) (required forbidden : List (ℕ × ℕ)) : Type 0 where
  pub rules : List Rule
  pub reads : ReadsRules named (enumerate_from 1 (lines_of bytes)) [] rules
  pub required_are : IsListOf n (Requires rules) required
  pub forbidden_are : IsListOf n (Forbids rules) forbidden
