-- The words are of one command.
use Rattle.std.proofs.Common.{◌≡◌, ℕ, List, [], ◌∷◌, sym, ◌∙◌, ap, subst, arith, Option, Some, None}
use Rattle.std.specs.Prelude.{codes, slice_index, slice_index_or, String}
use Rattle.std.specs.Global.{Global}
use Rattle.clu_text.specs.Numbers.{IsU64}
use Rattle.clu_objective.specs.declared.objective.Objective.TheVariants as objective
use Rattle.clu_cli.specs.declared.form.Form.{Form}
use Rattle.clu_cli.specs.declared.form.Form.TheVariants.{Edits, Agreement, Modularity}
use Rattle.clu_cli.specs.Forms.{IsForm, GivesDecimals}
use Rattle.clu_cli.specs.Options.{Given, given_of, nothing}
use Rattle.clu_cli.specs.Words.{AllowsBranchings, AreWords, Asked, AsksFor, Command, IsCheck, IsCommand, GivesName, IsSolve, Source, solve, check}

-- ---- what options give
one_number : (word : List ℕ) (a b : ℕ) → IsU64 word a → IsU64 word b → a ≡ b
one_number word a b this that = sym this.number.value_is ∙ that.number.value_is

one_places : (word : Option (List ℕ)) (a b : Option ℕ) → GivesDecimals word a → GivesDecimals word b → a ≡ b
one_places None None None this that = λ i. None
one_places None None (Some b) this that = absurd that
one_places None (Some a) b this that = absurd this
one_places (Some word) None b this that = absurd this
one_places (Some word) (Some a) None this that = absurd that
one_places (Some word) (Some a) (Some b) this that = ap Some (one_number word a b this.0 that.0)

one_form : (given : Given) (f g : Form) → IsForm given f → IsForm given g → f ≡ g
one_form given Edits Edits this that = λ i. Edits
one_form given Edits (Agreement q) this that = absurd (let e : Some objective.Edits ≡ Some objective.Agreement = sym this.0 ∙ that.0 in cc)
one_form given Edits (Modularity q) this that = absurd (let e : Some objective.Edits ≡ Some objective.Modularity = sym this.0 ∙ that.0 in cc)
one_form given (Agreement p) Edits this that = absurd (let e : Some objective.Agreement ≡ Some objective.Edits = sym this.0 ∙ that.0 in cc)
one_form given (Agreement p) (Agreement q) this that = ap Agreement (one_places given.places p q this.1 that.1)
one_form given (Agreement p) (Modularity q) this that = absurd (let e : Some objective.Agreement ≡ Some objective.Modularity = sym this.0 ∙ that.0 in cc)
one_form given (Modularity p) Edits this that = absurd (let e : Some objective.Modularity ≡ Some objective.Edits = sym this.0 ∙ that.0 in cc)
one_form given (Modularity p) (Agreement q) this that = absurd (let e : Some objective.Modularity ≡ Some objective.Agreement = sym this.0 ∙ that.0 in cc)
one_form given (Modularity p) (Modularity q) this that = ap Modularity (one_places given.places p q this.1 that.1)

one_name : (word a b : Option (List ℕ)) → GivesName word a → GivesName word b → a ≡ b
one_name None None None this that = λ i. None
one_name None None (Some b) this that = absurd that
one_name None (Some a) b this that = absurd this
one_name (Some word) None b this that = absurd this
one_name (Some word) (Some a) None this that = absurd that
one_name (Some word) (Some a) (Some b) this that = ap Some (sym this.0 ∙ that.0)

one_limit : (word : Option (List ℕ)) (a b : ℕ) → AllowsBranchings word a → AllowsBranchings word b → a ≡ b
one_limit None a b this that = this ∙ sym that
one_limit (Some word) a b this that = one_number word a b this that

one_source : (file : List ℕ) (given : Given) (source other : Source) → AsksFor file given source → AsksFor file given other → source ≡ other
one_source file given source other this that =
    let files = this.file_is ∙ sym that.file_is in
    let forms = one_form given source.form other.form this.form that.form in
    let rules = one_name given.rules source.rules other.rules this.rules that.rules in
    λ i. record { file = files i; form = forms i; rules = rules i }

-- ---- the one command
abbrev first_byte : List (List ℕ) → ℕ
first_byte words = slice_index (slice_index_or words 0 []) 0

not_both : (words : List (List ℕ)) (source other : Source) (name : List ℕ) (certificate : Option (List ℕ)) (limit : ℕ)
    → IsSolve words source certificate limit → IsCheck words other name → ⊥
not_both words source other name certificate limit this that =
    let e : first_byte (codes "solve" ∷ this.file ∷ this.options) ≡ first_byte (codes "check" ∷ that.file ∷ name ∷ that.options) = ap first_byte (sym this.words_are ∙ that.words_are) in
    let n : 115 ≡ 99 = e in
    absurd (omega (arith, n))

asks_here : (file other : List ℕ) (given more : Given) (source : Source) → file ≡ other → given ≡ more → AsksFor file given source → AsksFor other more source
asks_here file other given more source files same asks =
    subst (λ (name : List ℕ). AsksFor name more source) files (subst (λ (g : Given). AsksFor file g source) same asks)

same_given : (options others : List (List ℕ)) (given other : Given) → options ≡ others → given_of options nothing ≡ Some given → given_of others nothing ≡ Some other → other ≡ given
same_given options others given other same gives gave =
    let e : Some given ≡ Some other = sym gives ∙ ap (λ (ws : List (List ℕ)). given_of ws nothing) same ∙ gave in cc

solve_once : (words : List (List ℕ)) (source other : Source) (certificate name : Option (List ℕ)) (limit most : ℕ)
    → IsSolve words source certificate limit → IsSolve words other name most → solve source certificate limit ≡ solve other name most
solve_once words source other certificate name limit most this that =
    let e : codes "solve" ∷ this.file ∷ this.options ≡ codes "solve" ∷ that.file ∷ that.options = sym this.words_are ∙ that.words_are in
    let files : that.file ≡ this.file = cc in
    let options : this.options ≡ that.options = cc in
    let same = same_given this.options that.options this.given that.given options this.gives that.gives in
    let sources = one_source this.file this.given source other this.asks (asks_here that.file this.file that.given this.given other files same that.asks) in
    let names = one_name this.given.certificate certificate name this.names (subst (λ (g : Given). GivesName g.certificate name) same that.names) in
    let limits = one_limit this.given.branchings limit most this.allows (subst (λ (g : Given). AllowsBranchings g.branchings most) same that.allows) in
    λ i. solve (sources i) (names i) (limits i)

check_once : (words : List (List ℕ)) (source other : Source) (name given : List ℕ) → IsCheck words source name → IsCheck words other given
    → check source name ≡ check other given
check_once words source other name given this that =
    let e : codes "check" ∷ this.file ∷ name ∷ this.options ≡ codes "check" ∷ that.file ∷ given ∷ that.options = sym this.words_are ∙ that.words_are in
    let files : that.file ≡ this.file = cc in
    let names : name ≡ given = cc in
    let options : this.options ≡ that.options = cc in
    let same = same_given this.options that.options this.given that.given options this.gives that.gives in
    let sources = one_source this.file this.given source other this.asks (asks_here that.file this.file that.given this.given other files same that.asks) in
    λ i. check (sources i) (names i)

one_command : (words : List (List ℕ)) (c d : Command) → AreWords words c → AreWords words d → c ≡ d
one_command words (solve source certificate limit) (solve other name most) this that = solve_once words source other certificate name limit most this that
one_command words (solve source certificate limit) (check other name) this that = absurd (not_both words source other name certificate limit this that)
one_command words (check source name) (solve other certificate limit) this that = absurd (not_both words other source name certificate limit that this)
one_command words (check source name) (check other given) this that = check_once words source other name given this that

-- what holds of the command that the words name is a fact of each that they give
pub asked_of : (words : List (String Global)) (command : Command) (Fact : Command → Type 0) → IsCommand words command → Fact command → Asked words Fact
asked_of words command Fact is fact = λ other asked. subst Fact (one_command _ command other is asked) fact
