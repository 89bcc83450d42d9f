-- The lines of a rules file: their forms, and what they say of vertices.
use Rattle.std.specs.Prelude.{◌≡◌, ◌⊎◌, ℕ, Bool, false, not, ◌==◌, List, [], ◌∷◌, codes, slice_index}
use Rattle.clu_rules.specs.declared.form.Form.{Form as Read}
use Rattle.clu_rules.specs.declared.form.Form.TheVariants.{Together, Apart, Attribute, Share, Differ, Same}
use Rattle.clu_rules.specs.declared.rule.Rule.{Rule as Found}
use Rattle.clu_rules.specs.declared.rule.Rule.TheVariants as found

-- what a comment begins with: '#'
abbrev pub comment_hash : ℕ
comment_hash = 35

-- a line is kept if it has a field and its first field begins no comment
abbrev pub is_kept_in_rules : List (List ℕ) → Bool
is_kept_in_rules [] = false
is_kept_in_rules (first ∷ fields) = not (slice_index first 0 == comment_hash)

-- a line by its names, keys and values
pub data LineForm : Type 0 where
  together : List ℕ → List ℕ → LineForm
  apart : List ℕ → List ℕ → LineForm
  attribute : List ℕ → List ℕ → List ℕ → LineForm
  share : List ℕ → LineForm
  differ : List ℕ → LineForm
  same : List ℕ → LineForm

-- the fields of the line
abbrev pub form_fields : LineForm → List (List ℕ)
form_fields (together a b) = codes "together" ∷ a ∷ b ∷ []
form_fields (apart a b) = codes "apart" ∷ a ∷ b ∷ []
form_fields (attribute a key value) = codes "attribute" ∷ a ∷ key ∷ value ∷ []
form_fields (share key) = codes "share" ∷ key ∷ []
form_fields (differ key) = codes "differ" ∷ key ∷ []
form_fields (same key) = codes "same" ∷ key ∷ []

-- a form that the code has read
abbrev pub as_form : Read → LineForm
as_form (Together a b) = together a.now b.now
as_form (Apart a b) = apart a.now b.now
as_form (Attribute a key value) = attribute a.now key.now value.now
as_form (Share key) = share key.now
as_form (Differ key) = differ key.now
as_form (Same key) = same key.now

-- a line by its vertices, keys and values
pub data Rule : Type 0 where
  tied : ℕ → ℕ → Rule
  parted : ℕ → ℕ → Rule
  valued : ℕ → List ℕ → List ℕ → Rule
  shared : List ℕ → Rule
  differing : List ℕ → Rule
  alike : List ℕ → Rule

-- a rule that the code has found
abbrev pub as_rule : Found → Rule
as_rule (found.Together u v) = tied u v
as_rule (found.Apart u v) = parted u v
as_rule (found.Attribute v key value) = valued v key.now value.now
as_rule (found.Share key) = shared key.now
as_rule (found.Differ key) = differing key.now
as_rule (found.Same key) = alike key.now

-- a line of this form says this of vertices, by their names
abbrev pub Says : (List ℕ → ℕ → Type 0) → LineForm → Rule → Type 0
Says named (together a b) rule = (u v : ℕ) × named a u × named b v × (rule ≡ tied u v)
Says named (apart a b) rule = (u v : ℕ) × named a u × named b v × (rule ≡ parted u v)
Says named (attribute a key value) rule = (v : ℕ) × named a v × (rule ≡ valued v key value)
Says named (share key) rule = rule ≡ shared key
Says named (differ key) rule = rule ≡ differing key
Says named (same key) rule = rule ≡ alike key

-- the name of no vertex
abbrev pub IsUnknown : (List ℕ → ℕ → Type 0) → List ℕ → Type 0
IsUnknown named name = (v : ℕ) → named name v → ⊥

-- a name in the line is that of no vertex
abbrev pub HasUnknown : (List ℕ → ℕ → Type 0) → LineForm → Type 0
HasUnknown named (together a b) = IsUnknown named a ⊎ IsUnknown named b
HasUnknown named (apart a b) = IsUnknown named a ⊎ IsUnknown named b
HasUnknown named (attribute a key value) = IsUnknown named a
HasUnknown named (share key) = ⊥
HasUnknown named (differ key) = ⊥
HasUnknown named (same key) = ⊥
