-- The values of attribute lines by their keys.
use Rattle.std.specs.Prelude.{◌≡◌, ◌↔◌, ℕ, nat_eq, Bool, ◌&&◌, ◌||◌, if◌then◌else◌, List, [], ◌∷◌, ◌++◌, IsTrue, unwrap_or}
use Rattle.std.specs.Borrow.{Bor}
use Rattle.std.specs.Str.{bytes_eq}
use Rattle.indexmap.specs.IndexMap as map
use Rattle.indexmap.specs.IndexSet as set
use Rattle.clu_rules.specs.Lines.{Rule}
use Rattle.clu_rules.specs.Puts.{AreValues}
use Rattle.clu_rules.specs.Reading.{HasSome}
use Rattle.clu_rules.specs.declared.values.Value.{Value}
use Rattle.clu_rules.specs.declared.attributes.Attributes.{Attributes}

-- the values under a key
abbrev pub values_under : {S : Type 0} → map.IndexMap (Bor (List ℕ)) (List Value) S → List ℕ → List Value
values_under table key = unwrap_or (map.get_by (λ k. bytes_eq key k.now) table) []

-- whether the vertex is noted under the key
abbrev pub is_noted : {S : Type 0} → set.IndexSet (Bor (List ℕ) × ℕ) S → List ℕ → ℕ → Bool
is_noted given key v = set.contains_by (λ p. bytes_eq key p.0.now && nat_eq v p.1) given

-- one vertex more is noted under one key
pub record NotesVertex {S : Type 0} (key : List ℕ) (v : ℕ) (old new : set.IndexSet (Bor (List ℕ) × ℕ) S) : Type 0 where
  pub each : (q : List ℕ) (u : ℕ) → is_noted new q u ≡ (bytes_eq key q && nat_eq v u) || is_noted old q u

-- one value more stands behind those of one key
pub record PushesValue {S : Type 0} (key : List ℕ) (value : Value) (old new : map.IndexMap (Bor (List ℕ)) (List Value) S) : Type 0 where
  pub each : (q : List ℕ) → values_under new q ≡ (if bytes_eq key q then values_under old q ++ value ∷ [] else values_under old q)

-- the table is that of the attribute lines among the rules
pub record AreAttributes (rules : List Rule) (table : Attributes) : Type 0 where
  pub noted : (key : List ℕ) (v : ℕ) → IsTrue (is_noted table.given key v) ↔ HasSome rules key v
  pub values : (key : List ℕ) → AreValues rules key (values_under table.values key)

-- the table has taken one rule more, whatever rules it was that of
pub record TakesRule (rule : Rule) (old new : Attributes) : Type 0 where
  pub takes : (rules : List Rule) → AreAttributes rules old → AreAttributes (rules ++ rule ∷ []) new
