-- The pairs of rules as they are put into sets.
use Rattle.std.specs.Prelude.{◌≡◌, ◌≢◌, ◌⊎◌, ℕ, ◌<◌, Bool, true, false, List, Contains}
use Rattle.clu_partition.specs.PairSets.{Chosen, has}
use Rattle.clu_rules.specs.Lines.{Rule, as_rule, tied, parted, valued, shared, differing, alike}
use Rattle.clu_rules.specs.Rules.{HasAttribute, ShareValue, DifferInValue, RuleRequires, RuleForbids}
use Rattle.clu_rules.specs.declared.rule.Rule.{Rule as Found}
use Rattle.clu_rules.specs.declared.values.Value.{Value}

-- the set has grown by the pairs of the relation, in either order
pub record Puts (R : ℕ → ℕ → Type 0) (old new : Chosen) : Type 0 where
  pub size : new.n ≡ old.n
  pub keeps : (u v : ℕ) → has old u v ≡ true → has new u v ≡ true
  pub each : (u v : ℕ) → R u v → has new u v ≡ true
  pub only : (u v : ℕ) → u < old.n → v < old.n → has new u v ≡ true → (has old u v ≡ true) ⊎ (R u v ⊎ R v u)

-- an element of the list gives u and v
abbrev pub Any : {X : Type 0} → (X → ℕ → ℕ → Type 0) → List X → ℕ → ℕ → Type 0
Any S xs u v = (x : _) × Contains xs x × S x u v

-- two vertices with equal values, or any two with different ones
abbrev pub Clash : Bool → Value → Value → Type 0
Clash true a b = (a.vertex ≢ b.vertex) × (a.value.now ≡ b.value.now)
Clash false a b = a.value.now ≢ b.value.now

-- u and v are the vertices of two such values
abbrev pub ClashAt : Bool → Value → Value → ℕ → ℕ → Type 0
ClashAt equal a b u v = (u ≡ a.vertex) × (v ≡ b.vertex) × Clash equal a b

-- the same, the second value being one of a list
abbrev pub ClashIn : Bool → List Value → Value → ℕ → ℕ → Type 0
ClashIn equal values a u v = Any (ClashAt equal a) values u v

-- the vertices that have a value under the key, with their values
pub record AreValues (rules : List Rule) (key : List ℕ) (values : List Value) : Type 0 where
  pub only : (a : Value) → Contains values a → HasAttribute rules key a.vertex a.value.now
  pub each : (v : ℕ) (value : List ℕ) → HasAttribute rules key v value → (a : Value) × Contains values a × (a.vertex ≡ v) × (a.value.now ≡ value)

-- two vertices with equal values under the key, or two with different ones
abbrev pub OfKey : Bool → List Rule → List ℕ → ℕ → ℕ → Type 0
OfKey true rules key u v = (u ≢ v) × ShareValue rules key u v
OfKey false rules key u v = DifferInValue rules key u v

-- the vertices of the rule are below n
abbrev pub IsBelow : ℕ → Rule → Type 0
IsBelow n (tied u v) = (u < n) × (v < n)
IsBelow n (parted u v) = (u < n) × (v < n)
IsBelow n (valued v key value) = v < n
IsBelow n (shared key) = Unit {0}
IsBelow n (differing key) = Unit {0}
IsBelow n (alike key) = Unit {0}

-- the pairs that a rule as the code has it requires, beside all rules
abbrev pub RequiredBy : List Rule → Found → ℕ → ℕ → Type 0
RequiredBy rules rule = RuleRequires rules (as_rule rule)

-- the pairs that it forbids
abbrev pub ForbiddenBy : List Rule → Found → ℕ → ℕ → Type 0
ForbiddenBy rules rule = RuleForbids rules (as_rule rule)
