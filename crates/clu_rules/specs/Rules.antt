-- The pairs of vertices that a list of rules requires to share a block, and those that it forbids to, wherever its attribute
-- lines stand.
use Rattle.std.specs.Prelude.{◌≡◌, ◌≢◌, ◌⊎◌, ℕ, ◌≤◌, ◌<◌, List, Contains, All}
use Rattle.clu_partition.specs.Closed.{AreRising}
use Rattle.clu_rules.specs.Lines.{Rule, tied, parted, valued, shared, differing, alike}

-- the vertex has the value under the key
abbrev pub HasAttribute : List Rule → List ℕ → ℕ → List ℕ → Type 0
HasAttribute rules key v value = Contains rules (valued v key value)

-- two vertices have equal values under the key
abbrev pub ShareValue : List Rule → List ℕ → ℕ → ℕ → Type 0
ShareValue rules key u v = (value : List ℕ) × HasAttribute rules key u value × HasAttribute rules key v value

-- two vertices have different values under the key: each has one, so a vertex without the key is free
abbrev pub DifferInValue : List Rule → List ℕ → ℕ → ℕ → Type 0
DifferInValue rules key u v = (x y : List ℕ) × HasAttribute rules key u x × HasAttribute rules key v y × (x ≢ y)

-- the rule, beside all rules, requires u and v to share a block
abbrev pub RuleRequires : List Rule → Rule → ℕ → ℕ → Type 0
RuleRequires rules (tied a b) u v = (u ≡ a) × (v ≡ b)
RuleRequires rules (shared key) u v = (u ≢ v) × ShareValue rules key u v
RuleRequires rules (parted a b) u v = ⊥
RuleRequires rules (valued w key value) u v = ⊥
RuleRequires rules (differing key) u v = ⊥
RuleRequires rules (alike key) u v = ⊥

-- the rule, beside all rules, forbids u and v to share a block
abbrev pub RuleForbids : List Rule → Rule → ℕ → ℕ → Type 0
RuleForbids rules (parted a b) u v = (u ≡ a) × (v ≡ b)
RuleForbids rules (differing key) u v = (u ≢ v) × ShareValue rules key u v
RuleForbids rules (alike key) u v = DifferInValue rules key u v
RuleForbids rules (tied a b) u v = ⊥
RuleForbids rules (valued w key value) u v = ⊥
RuleForbids rules (shared key) u v = ⊥

-- some rule requires u and v to share a block
abbrev pub Requires : List Rule → ℕ → ℕ → Type 0
Requires rules u v = (rule : Rule) × Contains rules rule × RuleRequires rules rule u v

-- some rule forbids u and v to share a block
abbrev pub Forbids : List Rule → ℕ → ℕ → Type 0
Forbids rules u v = (rule : Rule) × Contains rules rule × RuleForbids rules rule u v

-- labels that obey the rules: vertices that a rule requires to share a block have equal labels, and those that one forbids to
-- have different ones
pub record Obeys (rules : List Rule) (label : ℕ → ℕ) : Type 0 where
  pub together : (u v : ℕ) → Requires rules u v → label u ≡ label v
  pub apart : (u v : ℕ) → Forbids rules u v → label u ≢ label v

-- the list rises, and each pair has its smaller vertex first and two of n vertices, which may be equal
pub record IsPairList (n : ℕ) (list : List (ℕ × ℕ)) : Type 0 where
  pub rising : AreRising list
  pub ordered : All (λ p. (p.0 ≤ p.1) × (p.1 < n)) list

-- the list has exactly the pairs of the relation, in either order, each once
pub record IsListOf (n : ℕ) (R : ℕ → ℕ → Type 0) (list : List (ℕ × ℕ)) : Type 0 where
  pub listed : IsPairList n list
  pub only : (u v : ℕ) → Contains list (u, v) → R u v ⊎ R v u
  pub each : (u v : ℕ) → u ≤ v → R u v ⊎ R v u → Contains list (u, v)

-- the required and the forbidden pairs of n vertices
pub record PairLists : Type 0 where
  pub n : ℕ
  pub required : List (ℕ × ℕ)
  pub forbidden : List (ℕ × ℕ)

-- what the type of rules keeps
pub record ArePairLists (lists : PairLists) : Type 0 where
  pub small : lists.n ≤ 1000
  pub required : IsPairList lists.n lists.required
  pub forbidden : IsPairList lists.n lists.forbidden
