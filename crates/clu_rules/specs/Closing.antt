-- What the pairs of a rules file give: closed rules, or the least pair that is forbidden and tied.
use Rattle.std.specs.Prelude.{ℕ, List, Result, Ok, Err}
use Rattle.clu_partition.specs.Closed.{Closed, IsClosed}
use Rattle.clu_partition.specs.Ties.{IsStartOf, Contradicts}
use Rattle.clu_rules.specs.Lines.{Rule}
use Rattle.clu_rules.specs.Rules.{IsListOf, PairLists, Requires, Forbids}
use Rattle.clu_rules.specs.declared.closing.CloseError.{CloseError}
use Rattle.clu_rules.specs.declared.closing.CloseError.TheVariants.{Contradiction, Memory}
use Rattle.clu_partition.specs.declared.ties.TieError.{TieError}
use Rattle.clu_partition.specs.declared.ties.TieError.TheVariants as tied

abbrev pub ClosesTo : PairLists → Result Closed CloseError → Type 0
ClosesTo rules (Ok start) = IsStartOf rules.n rules.required rules.forbidden start
ClosesTo rules (Err (Contradiction pair)) = Contradicts rules.required rules.forbidden pair.u pair.v
ClosesTo rules (Err Memory) = Unit {0}

-- the refusal of pairs as that of rules
abbrev pub close_error : TieError → CloseError
close_error (tied.Contradiction u v) = Contradiction (record { u = u; v = v })
close_error tied.Memory = Memory

-- the pairs of n vertices that rules require, and those that they forbid
pub record ArePairsOf (n : ℕ) (rules : List Rule) (required forbidden : List (ℕ × ℕ)) : Type 0 where
  pub required_are : IsListOf n (Requires rules) required
  pub forbidden_are : IsListOf n (Forbids rules) forbidden

-- the closed rules of n vertices that a list of rules makes
pub record IsClosureOf (n : ℕ) (rules : List Rule) (start : Closed) : Type 0 where
  pub required : List (ℕ × ℕ)
  pub forbidden : List (ℕ × ℕ)
  pub pairs : ArePairsOf n rules required forbidden
  pub closed : IsClosed start
  pub made : IsStartOf n required forbidden start

-- u, v is the least pair of n vertices, u at most v, that a rule forbids and a chain of required pairs ties
pub record IsContradiction (n : ℕ) (rules : List Rule) (u v : ℕ) : Type 0 where
  pub required : List (ℕ × ℕ)
  pub forbidden : List (ℕ × ℕ)
  pub pairs : ArePairsOf n rules required forbidden
  pub pair : Contradicts required forbidden u v
