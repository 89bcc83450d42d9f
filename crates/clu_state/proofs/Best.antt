-- Decisions that keep a best partition of the class.
use Rattle.std.proofs.Common.{ℕ, ℤ, ◌≤ℤ◌}
use Rattle.std.proofs.lemmas.List.Elements.{All-push}
use Rattle.clu_partition.specs.Pairs.{weight_of}
use Rattle.clu_partition.specs.Values.{value_on}
use Rattle.clu_state.specs.State.{State, InClass, ObeysDecision, decided}
use Rattle.clu_state.specs.declared.decision.Decision.{Decision}

-- the value of a partition on the state's members
abbrev pub worth : State → (ℕ → ℕ) → ℤ
worth s label = value_on (weight_of s.pairs) label s.members

-- a partition of the class that is worth as much as another at least
pub record AsGood (s : State) (least : ℤ) : Type 0 where
  pub label : ℕ → ℕ
  pub class' : InClass s label
  pub better : least ≤ℤ worth s label

-- for each partition of the class there is one after the decision that is worth as much at least
pub record KeepsBest (s : State) (d : Decision) : Type 0 where
  pub after : (label : ℕ → ℕ) → InClass s label → AsGood (decided s d) (worth s label)

-- a partition that obeys a decision is of the class after it
pub in_after : (s : State) (d : Decision) (label : ℕ → ℕ) → InClass s label → ObeysDecision label d → InClass (decided s d) label
in_after s d label c o = record { required = c.required; forbidden = c.forbidden; decisions = All-push (ObeysDecision label) s.decisions d c.decisions o }
