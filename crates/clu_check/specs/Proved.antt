-- Why the items of a part prove no bound, as a rejection.
use Rattle.std.specs.Prelude.{◌≡◌, ℕ, ◌+◌, ◌≤◌, List, length}
use Rattle.clu_partition.specs.Closed.{Closed, IsClosed}
use Rattle.clu_objective.specs.Problem.{Posed, IsPosed}
use Rattle.clu_state.specs.State.{State}
use Rattle.clu_cert.specs.Upper.{IsBadStep, IsBadLeaf}
use Rattle.clu_cert.specs.declared.certificate.Item.{Item}
use Rattle.clu_check.specs.Rejected.{ItemFails, TreeFails, as_count}
use Rattle.clu_check.specs.declared.tree.TreeFault.{TreeFault}
use Rattle.clu_check.specs.declared.tree.TreeFault.TheVariants.{Step as BadStep, Leaf as BadLeaf, Unfinished as NotWhole, Memory as NoMemory}
use Rattle.clu_check.specs.declared.reject.Reject.{Reject}
use Rattle.clu_check.specs.declared.reject.Reject.TheVariants.{Shape, Blocks, Rule, Value, Step as StepFault, Parts, Leaf, Unfinished, Bound, Memory}

-- closed rules for the vertices of a problem, of which there are at most 1,000
pub record HasClosedRules (problem : Posed) (start : Closed) : Type 0 where
  pub posed : IsPosed problem
  pub closed : IsClosed start
  pub one_size : length start.group ≡ problem.pairs.n
  pub few : problem.pairs.n ≤ 1000

-- the items of the part with this number fail, after so many items of earlier parts
abbrev pub IsItemFault : State → List Item → ℕ → ℕ → Reject → Type 0
IsItemFault s items earlier part Shape = ⊥
IsItemFault s items earlier part Blocks = ⊥
IsItemFault s items earlier part (Rule u v) = ⊥
IsItemFault s items earlier part (Value found) = ⊥
IsItemFault s items earlier part (StepFault item) = ItemFails IsBadStep item s items earlier part
IsItemFault s items earlier part (Parts number) = ⊥
IsItemFault s items earlier part (Leaf item) = ItemFails IsBadLeaf item s items earlier part
IsItemFault s items earlier part (Unfinished number) = TreeFails number s items earlier part
IsItemFault s items earlier part (Bound found) = ⊥
IsItemFault s items earlier part Memory = Unit {0}

-- a fault of a part's tree as a rejection
abbrev pub rejected_by : TreeFault → ℕ → ℕ → Reject
rejected_by (BadStep number) earlier part = StepFault (as_count (earlier + number))
rejected_by (BadLeaf number) earlier part = Leaf (as_count (earlier + number))
rejected_by NotWhole earlier part = Unfinished part
rejected_by NoMemory earlier part = Memory
