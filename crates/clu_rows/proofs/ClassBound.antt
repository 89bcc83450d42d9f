-- No partition of the class has a value above a leaf's bound.
use Rattle.std.proofs.Common.{ℕ, ◌<◌, ◌≤ℤ◌, List}
use Rattle.clu_partition.specs.Pairs.{weight_of}
use Rattle.clu_partition.specs.Values.{value_on}
use Rattle.clu_partition.specs.Groups.{leaders}
use Rattle.clu_partition.proofs.SumLaws.{Each}
use Rattle.clu_partition.proofs.TableLaws.{weight_sym}
use Rattle.clu_state.specs.State.{State, IsState, InClass, leader, are_apart}
use Rattle.clu_state.proofs.Bridge.{state_are_groups}
use Rattle.clu_state.proofs.Class.{class_respects}
use Rattle.clu_rows.specs.Rows.{TwoSet, leaf_bound_of}
use Rattle.clu_rows.proofs.Duality.{Disjoint, weak_duality}

pub class_bound : (s : State) (label : ℕ → ℕ) (den : ℕ) (rows : List TwoSet) → IsState s → InClass s label → 0 < den → Each (Disjoint (leader s) (leaders (leader s) s.members)) rows →
    value_on (weight_of s.pairs) label s.members ≤ℤ leaf_bound_of s den rows
class_bound s label den rows i c d all = weak_duality (weight_of s.pairs) (weight_sym s.pairs) label (leader s) (are_apart s) s.members den rows (state_are_groups s i) (class_respects s label i c) d all
