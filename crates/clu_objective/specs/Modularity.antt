-- Modularity after Newman and Girvan, scaled by the square of twice the total weight: for each block four times the total
-- weight times the weight inside, less the square of the block's volume.
use Rattle.std.specs.Prelude.{◌≡◌, ◌≢◌, ℕ, ℤ, All, slice_index_or, pos, ◌-ℤ◌, ◌*ℤ◌, ◌<◌, List, ◌==◌, ◌&&◌, slice_index, length, ◌≤ℤ◌, ◌^◌, None, Some, Result, Ok, Err}
use Rattle.clu_partition.specs.Pairs.{weight_of, IsTable}
use Rattle.clu_partition.specs.Partition.{below, block_count_of}
use Rattle.clu_partition.specs.Sums.{total, only_if}
use Rattle.clu_partition.specs.Values.{value_on}
use Rattle.clu_network.specs.declared.network.NetLine.{NetLine}
use Rattle.clu_network.specs.Network.{Net}
use Rattle.clu_objective.specs.Lines.{all_weight, line_weight, loop_weight, degree, first_negative}
use Rattle.clu_objective.specs.Problem.{Posed, printed}
use Rattle.clu_objective.specs.declared.objective.Objective.TheVariants.{Modularity}
use Rattle.clu_objective.specs.declared.error.ObjError.{ObjError}
use Rattle.clu_objective.specs.declared.error.ObjError.TheVariants.{NegativeWeight, NoWeight, TotalWeight, Memory}

-- the weight of the lines inside the block b, a loop once
abbrev pub weight_inside : List NetLine → (ℕ → ℕ) → ℕ → ℤ
weight_inside lines label b = total (λ l. only_if (label l.u == b && label l.v == b) l.weight) lines

-- the degrees of the vertices of the block b
abbrev pub volume : List NetLine → (ℕ → ℕ) → List ℕ → ℕ → ℤ
volume lines label members b = total (λ u. only_if (label u == b) (degree lines u)) members

-- the scaled modularity of a partition
abbrev pub modularity : Net → List ℕ → ℤ
modularity net labels =
    total (λ b. pos 4 *ℤ all_weight net.lines *ℤ weight_inside net.lines (slice_index labels) b
    -ℤ volume net.lines (slice_index labels) (below net.n) b *ℤ volume net.lines (slice_index labels) (below net.n) b)
    (below (block_count_of labels))

-- the weight of a pair
abbrev pub modular_weight : List NetLine → ℕ → ℕ → ℤ
modular_weight lines u v = pos 2 *ℤ all_weight lines *ℤ line_weight lines u v -ℤ degree lines u *ℤ degree lines v

-- what does not depend on the partition
abbrev pub modular_base : Net → ℤ
modular_base net =
    total (λ u. pos 4 *ℤ all_weight net.lines *ℤ loop_weight net.lines u -ℤ degree net.lines u *ℤ degree net.lines u) (below net.n)

-- of what the problem is made: no line weighs less than 0, all weigh so much, within the limit, and these are the degrees
pub record HasTotals (net : Net) (all : ℤ) (degrees : List ℤ) : Type 0 where
  pub within : All (λ l. (l.u < net.n) × (l.v < net.n)) net.lines
  pub none : first_negative net.lines ≡ None
  pub sum : all ≡ all_weight net.lines
  pub few : all ≤ℤ pos (2 ^ 43)
  pub size : length degrees ≡ net.n
  pub each : (u : ℕ) → u < net.n → slice_index_or degrees u (pos 0) ≡ degree net.lines u

-- the problem of modularity on a network
pub record PosesModularity (net : Net) (problem : Posed) : Type 0 where
  pub objective : problem.objective ≡ Modularity
  pub table : IsTable problem.pairs
  pub vertices : problem.pairs.n ≡ net.n
  pub weights : (u v : ℕ) → u < net.n → v < net.n → u ≢ v → weight_of problem.pairs u v ≡ modular_weight net.lines u v
  pub base : problem.base ≡ modular_base net
  pub factor : problem.factor ≡ pos 2
  pub scale : pos problem.scale ≡ pos 4 *ℤ all_weight net.lines *ℤ all_weight net.lines

-- the printed number of each partition is its scaled modularity
abbrev pub PrintsModularity : Net → Posed → Type 0
PrintsModularity net problem =
    (labels : List ℕ) → length labels ≡ net.n → printed problem (value_on (weight_of problem.pairs) (slice_index labels) (below net.n)) ≡ modularity net labels

-- what a network gives: its problem, or what bars it, in this order
abbrev pub AnswersModularity : Net → Result Posed ObjError → Type 0
AnswersModularity net (Ok problem) =
    (first_negative net.lines ≡ None) × (all_weight net.lines ≢ pos 0) × (all_weight net.lines ≤ℤ pos (2 ^ 43)) × PosesModularity net problem × PrintsModularity net problem
AnswersModularity net (Err (NegativeWeight line)) = first_negative net.lines ≡ Some line
AnswersModularity net (Err NoWeight) = (first_negative net.lines ≡ None) × (all_weight net.lines ≡ pos 0)
AnswersModularity net (Err (TotalWeight sum)) = (first_negative net.lines ≡ None) × (pos sum ≡ all_weight net.lines) × (2 ^ 43 < sum)
AnswersModularity net (Err Memory) = Unit {0}
