-- The sum of a group's row, and what it allows.
use Rattle.std.specs.Prelude.{◌≡◌, ℕ, ℤ, pos, neg_ℤ, ◌+ℤ◌, ◌≤ℤ◌, ◌<ℤ◌}
use Rattle.clu_partition.specs.Sums.{total}
use Rattle.clu_state.specs.State.{State, leader}
use Rattle.clu_reduce.specs.Tests.{cost_at}
use Rattle.clu_reduce.specs.declared.step.Kind.{Kind}
use Rattle.clu_reduce.specs.declared.step.Kind.TheVariants.{Twin, Pair, Heavy, Light}

-- what a kind's row adds up is what this kind sets against a weight
abbrev pub row_kind : Kind → Kind
row_kind Twin = Twin
row_kind Pair = Light
row_kind Heavy = Heavy
row_kind Light = Light

-- the row of a group named by its least vertex, over all groups but it
abbrev pub IsRowSum : State → Kind → ℕ → ℤ → Type 0
IsRowSum s kind u row = leader s u ≡ u → row ≡ total (cost_at s (row_kind kind) u u) s.members

-- what the row asks of a weight
abbrev pub RowAllows : Kind → ℤ → ℤ → Type 0
RowAllows Twin row w = Unit {0}
RowAllows Pair row w = row ≤ℤ (w +ℤ w)
RowAllows Heavy row w = row ≤ℤ (w +ℤ w)
RowAllows Light row w = (w <ℤ pos 0) × (row ≤ℤ neg_ℤ w)
