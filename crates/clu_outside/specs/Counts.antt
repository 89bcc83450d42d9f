-- Counts of faults and calls, which stand still at the last value of a `u64` and never fall.
use Rattle.std.specs.Prelude.{ℕ, ◌+◌, ◌-◌, ◌≤◌, ◌^◌, max, min}

-- the last value of a `u64`
abbrev pub last_count : ℕ
last_count = 2 ^ 64 - 1

-- one more, or the last value; a count that is above it stands still
abbrev pub next_count : ℕ → ℕ
next_count count = max count (min (count + 1) last_count)

-- so many more, or the last value; a count that is above it stands still
abbrev pub later_count : ℕ → ℕ → ℕ
later_count more count = max count (min (count + more) last_count)

-- a count is larger than before, or stands at the last value
abbrev pub Rose : ℕ → ℕ → Type 0
Rose before now = next_count before ≤ now

-- how many loads of a folder, and how many creates and appends, have met a fault
pub record FolderFaults : Type 0 where
  pub loads : ℕ
  pub stores : ℕ
