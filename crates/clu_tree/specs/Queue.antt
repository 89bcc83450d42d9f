-- The queue of the leaves, by their bounds.
use Rattle.std.specs.Prelude.{◌≡◌, ℕ, ℤ, ◌≤◌, ◌≤ℤ◌, List, Contains, All}
use Rattle.std.specs.declared.cmp.Ordering.{Ordering}
use Rattle.std.specs.Ordering.{nat_cmp, int_cmp, ordering_then}
use Rattle.std.specs.declared.cmp.Reverse.{Reverse}

-- a bound and the key that has it
abbrev pub queue_entry : ℤ → ℕ → ℤ × Reverse ℕ
queue_entry bound key = (bound, record { 0 = key })

-- the entries, and how many more fit
pub record Entries : Type 0 where
  pub entries : List (ℤ × Reverse ℕ)
  pub room : ℕ

-- by the bound, and then by the key, the least above the others
abbrev pub entry_cmp : ℤ × Reverse ℕ → ℤ × Reverse ℕ → Ordering
entry_cmp x y = ordering_then (int_cmp x.0 y.0) (nat_cmp y.1.0 x.1.0)

-- one of the entries, and none has a greater bound, or the same and a lesser key
pub record IsBest (entries : List (ℤ × Reverse ℕ)) (bound : ℤ) (key : ℕ) : Type 0 where
  pub there : Contains entries (queue_entry bound key)
  pub greatest : All (λ e. e.0 ≤ℤ bound) entries
  pub least : All (λ e. e.0 ≡ bound → key ≤ e.1.0) entries
