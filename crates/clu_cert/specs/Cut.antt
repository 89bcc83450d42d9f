-- Bytes cut at each space, or at each line feed.
use Rattle.std.specs.Prelude.{ℕ, Bool, List, [], Option, Some, None, nat_eq}
use Rattle.std.specs.List.{slice_split}
use Rattle.std.specs.Borrow.{Bor}

abbrev pub is_byte : ℕ → ℕ → Bool
is_byte by b = nat_eq b by

-- the fields of a line
abbrev pub spaced_fields : List ℕ → List (List ℕ)
spaced_fields line = slice_split (is_byte 32) line

-- the fields of the rest of a line, if there is one
abbrev pub fields_left : Option (Bor (List ℕ)) → List (List ℕ)
fields_left None = []
fields_left (Some rest) = spaced_fields rest.now
