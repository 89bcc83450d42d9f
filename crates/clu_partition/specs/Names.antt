-- The bytes of a vertex's name.
use Rattle.std.specs.Prelude.{ℕ, ◌≤◌, List, take}
use Rattle.std.specs.Str.Parse.{AllDigits}
use Rattle.clu_partition.specs.declared.names.Name.{Name}
use Rattle.clu_partition.specs.declared.names.Name.TheVariants.{Number, Text}

-- the first digits, or the text
abbrev pub name_bytes : Name → List ℕ
name_bytes (Number digits len) = take len digits
name_bytes (Text text) = text.now

-- a number has at most the ten places of its array
abbrev pub FitsArray : Name → Type 0
FitsArray (Number digits len) = len ≤ 10
FitsArray (Text text) = Unit {0}

-- a number has decimal digits alone
abbrev pub HasDigits : Name → Type 0
HasDigits (Number digits len) = AllDigits 10 (take len digits)
HasDigits (Text text) = Unit {0}
