-- What the lines of a network say of the text that they were read from.
use Rattle.std.specs.Prelude.{◌≡◌, ◌≤◌, ℕ, ◌+◌, ◌-◌, ◌^◌, ◌*ℤ◌, pos, Bool, ◌==◌, if◌then◌else◌, List, [], Option, Some, map, take, length, slice_get}
use Rattle.std.specs.List.{enumerate_from, filter, flat_map}
use Rattle.clu_text.specs.Lines.{fields_of, lines_of}
use Rattle.clu_text.specs.declared.decimal.Decimal.{Decimal}
use Rattle.clu_network.specs.Entries.{Weighs}
use Rattle.clu_network.specs.Network.{Net}
use Rattle.clu_network.specs.Reading.{is_kept_in_network, IsKeptText}
use Rattle.clu_network.specs.declared.network.NetLine.{NetLine}

-- the names in a line: none where it is skipped, else its first two fields, or its only one
abbrev pub names_in : List ℕ → List (List ℕ)
names_in line = if is_kept_in_network (fields_of line) then take 2 (fields_of line) else []

-- the names in a text, as they come
abbrev pub all_names_in : List ℕ → List (List ℕ)
all_names_in bytes = flat_map names_in (lines_of bytes)

-- whether a numbered line has two names
abbrev pub has_two : ℕ × List ℕ → Bool
has_two line = length (names_in line.1) == 2

-- the numbers of the lines that have two names
abbrev pub numbers_in : List ℕ → List ℕ
numbers_in bytes = map (λ line. line.0) (filter has_two (enumerate_from 1 (lines_of bytes)))

-- the line of its number is kept, begins with the names of its two ends, and weighs what is written there, in units of the
-- network's last place
pub record IsLineOf (cut : Option ℕ) (bytes : List ℕ) (net : Net) (line : NetLine) : Type 0 where
  pub place : ℕ
  pub text : List ℕ
  pub number : line.line ≡ place + 1
  pub there : slice_get (lines_of bytes) place ≡ Some text
  pub kept : IsKeptText text
  pub u : List ℕ
  pub v : List ℕ
  pub weight : Decimal
  pub says : Weighs cut (fields_of text) u v weight
  pub u_is : slice_get net.names line.u ≡ Some u
  pub v_is : slice_get net.names line.v ≡ Some v
  pub places : weight.places ≤ net.places
  pub weighs : line.weight ≡ weight.units *ℤ pos (10 ^ (net.places - weight.places))
