-- Networks as lists of weighted lines.
use Rattle.std.specs.Prelude.{◌≡◌, ℕ, ◌<◌, ◌≤◌, ◌^◌, List, All, length, unsigned_abs}
use Rattle.std.specs.List.{IsDistinct}
use Rattle.std.specs.Str.{bytes_eq}
use Rattle.clu_network.specs.declared.network.NetLine.{NetLine}

-- the names of the vertices 0 to n - 1, and the lines with their weights times ten to the places
pub record Net : Type 0 where
  pub n : ℕ
  pub names : List (List ℕ)
  pub places : ℕ
  pub lines : List NetLine

-- the limits, which keep each sum of weights far within 128 bits
pub record IsNet (net : Net) : Type 0 where
  pub named : length net.names ≡ net.n
  pub apart : IsDistinct bytes_eq net.names
  pub small : net.n ≤ 1000
  pub decimals : net.places ≤ 9
  pub few : length net.lines ≤ 1000000
  pub within : All (λ l. (l.u < net.n) × (l.v < net.n)) net.lines
  pub light : All (λ l. unsigned_abs l.weight ≤ 10 ^ 27) net.lines
