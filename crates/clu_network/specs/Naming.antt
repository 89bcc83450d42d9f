-- How a network names its vertices.
use Rattle.std.specs.Prelude.{◌≡◌, ℕ, List, [], Some, position}
use Rattle.std.specs.Str.{bytes_eq}
use Rattle.clu_network.specs.NameList.{with_names}
use Rattle.clu_network.specs.Network.{Net}

-- the names in the order in which they first appear, none of them twice
unfoldable pub net_names : Net → List (List ℕ)
net_names net = with_names [] net.names

-- bytes name the vertex whose name they are, byte for byte
abbrev pub IsNameOf : Net → List ℕ → ℕ → Type 0
IsNameOf net name v = position (bytes_eq name) (net_names net) ≡ Some v
