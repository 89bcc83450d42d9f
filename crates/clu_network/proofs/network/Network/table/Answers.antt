use Rattle.std.proofs.Common.{◌≡◌, subst, sym}
use Rattle.clu_network.specs.Naming.{net_names}
use Rattle.clu_network.specs.NamingLaws.{names_are}
use Rattle.clu_network.specs.Network.{Net}
use Rattle.clu_network.proofs.network.Network.table.Goals as goal

pub returns : goal.returns
returns c = record { names = subst (λ (net : Net). c.self.inside.names ≡ net_names net) c.self.view_is (sym (names_are _ c.self.invariant.apart)) }
