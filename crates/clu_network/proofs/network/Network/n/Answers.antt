use Rattle.std.proofs.Common.{◌≡◌, subst}
use Rattle.clu_network.specs.Naming.{net_names}
use Rattle.clu_network.specs.NamingLaws.{names_are}
use Rattle.clu_network.specs.Network.{Net}
use Rattle.clu_network.proofs.network.Network.n.Goals as goal

pub returns-clause-named : goal.returns-clause-named
returns-clause-named c = subst (λ (net : Net). net_names net ≡ net.names) c.self.view_is (names_are _ c.self.invariant.apart)
