use Rattle.std.proofs.Common.{[], ◌∷◌}
use Rattle.slab.specs.Slab.{slab_len}
use Rattle.clu_tree.specs.Links.{nodes_from}
use Rattle.clu_tree.proofs.Fitting.{state_small, items_fit, told_fit}
use Rattle.clu_tree.proofs.tree.Tree.preorder.Goals as goal

pub returns-clause-fits : goal.returns-clause-fits
returns-clause-fits c =
    let ns = nodes_from (slab_len c.self.inside.nodes) c.self.inside.nodes c.self.inside.first in
    told_fit c.items_from.result ns (items_fit _ ns (_ ∷ []) (state_small _ c.self.invariant.linked.state, tt) c.self.invariant.linked.trees)
    c.items_from.ensures.value c.items_from.ensures.counted
