use Rattle.std.specs.List.{AllByRecursion}
use Rattle.slab.specs.Slab.{slab_len}
use Rattle.clu_tree.specs.Items.{RowsCounted}
use Rattle.clu_tree.specs.Nodes.{items_of}
use Rattle.clu_tree.specs.Links.{nodes_from}
use Rattle.clu_tree.proofs.Arena.{AreLeft}
use Rattle.clu_tree.proofs.tree.items_from.Given as goal

-- what is told, and then the items of the nodes that are left
abbrev pub invariant-loop-node : goal.invariant-loop-node
invariant-loop-node l =
    AreLeft l.nodes l.at l.items (items_of (nodes_from (slab_len l.initial.nodes) l.initial.nodes l.first)) × AllByRecursion RowsCounted l.items

abbrev pub decreases-loop-node : goal.decreases-loop-node
decreases-loop-node l = slab_len l.nodes
