use Rattle.std.proofs.Common.{◌≡◌, ◌/◌, ap, sym, ◌∙◌, subst}
use Rattle.slab.specs.Slab.{slab_len}
use Rattle.clu_tree.specs.Items.{branch_items}
use Rattle.clu_tree.specs.Nodes.{Tree, items_of}
use Rattle.clu_tree.specs.Links.{nodes_from}
use Rattle.clu_tree.proofs.Uppers.{half_branches}
use Rattle.clu_tree.proofs.tree.Tree.branchings.Goals as goal

pub returns : goal.returns
returns c =
    let h = half_branches _ (nodes_from (slab_len c.self.inside.nodes) c.self.inside.nodes c.self.inside.first) _ c.self.invariant.linked.trees in
    let a = c.self.invariant.linked.all in
    let e = c.len.ensures in
    let k : c.len.result / 2 ≡ branch_items (items_of (nodes_from (slab_len c.self.inside.nodes) c.self.inside.nodes c.self.inside.first)) =
    ap (λ n. n / 2) (e ∙ sym a) ∙ h in
    subst (λ (t : Tree). c.len.result / 2 ≡ branch_items (items_of t.nodes)) c.self.view_is k
