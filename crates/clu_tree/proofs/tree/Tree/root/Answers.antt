use Rattle.std.proofs.Common.{◌≡◌, List, ◌∷◌, subst}
use Rattle.slab.specs.Slab.{slab_len}
use Rattle.clu_cert.specs.Valid.{stepped}
use Rattle.clu_tree.specs.Nodes.{Shown, Tree, HasKey, state_at}
use Rattle.clu_tree.proofs.RootLaws.{root_key, root_state}
use Rattle.clu_tree.proofs.tree.Tree.root.Goals as goal

pub returns-clause-key : goal.returns-clause-key
returns-clause-key c = subst (λ (t : Tree). HasKey c.self.inside.first t.nodes) c.self.view_is
    (root_key (slab_len c.self.inside.nodes) c.self.inside.nodes c.self.inside.first _ _ c.self.invariant.linked.trees)

pub returns-clause-state : goal.returns-clause-state
returns-clause-state c = subst (λ (t : Tree). (n : Shown) (ns : List Shown) → t.nodes ≡ n ∷ ns → state_at t c.self.inside.first ≡ stepped t.root n.steps)
    c.self.view_is (root_state (slab_len c.self.inside.nodes) c.self.inside.nodes c.self.inside.first _ _ c.self.invariant.linked.trees)
