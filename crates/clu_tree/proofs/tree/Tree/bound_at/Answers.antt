use Rattle.std.proofs.Common.{sym, ◌∙◌, subst}
use Rattle.clu_node.specs.Node.{IsBounded}
use Rattle.clu_node.specs.declared.bound.NodeBound.{NodeBound}
use Rattle.clu_tree.specs.Nodes.{Tree as Shape, HasKey, LeafAt, state_at}
use Rattle.clu_tree.specs.Links.{KeysDiffer}
use Rattle.clu_tree.proofs.SplitLaws.{leaf_key}
use Rattle.clu_tree.proofs.KeyLaws.{split_is, unsplit_once, linked_contains, linked_leaf, leaf_once, linked_bounded}
use Rattle.clu_tree.proofs.tree.Tree.bound_at.Goals as goal

pub index-requires : goal.index-requires
index-requires c = linked_contains c.self.inside.nodes c.self.inside.first c.args.key
    (subst (λ (t : Shape). HasKey c.args.key t.nodes) (sym c.self.view_is) (leaf_key c.args.key c.requires.node c.args.self.now.nodes c.requires.leaf))

pub unreachable-requires : goal.unreachable-requires
unreachable-requires c = split_is c.in-Split.field-0 c.requires.node (sym c.in-Split.is
    ∙ linked_leaf c.self.inside.nodes c.self.inside.first c.args.key c.requires.node c.index.result.now
    (subst (λ (t : Shape). LeafAt c.args.key c.requires.node t.nodes) (sym c.self.view_is) c.requires.leaf) c.index.ensures)

pub returns-clause-value : goal.returns-clause-value
returns-clause-value c =
    let leaf = subst (λ (t : Shape). LeafAt c.args.key c.requires.node t.nodes) (sym c.self.view_is) c.requires.leaf in
    let is = linked_leaf c.self.inside.nodes c.self.inside.first c.args.key c.requires.node c.index.result.now leaf c.index.ensures in
    subst (λ (b : NodeBound). LeafAt c.args.key b c.args.self.now.nodes) (unsplit_once c.requires.node c.in-Unsplit.bound (sym is ∙ c.in-Unsplit.is))
    c.requires.leaf

pub returns-clause-only : goal.returns-clause-only
returns-clause-only c = λ other b. leaf_once c.args.key c.in-Unsplit.bound other c.args.self.now.nodes
    (subst (λ (t : Shape). KeysDiffer t.nodes) c.self.view_is c.self.invariant.linked.differ) (returns-clause-value c) b

pub returns-clause-bounded : goal.returns-clause-bounded
returns-clause-bounded c = subst (λ (t : Shape). IsBounded (state_at t c.args.key) c.in-Unsplit.bound) c.self.view_is
    (linked_bounded c.self.inside.nodes c.self.inside.first _ c.self.inside.floor c.args.key c.in-Unsplit.bound c.self.invariant.linked
    (subst (λ (t : Shape). LeafAt c.args.key c.in-Unsplit.bound t.nodes) (sym c.self.view_is) (returns-clause-value c)))
