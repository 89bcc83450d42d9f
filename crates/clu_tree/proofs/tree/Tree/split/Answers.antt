use Rattle.std.proofs.Common.{sym, subst}
use Rattle.clu_state.specs.State.{IsFree, decided}
use Rattle.clu_state.specs.declared.decision.Decision.TheVariants.{Together, Apart}
use Rattle.clu_tree.specs.Nodes.{Tree, state_at, IsOpenLeaf, MayStand}
use Rattle.slab.specs.Slab.{slab_len}
use Rattle.clu_tree.proofs.Arena.{leaf_unsplit}
use Rattle.clu_tree.proofs.Queued.{there_is}
use Rattle.clu_tree.proofs.Telling.{split_whole, split_value, same_value, bounds_were, one_branch}
use Rattle.clu_tree.proofs.tree.Tree.split.Goals as goal

pub grow-requires-clause-key : goal.grow-requires-clause-key
grow-requires-clause-key c =
    let o = subst (λ (t : Tree). IsOpenLeaf t c.args.key) (sym c.self.view_is) c.requires.open in
    let w = leaf_unsplit (slab_len c.self.inside.nodes) c.self.inside.nodes c.self.inside.first c.args.key o.node o.leaf in
    there_is _ w.0 w.1

pub grow-requires-clause-known : goal.grow-requires-clause-known
grow-requires-clause-known c = λ b k h. let w = c.self.invariant.queued.known b k h in there_is _ w.1.0 w.1.1

pub invariant_of-self : goal.invariant_of-self
invariant_of-self c = split_whole c.grow.result c.self.inside.nodes c.grow.new.nodes c.self.inside.first _ _ c.args.key (c.args.u, c.args.v) c.args.together c.args.apart
    c.self.inside.queue.entries c.grow.new.queue.entries c.self.invariant
    (subst (λ (t : Tree). IsOpenLeaf t c.args.key) (sym c.self.view_is) c.requires.open)
    (subst (λ (t : Tree). IsFree (state_at t c.args.key) c.args.u c.args.v) (sym c.self.view_is) c.requires.free)
    (subst (λ (t : Tree). MayStand (decided (state_at t c.args.key) (Together c.args.u c.args.v)) c.args.together) (sym c.self.view_is) c.requires.together)
    (subst (λ (t : Tree). MayStand (decided (state_at t c.args.key) (Apart c.args.u c.args.v)) c.args.apart) (sym c.self.view_is) c.requires.apart)
    c.grow.ensures.ok c.grow.ensures.queued c.grow.ensures.err c.grow.ensures.err_queue

pub returns-clause-ok : goal.returns-clause-ok
returns-clause-ok c = split_value c.grow.result c.self.inside.nodes c.grow.new.nodes c.self.inside.first _ _ c.args.key (c.args.u, c.args.v) c.args.together c.args.apart
    c.args.self.now c.self.invariant.linked c.self.view_is c.requires.open c.grow.ensures.ok

pub returns-clause-bounds : goal.returns-clause-bounds
returns-clause-bounds c = bounds_were c.grow.result c.args.self.now _ c.args.key (c.args.u, c.args.v) c.args.together c.args.apart (returns-clause-ok c)

pub returns-clause-err : goal.returns-clause-err
returns-clause-err c = same_value c.grow.result c.self.inside.nodes c.grow.new.nodes c.self.inside.first _ _ c.args.self.now c.self.view_is c.grow.ensures.err

pub returns-clause-branched : goal.returns-clause-branched
returns-clause-branched c = one_branch c.grow.result c.self.inside.nodes c.grow.new.nodes c.self.inside.first _ _ c.args.key (c.args.u, c.args.v)
    c.args.together c.args.apart c.args.self.now c.self.invariant.linked (invariant_of-self c).linked c.self.view_is c.grow.ensures.ok
