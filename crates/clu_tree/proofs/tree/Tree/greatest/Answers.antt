use Rattle.clu_tree.proofs.Queued.{best_there, top_greatest}
use Rattle.clu_tree.proofs.tree.Tree.greatest.Goals as goal

pub unwrap-requires : goal.unwrap-requires
unwrap-requires c = c.top.ensures.some.1 (best_there c.self.inside.nodes _ c.self.inside.queue.entries _ _ c.self.invariant.queued c.self.invariant.linked.trees)

pub returns-clause-leaf : goal.returns-clause-leaf
returns-clause-leaf c = (top_greatest c.self.inside.nodes c.self.inside.first _ _ c.self.inside.queue.entries c.args.self.now c.top.result c.unwrap.result
    c.self.invariant c.self.view_is c.top.ensures.best c.unwrap.ensures).leaf

pub returns-clause-others : goal.returns-clause-others
returns-clause-others c = (top_greatest c.self.inside.nodes c.self.inside.first _ _ c.self.inside.queue.entries c.args.self.now c.top.result c.unwrap.result
    c.self.invariant c.self.view_is c.top.ensures.best c.unwrap.ensures).others

pub returns-clause-upper : goal.returns-clause-upper
returns-clause-upper c = (top_greatest c.self.inside.nodes c.self.inside.first _ _ c.self.inside.queue.entries c.args.self.now c.top.result c.unwrap.result
    c.self.invariant c.self.view_is c.top.ensures.best c.unwrap.ensures).upper
