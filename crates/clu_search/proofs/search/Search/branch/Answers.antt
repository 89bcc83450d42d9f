use Rattle.std.proofs.Common.{rules, sym, ap, ◌∙◌, subst}
use Rattle.clu_state.specs.State.{IsFree}
use Rattle.clu_tree.specs.Nodes.{state_at}
use Rattle.clu_search.specs.Search.{AreChildren}
use Rattle.clu_search.specs.declared.search.Search.{Search}
use Rattle.clu_search.proofs.Searching.{along, free_along, leaf_key, no_pair, open_leaf, settled_more, settled_split, with_children, with_nodes, with_states, with_fresh}
use Rattle.clu_search.proofs.search.Search.branch.Goals as goal

pub bound_at-requires : goal.bound_at-requires
bound_at-requires c = record { node = c.requires.above.node; leaf = c.requires.above.leaf }

pub unreachable-requires : goal.unreachable-requires
unreachable-requires c =
    no_pair c.args.self.now c.args.key c.bound_at.result.now c.requires.search c.requires.above c.bound_at.ensures.only c.in_default.is

pub path-requires : goal.path-requires
path-requires c = leaf_key c.args.key c.requires.above.node c.args.self.now.tree.nodes c.requires.above.leaf

pub split_after-requires-clause-path : goal.split_after-requires-clause-path
split_after-requires-clause-path c =
    along c.args.self.now c.args.key c.deref.result.now c.requires.search c.in_ok-path.ensures.valid
    (c.in_ok-path.ensures.state ∙ ap (λ ds. record c.args.self.now.tree.root { decisions = ds }) (sym c.deref.ensures.value))

pub split_after-requires-clause-free : goal.split_after-requires-clause-free
split_after-requires-clause-free c =
    let free : IsFree (state_at c.args.self.now.tree c.args.key) c.in-Some.pair.0 c.in-Some.pair.1 = search rules in
    free_along c.args.self.now c.args.key c.deref.result.now c.in-Some.pair.0 c.in-Some.pair.1 c.requires.search free
    (c.in_ok-path.ensures.state ∙ ap (λ ds. record c.args.self.now.tree.root { decisions = ds }) (sym c.deref.ensures.value))

pub split-requires-clause-open : goal.split-requires-clause-open
split-requires-clause-open c = open_leaf c.args.self.now c.args.key c.requires.search c.requires.above

pub returns-clause-search : goal.returns-clause-search
returns-clause-search c =
    let states = c.split_after.new.self in
    let children = c.in_ok-children.children in
    let are = subst (λ r. AreChildren r children) c.requires.search.states.root c.in_ok-children.ensures.children in
    let one : Search = record c.args.self.now { states = states } in
    let i = with_states c.args.self.now states c.requires.search c.in_ok-children.ensures.states in
    let two : Search = record one { incumbent = c.fresh.new.best; scratch = c.fresh.new.scratch } in
    let first = with_fresh one children.together children.together.decisions c.fresh.new.best c.fresh.new.scratch i are.together
    c.in_ok-together.ensures.known c.in_ok-together.ensures.risen c.in_ok-together.ensures.room in
    let three : Search = record two { incumbent = c.fresh-2.new.best; scratch = c.fresh-2.new.scratch } in
    let second = with_fresh two children.apart children.apart.decisions c.fresh-2.new.best c.fresh-2.new.scratch first are.apart
    c.in_ok-apart.ensures.known c.in_ok-apart.ensures.risen c.in_ok-apart.ensures.room in
    with_children _ children (with_nodes three c.split.new.self _ second c.in_ok-split.ensures.ok
    (settled_split c.fresh-2.new.best.value c.args.self.now.tree.nodes c.split.new.self.nodes _ _ c.in_ok-together.together.bound c.in_ok-apart.apart.bound c.in_ok-split.ensures.bounds
    second.settled
    (settled_more c.fresh.new.best.value c.fresh-2.new.best.value c.in_ok-together.together.bound c.in_ok-apart.ensures.risen c.in_ok-together.ensures.settled)
    c.in_ok-apart.ensures.settled)) are
