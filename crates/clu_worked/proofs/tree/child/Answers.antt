use Rattle.std.proofs.Common.{◌∙◌, ap, subst, sym, IfOk}
use Rattle.clu_state.specs.State.{IsState, decided}
use Rattle.clu_tree.specs.Nodes.{MayStand}
use Rattle.clu_worked.proofs.Roots.{after}
use Rattle.clu_worked.proofs.tree.child.Goals as goal

pub rebuilt-requires-clause-one_size : goal.rebuilt-requires-clause-one_size
rebuilt-requires-clause-one_size g c =
    (subst IsState (c.in_ok-path.ensures.state ∙ after _ _ _ c.args.tree.now c.in_ok-path.path.items c.requires.root) c.in_ok-path.ensures.valid).one_size

pub rebuilt-requires-clause-total : goal.rebuilt-requires-clause-total
rebuilt-requires-clause-total g c =
    (subst IsState (c.in_ok-path.ensures.state ∙ after _ _ _ c.args.tree.now c.in_ok-path.path.items c.requires.root) c.in_ok-path.ensures.valid).total

pub rebuilt-requires-clause-members : goal.rebuilt-requires-clause-members
rebuilt-requires-clause-members g c =
    (subst IsState (c.in_ok-path.ensures.state ∙ after _ _ _ c.args.tree.now c.in_ok-path.path.items c.requires.root) c.in_ok-path.ensures.valid).members

pub returns : goal.returns
returns g c =
    let built =
    c.in_ok-state.ensures
    ∙ ap (λ ds. record { pairs = c.args.pairs.now; start = c.args.start.now; members = c.args.members.now; decisions = ds }) c.deref.ensures.value
    ∙ sym (c.in_ok-path.ensures.state ∙ after _ _ _ c.args.tree.now c.in_ok-path.path.items c.requires.root) in
    subst (λ s. IfOk c.fresh.result (λ fresh. MayStand s fresh)) (c.in_ok-decide.ensures ∙ ap (λ s. decided s c.args.last) built) c.fresh.ensures
