use Rattle.std.proofs.Common.{subst}
use Rattle.std.proofs.lemmas.Result.{IfOk-weaker}
use Rattle.clu_state.specs.State.{IsState}
use Rattle.clu_tree.specs.Nodes.{MayStand}
use Rattle.clu_worked.proofs.Roots.{planted}
use Rattle.clu_worked.proofs.tree.rooted.Goals as goal

pub new-requires-clause-state : goal.new-requires-clause-state
new-requires-clause-state g c = subst IsState c.in_ok-state.ensures c.members-members.ensures.valid

pub new-requires-clause-fit : goal.new-requires-clause-fit
new-requires-clause-fit g c = subst (λ s. MayStand s c.in_ok-root.root) c.in_ok-state.ensures c.in_ok-root.ensures

pub returns : goal.returns
returns g c =
    IfOk-weaker c.new.result _ _ (λ t e. planted c.args.pairs.now c.args.start.now c.args.members.now c.args.given.now t _ e.1) c.new.ensures
