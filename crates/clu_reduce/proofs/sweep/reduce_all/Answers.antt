use Rattle.std.proofs.Common.{List, refl, sym, subst}
use Rattle.clu_state.specs.State.{State}
use Rattle.clu_reduce.specs.Reduction.{KeepsWorth}
use Rattle.clu_reduce.specs.Sweep.{StepsLeadTo}
use Rattle.clu_reduce.specs.declared.step.Step.{Step}
use Rattle.clu_reduce.proofs.Keeps.{steps_keep}
use Rattle.clu_reduce.proofs.sweep.reduce_all.Goals as goal

pub returns-clause-keeps : goal.returns-clause-keeps
returns-clause-keeps g c =
    let old = g.S.Situation.state c.args.state.now in
    let l = c.in_ok-sweep_all.ensures.leads old
    (subst (λ (steps : List Step). StepsLeadTo old steps old) (sym c.new-steps.ensures) (record { held = tt; state = refl })) in
    subst (λ (s : State). KeepsWorth old s) (sym l.state) (steps_keep old c.sweep_all.new.steps c.members-members.ensures.valid l.held)
