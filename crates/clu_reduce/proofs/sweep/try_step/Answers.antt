use Rattle.clu_reduce.proofs.Runs.{swept_one}
use Rattle.clu_reduce.proofs.sweep.try_step.Goals as goal

pub returns-clause-swept : goal.returns-clause-swept
returns-clause-swept g c =
    swept_one (g.S.Situation.state c.args.state.now) (g.S.Situation.state c.decide.new.self) c.args.steps.now c.push.new.self c.args.step.now
    c.decision-decision.result c.members-members.ensures.valid (c.is_due.ensures.0 c.if-not-is_due.false).reduces.holds c.decision-decision.ensures
    c.in_ok-decide.ensures.ok c.in_ok-push.ensures.ok
