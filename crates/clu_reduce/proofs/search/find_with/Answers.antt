use Rattle.clu_reduce.proofs.Keeps.{step_keeps}
use Rattle.clu_reduce.proofs.search.find_with.Goals as goal

pub returns-then-reduces-clause-keeps : goal.returns-then-reduces-clause-keeps
returns-then-reduces-clause-keeps g c =
    step_keeps (g.S.Situation.state c.args.state.now) (record { kind = c.args.kind; u = c.args.u; v = c.v-item.result }) c.members-v-items.ensures.valid
    (c.reduces.ensures.0 c.if-reduces.true).holds
