use Rattle.std.proofs.Common.{arith}
use Rattle.clu_reduce.proofs.Labelled.{made_labels}
use Rattle.clu_reduce.proofs.division.first_labels.Goals as goal

pub returns-clause-labels : goal.returns-clause-labels
returns-clause-labels g c = made_labels (g.S.Situation.state c.args.state.now) c.members-members.result.now c.loop-v.labels.items c.loop-v.v-index
    c.members-members.ensures.value c.members-members.ensures.valid (omega arith) c.loop-v.invariant.done
