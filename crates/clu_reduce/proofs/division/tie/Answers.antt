use Rattle.clu_reduce.proofs.Labelled.{tied_by}
use Rattle.clu_reduce.proofs.division.tie.Goals as goal

pub returns-then-is_near-clause-labels : goal.returns-then-is_near-clause-labels
returns-then-is_near-clause-labels g c = (tied_by (g.S.Situation.state c.args.state.now) c.args.labels.now.items c.join.new.labels.items c.args.a c.args.b c.requires.size c.requires.labels (c.is_near.ensures.0 c.if-is_near.true) c.join.ensures.merged).labels
