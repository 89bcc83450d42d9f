use Rattle.clu_rows.proofs.TwoSets.{two_sets_hold}
use Rattle.clu_rows.proofs.row.Row.limit.Goals as goal

pub returns-clause-holds : goal.returns-clause-holds
returns-clause-holds c = λ label. two_sets_hold label c.args.self.now.s c.args.self.now.t
