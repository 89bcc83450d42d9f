use Rattle.std.proofs.Common.{refl}
use Rattle.clu_check.proofs.TreeReads.{enters, takes_branch}
use Rattle.clu_check.proofs.tree.Reading.enter.Goals as goal

pub returns-clause-reading : goal.returns-clause-reading
returns-clause-reading c = enters c.args.self.now _ c.args.u c.args.v c.requires.reading c.requires.some c.requires.free refl refl
    c.in_ok-push.ensures.items c.in_ok-decide.ensures.ok

pub returns-clause-read : goal.returns-clause-read
returns-clause-read c = takes_branch c.args.self.now _ c.args.u c.args.v c.requires.reading c.requires.some c.requires.free refl refl
    c.in_ok-push.ensures.items c.in_ok-decide.ensures.ok refl
