use Rattle.std.proofs.Common.{codes}
use Rattle.clu_cert.proofs.Joins.{numbers_pushed}
use Rattle.clu_cert.proofs.write.push_blocks.Goals as goal

pub returns : goal.returns
returns c = numbers_pushed c.args.out.now.items c.extend_from_slice.new.self.items c.push_labels.new.out.items c.push.new.self.items
    (codes "blocks") c.args.labels.now c.in_ok-extend_from_slice.ensures.items c.in_ok-push_labels.ensures c.in_ok-push.ensures.items
