use Rattle.std.proofs.Common.{codes}
use Rattle.clu_cert.proofs.Joins.{numbers_pushed}
use Rattle.clu_cert.proofs.write.push_part.Goals as goal

pub returns : goal.returns
returns c = numbers_pushed c.args.out.now.items c.extend_from_slice.new.self.items c.push_vertices.new.out.items c.push.new.self.items
    (codes "part") c.args.part.now c.in_ok-extend_from_slice.ensures.items c.in_ok-push_vertices.ensures c.in_ok-push.ensures.items
