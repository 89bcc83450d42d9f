use Rattle.std.proofs.Common.{rules}
use Rattle.clu_state.proofs.Built.{marked_pair}
use Rattle.clu_state.proofs.build.mark_pair.Goals as goal

pub returns-clause-marked : goal.returns-clause-marked
returns-clause-marked c = λ x z lx lz.
    marked_pair c.args.members.now c.args.place.now c.args.marks.now c.put_at.new.self c.args.u c.args.v c.place_of.result c.place_of-2.result x z c.put_at.ensures.grid c.requires.size c.requires.places
    (c.if-not-is_member.ensures.0 (search rules)) (c.if-not-is_member-2.ensures.0 (search rules)) c.place_of.ensures c.place_of-2.ensures c.put_at.ensures.put lx lz
