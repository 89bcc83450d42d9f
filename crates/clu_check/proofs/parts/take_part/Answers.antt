use Rattle.std.proofs.Common.{refl}
use Rattle.std.proofs.lemmas.Bool.{false≢true}
use Rattle.clu_check.proofs.TakePart.{may_of_part, members_of, is_part, settled_of, owned_then}
use Rattle.clu_check.proofs.parts.take_part.Goals as goal

pub returns-then-not-may_be_part-clause-part : goal.returns-then-not-may_be_part-clause-part
returns-then-not-may_be_part-clause-part c = λ earlier owned count. (
  (λ e. absurd (false≢true e)),
  (λ is. c.if-not-may_be_part.ensures.1
      (may_of_part c.args.state.now earlier c.args.part.now c.args.owner.now c.args.number c.requires.members owned is)),
)

pub is_settled_part-requires-clause-within : goal.is_settled_part-requires-clause-within
is_settled_part-requires-clause-within c =
    members_of c.args.state.now c.args.part.now c.args.owner.now c.requires.members (c.if-not-may_be_part.ensures.0 refl)

pub returns-clause-part : goal.returns-clause-part
returns-clause-part c = λ earlier owned count.
    let may = c.if-not-may_be_part.ensures.0 refl in (
      (λ e. is_part c.args.state.now earlier c.args.part.now c.args.owner.now c.args.number c.requires.members owned c.give.new.owner may c.give.ensures count (c.is_settled_part.ensures.0 e)),
      (λ is. c.is_settled_part.ensures.1 (settled_of c.args.state.now earlier c.args.part.now c.args.owner.now c.args.number c.requires.members owned c.give.new.owner may c.give.ensures count is)),
    )

pub returns-clause-owned : goal.returns-clause-owned
returns-clause-owned c = λ earlier owned count e.
    owned_then c.args.state.now earlier c.args.part.now c.args.owner.now c.args.number c.requires.members owned c.give.new.owner
    (c.if-not-may_be_part.ensures.0 refl) c.give.ensures count
