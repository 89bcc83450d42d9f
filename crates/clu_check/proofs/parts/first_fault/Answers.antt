use Rattle.std.proofs.Common.{inr, refl}
use Rattle.std.proofs.lemmas.Bool.{false≢true}
use Rattle.clu_check.proofs.Parting.{covered, one_left, members_still, parts}
use Rattle.clu_check.proofs.Sharing.{numbered}
use Rattle.clu_check.proofs.parts.first_fault.Goals as goal

pub returns-then-is_one_left-clause-fault : goal.returns-then-is_one_left-clause-fault
returns-then-is_one_left-clause-fault c =
    inr (one_left c.args.state.now c.args.proofs.now c.first_bad_part.new.owner
    (members_still c.args.state.now.members c.args.owner.now c.first_bad_part.new.owner c.requires.members c.first_bad_part.ensures.size)
    c.in_default.ensures.right c.in_default.ensures.owned (c.if-is_one_left.ensures.0 refl))

pub returns-clause-right : goal.returns-clause-right
returns-clause-right c = (
  c.in_default.ensures.right,
  covered c.args.state.now (parts c.args.proofs.now) c.first_bad_part.new.owner
      (members_still c.args.state.now.members c.args.owner.now c.first_bad_part.new.owner c.requires.members c.first_bad_part.ensures.size)
      c.in_default.ensures.owned (λ h. false≢true (c.if-is_one_left.ensures.1 h)),
)

pub returns-clause-numbered : goal.returns-clause-numbered
returns-clause-numbered c =
    numbered c.args.state.now (parts c.args.proofs.now) c.first_bad_part.new.owner c.in_default.ensures.right c.in_default.ensures.owned
    (λ h. false≢true (c.if-is_one_left.ensures.1 h))
