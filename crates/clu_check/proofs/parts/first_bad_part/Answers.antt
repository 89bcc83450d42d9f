use Rattle.std.proofs.Common.{ℕ, List, [], ◌∷◌, ◌++◌, take, sym, subst, refl}
use Rattle.std.proofs.lemmas.Bool.{false≢true}
use Rattle.clu_cert.specs.Valid.{IsPart}
use Rattle.clu_check.specs.Parts.{AreOwned}
use Rattle.clu_check.proofs.Parting.{parts, next_number, taken_more, first_bad}
use Rattle.clu_check.proofs.parts.first_bad_part.Goals as goal

pub returns-then-not-take_part-clause-bad : goal.returns-then-not-take_part-clause-bad
returns-then-not-take_part-clause-bad c =
    let i = c.loop-i.i in
    let earlier = parts (take i c.args.proofs.now) in
    let judged = c.if-not-take_part.ensures.part earlier c.loop-i.invariant.owned (next_number c.args.proofs.now i c.loop-i-test.true) in
    first_bad c.args.state.now c.args.proofs.now i c.index-proofs-i.result c.args.owner.now c.loop-i.owner c.loop-i-test.true
    (sym c.index-proofs-i.is) c.loop-i.invariant
    (λ is. false≢true (judged.1 (subst (IsPart c.args.state.now earlier) (sym c.as_slice.ensures) is)))

pub loop-i-preserved : goal.loop-i-preserved
loop-i-preserved c =
    let i = c.loop-i.i in
    let earlier = parts (take i c.args.proofs.now) in
    let number = next_number c.args.proofs.now i c.loop-i-test.true in
    let judged = c.if-not-take_part.ensures.part earlier c.loop-i.invariant.owned number in
    let then = c.if-not-take_part.ensures.owned earlier c.loop-i.invariant.owned number refl in
    taken_more c.args.state.now c.args.proofs.now i c.index-proofs-i.result c.args.owner.now c.loop-i.owner c.take_part.new.owner c.loop-i-test.true (sym c.index-proofs-i.is) c.loop-i.invariant
    (subst (IsPart c.args.state.now earlier) c.as_slice.ensures (judged.0 refl))
    (subst (λ (p : List ℕ). AreOwned (earlier ++ p ∷ []) c.take_part.new.owner) c.as_slice.ensures then)
    c.take_part.ensures.size
