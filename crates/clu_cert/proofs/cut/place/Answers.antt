use Rattle.std.proofs.Common.{sym, arith}
use Rattle.std.proofs.lemmas.Bool.{false_from_ne_true}
use Rattle.std.proofs.lemmas.List.Sums.{position_or_len_is}
use Rattle.clu_cert.specs.Cut.{is_byte}
use Rattle.clu_cert.proofs.cut.place.Goals as goal

pub returns-in-Some-clause-is : goal.returns-in-Some-clause-is
returns-in-Some-clause-is c =
    let found = c.in-Some.ensures in
    sym (position_or_len_is (is_byte c.args.by) c.args.bytes.now c.in-Some.place 0 (omega (arith, found.0.high))
    (λ k h. false_from_ne_true _ (found.0.before k (omega arith) h)) (λ _. found.1))

pub returns-in-None-clause-is : goal.returns-in-None-clause-is
returns-in-None-clause-is c =
    sym (position_or_len_is (is_byte c.args.by) c.args.bytes.now _ 0 (omega arith)
    (λ k h. false_from_ne_true _ (c.in-None.ensures k (omega arith) h)) (λ h. absurd (omega arith)))
