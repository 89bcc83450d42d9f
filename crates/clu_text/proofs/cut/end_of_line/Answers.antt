use Rattle.std.proofs.Common.{sym, arith}
use Rattle.std.proofs.lemmas.Bool.{false_from_ne_true}
use Rattle.std.proofs.lemmas.List.Sums.{position_or_len_is}
use Rattle.clu_text.specs.Lines.{is_line_feed}
use Rattle.clu_text.proofs.cut.end_of_line.Goals as goal

pub returns-in-Some-clause-is : goal.returns-in-Some-clause-is
returns-in-Some-clause-is c =
    sym (position_or_len_is is_line_feed c.args.bytes.now c.in-Some.end 0 (omega (arith, c.in-Some.ensures.0.high)) (λ k h. false_from_ne_true _ (c.in-Some.ensures.0.before k (omega arith) h)) (λ _. c.in-Some.ensures.1))

pub returns-in-None-clause-is : goal.returns-in-None-clause-is
returns-in-None-clause-is c =
    sym (position_or_len_is is_line_feed c.args.bytes.now _ 0 (omega arith) (λ k h. false_from_ne_true _ (c.in-None.ensures k (omega arith) h)) (λ h. absurd (omega arith)))
