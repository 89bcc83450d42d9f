use Rattle.std.proofs.Common.{sym, ◌∙◌}
use Rattle.std.proofs.lemmas.Bool.{false≢true}
use Rattle.clu_text.proofs.Digits.{next_digit, not_digits}
use Rattle.clu_text.proofs.digit_runs.are_digits.Goals as goal

pub returns-then-not-is_ascii_digit : goal.returns-then-not-is_ascii_digit
returns-then-not-is_ascii_digit c = (
  (λ t. absurd (false≢true t)),
  λ digits. absurd (not_digits c.args.bytes.now c.loop-byte.byte-index c.loop-byte-test.true (sym c.is_ascii_digit.ensures.value ∙ c.if-not-is_ascii_digit.true) digits),
)

pub loop-byte-preserved : goal.loop-byte-preserved
loop-byte-preserved c =
    (next_digit c.args.bytes.now c.loop-byte.byte-index c.loop-byte-test.true (sym c.is_ascii_digit.ensures.value ∙ c.if-not-is_ascii_digit.false) c.loop-byte.invariant).digits
