use Rattle.std.proofs.Common.{arith, sym, ◌∙◌}
use Rattle.clu_text.proofs.Digits.{next_digit, not_digits}
use Rattle.clu_text.proofs.digit_runs.digits_below.Goals as goal

pub returns-then-not-is_ascii_digit : goal.returns-then-not-is_ascii_digit
returns-then-not-is_ascii_digit c = λ digits _.
    not_digits c.args.digits.now c.loop-byte.byte-index c.loop-byte-test.true (sym c.is_ascii_digit.ensures.value ∙ c.if-not-is_ascii_digit.true) digits

pub loop-byte-preserved : goal.loop-byte-preserved
loop-byte-preserved c =
    let next = next_digit c.args.digits.now c.loop-byte.byte-index c.loop-byte-test.true (sym c.is_ascii_digit.ensures.value ∙ c.if-not-is_ascii_digit.false) c.loop-byte.invariant.digits in
    record { digits = next.digits; sum = omega (arith, next.sum, next.value, c.loop-byte.invariant.sum); small = grind arith }
