use Rattle.std.proofs.Common.{◌≡◌, arith, take, sym, ap, ◌∙◌}
use Rattle.std.specs.Str.Parse.{digits_value}
use Rattle.std.proofs.lemmas.List.{take_all}
use Rattle.clu_text.proofs.Digits.{next_digit, not_digits}
use Rattle.clu_text.proofs.wide.read_u128.Goals as goal

pub returns-then-not-is_ascii_digit : goal.returns-then-not-is_ascii_digit
returns-then-not-is_ascii_digit c = λ value is.
    not_digits c.args.field.now c.loop-byte.byte-index c.loop-byte-test.true (sym c.is_ascii_digit.ensures.value ∙ c.if-not-is_ascii_digit.true) is.number.digits.1

pub loop-byte-preserved : goal.loop-byte-preserved
loop-byte-preserved c =
    let next = next_digit c.args.field.now c.loop-byte.byte-index c.loop-byte-test.true (sym c.is_ascii_digit.ensures.value ∙ c.if-not-is_ascii_digit.false) c.loop-byte.invariant.digits in
    record { digits = next.digits; sum = omega (arith, next.sum, next.value, c.loop-byte.invariant.sum); small = grind arith }

pub returns : goal.returns
returns c =
    let all : take c.loop-byte.byte-index c.args.field.now ≡ c.args.field.now = take_all _ _ c.loop-byte-test.false in
    let is : c.loop-byte.value ≡ digits_value 10 c.args.field.now = c.loop-byte.invariant.sum ∙ ap (digits_value 10) all in
    record {
      number = record { digits = (grind arith, rw all at c.loop-byte.invariant.digits); value_is = sym is };
      fits = c.loop-byte.invariant.small;
    }
