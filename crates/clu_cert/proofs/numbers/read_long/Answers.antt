use Rattle.std.proofs.Common.{◌^◌, arith}
use Rattle.clu_cert.proofs.Plain.{two_digits}
use Rattle.clu_cert.proofs.numbers.read_long.Goals as goal

pub returns-then-has_leading_zero : goal.returns-then-has_leading_zero
returns-then-has_leading_zero c =
    let zero_first = c.has_leading_zero.ensures.0 c.if-has_leading_zero.true in
    two_digits (2 ^ 64) c.args.field.now (omega arith) zero_first.0 zero_first.1
