use Rattle.std.proofs.Common.{◌≡◌, rules, inl, inr, None, Some, of_z, to_z, neg_ℤ, pos}
use Rattle.std.specs.Int.{w128}
use Rattle.clu_cert.proofs.Plain.{minus_none, minus_out, below_zero, whole_at}
use Rattle.clu_cert.proofs.numbers.read_whole.Goals as goal

pub returns-in_default : goal.returns-in_default
returns-in_default c = whole_at c.args.field.now c.in-Some.rest.now None c.in-Some.ensures (minus_none c.in-Some.rest.now c.in_default.ensures)

pub returns-then-size-eq0 : goal.returns-then-size-eq0
returns-then-size-eq0 c = whole_at c.args.field.now c.in-Some.rest.now None c.in-Some.ensures
    (minus_out c.in-Some.rest.now c.in-Some-read_number.size c.in-Some-read_number.ensures (inl c.if-size-eq0.true))

pub returns-then-size-gt-LIMIT : goal.returns-then-size-gt-LIMIT
returns-then-size-gt-LIMIT c = whole_at c.args.field.now c.in-Some.rest.now None c.in-Some.ensures
    (minus_out c.in-Some.rest.now c.in-Some-read_number.size c.in-Some-read_number.ensures (inr c.if-size-gt-LIMIT.true))

pub returns-else-size-gt-LIMIT : goal.returns-else-size-gt-LIMIT
returns-else-size-gt-LIMIT c =
    let z = to_z w128 (of_z w128 c.negative.result) in
    let e : z ≡ neg_ℤ (pos c.in-Some-read_number.size) = search (rules, c.negative.ensures) in
    whole_at c.args.field.now c.in-Some.rest.now (Some z) c.in-Some.ensures
    (below_zero c.in-Some.rest.now c.in-Some-read_number.size z c.in-Some-read_number.ensures c.if-size-eq0.false c.if-size-gt-LIMIT.false e)
