use mir.Syntax.{w128}
use Rattle.std.proofs.Common.{◌≡◌, ◌++◌, ℤ, sym, subst, arith, to_z, of_z}
use Rattle.std.proofs.lemmas.Int.{ints}
use Rattle.std.specs.Prelude.{OnOk, codes}
use Rattle.std.specs.Fmt.{signed_decimal}
use Rattle.clu_check.specs.declared.reject.Reject.{Reject}
use Rattle.clu_cli.specs.Lines.{line}
use Rattle.clu_cli.specs.Status.{reject_line}
use Rattle.clu_cli.proofs.stop.push_reject.Goals as goal

pub returns-in-Value : goal.returns-in-Value
returns-in-Value c =
    let is : to_z w128 (of_z w128 c.in-Value.found) ≡ c.in-Value.found = omega (arith, ints) in
    subst (λ (r : Reject). OnOk c.push_signed.result (c.push_signed.new.out.items ≡ c.args.out.now.items ++ reject_line r)) (sym c.in-Value.is)
    (subst (λ (z : ℤ). OnOk c.push_signed.result (c.push_signed.new.out.items ≡ c.args.out.now.items ++ line (codes "clu: rejected 4 " ++ signed_decimal z))) is c.push_signed.ensures)

pub returns-in-Bound : goal.returns-in-Bound
returns-in-Bound c =
    let is : to_z w128 (of_z w128 c.in-Bound.found) ≡ c.in-Bound.found = omega (arith, ints) in
    subst (λ (r : Reject). OnOk c.push_signed-in-Bound.result (c.push_signed-in-Bound.new.out.items ≡ c.args.out.now.items ++ reject_line r)) (sym c.in-Bound.is)
    (subst (λ (z : ℤ). OnOk c.push_signed-in-Bound.result (c.push_signed-in-Bound.new.out.items ≡ c.args.out.now.items ++ line (codes "clu: rejected 9 " ++ signed_decimal z))) is
    c.push_signed-in-Bound.ensures)
