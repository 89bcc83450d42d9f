use Rattle.std.proofs.Common.{◌∙◌, sym, ap, arith, ◌-◌, suc, ◌≡◌}
use Rattle.clu_rows.specs.Flat.{start_at}
use Rattle.clu_rows.proofs.FlatLaws.{start_next}
use Rattle.clu_rows.proofs.rows.start_of.Goals as goal

pub returns-else-i-eq0 : goal.returns-else-i-eq0
returns-else-i-eq0 c =
    let n = c.if-i-eq0.false in
    let e : suc (c.args.i - 1) ≡ c.args.i = omega (arith, n) in
    sym (start_next 0 c.args.ends.now (c.args.i - 1) _ (let r = c.requires in omega (arith, n, r))) ∙ ap (start_at 0 c.args.ends.now) e
