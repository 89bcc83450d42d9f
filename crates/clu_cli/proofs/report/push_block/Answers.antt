use Rattle.std.proofs.Common.{◌∙◌, ap, sym, List, ℕ, Some}
use Rattle.std.specs.Prelude.{codes}
use Rattle.clu_cli.proofs.Printing.{name_more}
use Rattle.clu_cli.proofs.report.push_block.Goals as goal

pub loop-v-preserved : goal.loop-v-preserved
loop-v-preserved g c =
    let name = c.name.ensures.bytes ∙ ap (λ (bs : List ℕ). Some bs) (sym c.as_bytes.ensures) in
    name_more (g.N.Names.names c.args.names.now) c.args.block.now c.args.out.now.items (codes "block") _ _ _ _ c.loop-v.v-index c.v-item.result
    c.loop-v.invariant c.in_ok-push.ensures.items c.in_ok-extend_from_slice-2.ensures.items c.loop-v-test.true c.v-item.is name
