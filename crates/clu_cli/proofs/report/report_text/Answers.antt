use Rattle.std.proofs.Common.{◌∙◌}
use Rattle.clu_cli.proofs.Printing.{block_within}
use Rattle.clu_cli.proofs.report.report_text.Goals as goal

pub push_block-requires : goal.push_block-requires
push_block-requires g c =
    block_within c.args.partition.now _ _ _ c.block-item.result _ (c.deref-block-items.ensures.value ∙ c.in_ok-blocks.ensures) c.requires c.loop-block-test.true c.block-item.is c.as_slice.ensures
