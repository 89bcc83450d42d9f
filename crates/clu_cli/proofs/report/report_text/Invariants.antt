use Rattle.std.proofs.Common.{◌≡◌, ◌++◌, take}
use Rattle.std.specs.List.{flat_map}
use Rattle.clu_partition.specs.Partition.{block_count_of}
use Rattle.clu_cli.specs.Report.{head, block_line}
use Rattle.clu_cli.proofs.report.report_text.Given as goal

abbrev pub invariant-loop-block : goal.invariant-loop-block
invariant-loop-block g l = l.out.items ≡ head l.fn.facts (block_count_of l.partition) ++ flat_map (block_line (g.N.Names.names l.names)) (take l.block-index l.block-items)
