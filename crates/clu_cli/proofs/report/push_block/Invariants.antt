use Rattle.std.proofs.Common.{◌≡◌, ◌++◌, take}
use Rattle.std.specs.Prelude.{codes}
use Rattle.std.specs.List.{flat_map}
use Rattle.clu_cli.specs.Report.{named}
use Rattle.clu_cli.proofs.report.push_block.Given as goal

abbrev pub invariant-loop-v : goal.invariant-loop-v
invariant-loop-v g l = l.out.items ≡ l.fn.out.items ++ (codes "block" ++ flat_map (named (g.N.Names.names l.names)) (take l.v-index l.block))
