use Rattle.std.proofs.Common.{◌≡◌, ◌++◌, map, drop}
use Rattle.clu_cert.specs.declared.certificate.Item.TheVariants.{Reduce}
use Rattle.clu_tree.proofs.tree.push_node.Given as goal

abbrev pub invariant-loop-step : goal.invariant-loop-step
invariant-loop-step l = l.items ++ map Reduce (drop l.step-index l.fn.node.steps) ≡ l.initial.items ++ map Reduce l.fn.node.steps
