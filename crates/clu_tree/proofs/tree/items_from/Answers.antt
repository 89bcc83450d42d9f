use Rattle.std.proofs.Common.{sym, ◌∙◌, subst}
use Rattle.std.specs.List.{AllByRecursion}
use Rattle.clu_tree.specs.Items.{RowsCounted}
use Rattle.clu_tree.proofs.Arena.{left_step}
use Rattle.clu_tree.proofs.Fitting.{counted_more}
use Rattle.clu_tree.proofs.tree.items_from.Goals as goal

pub loop-node-preserved : goal.loop-node-preserved
loop-node-preserved c = (
  left_step c.loop-node.nodes c.try_remove.new.self c.loop-node.at c.in-Some.node _ _ _ c.loop-node.invariant.0
      (sym c.try_remove.ensures.value ∙ c.in-Some.is) c.try_remove.ensures.updates c.in-Some.ensures.len c.in_ok-push_node.ensures.value,
  subst (AllByRecursion RowsCounted) (sym c.in_ok-push_node.ensures.value)
      (counted_more _ c.in-Some.node.steps _ c.loop-node.invariant.1 c.in_ok-push_node.ensures.counted),
)
