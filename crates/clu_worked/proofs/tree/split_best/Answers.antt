use Rattle.clu_worked.proofs.Roots.{with_nodes}
use Rattle.clu_worked.proofs.tree.split_best.Goals as goal

pub returns : goal.returns
returns g c = with_nodes _ _ _ c.args.tree.now c.split.new.self _ c.in_ok-split.ensures.ok c.requires
