use Rattle.clu_worked.proofs.tree.has_best.Goals as goal

pub bound_at-requires : goal.bound_at-requires
bound_at-requires c = let leaf = c.in-Some.ensures.some in record { node = leaf.0; leaf = leaf.1 }
