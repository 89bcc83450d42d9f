use Rattle.std.proofs.Common.{ℕ, List, [], ◌∷◌, ◌++◌, sym, ap, ◌∙◌}
use Rattle.clu_partition.proofs.Ranges.{below_more}
use Rattle.clu_partition.proofs.vertex.all_vertices.Goals as goal

pub loop-v-preserved : goal.loop-v-preserved
loop-v-preserved c = c.in_ok-push.ensures.ok ∙ ap (λ (vs : List ℕ). vs ++ c.loop-v.v ∷ []) c.loop-v.invariant ∙ sym (below_more c.loop-v.v)
