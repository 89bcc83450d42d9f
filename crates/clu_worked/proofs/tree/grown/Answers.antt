use Rattle.std.proofs.Common.{◌∙◌, ap, subst, sym}
use Rattle.clu_partition.specs.Partition.{below}
use Rattle.clu_state.proofs.Whole.{all_members}
use Rattle.clu_state.specs.State.{AreMembers}
use Rattle.clu_worked.proofs.tree.grown.Goals as goal

pub rooted-requires-clause-members : goal.rooted-requires-clause-members
rooted-requires-clause-members g c =
    subst (AreMembers c.args.start.now) (sym (c.as_slice-members.ensures ∙ c.in_ok-vertices.ensures ∙ ap below c.n-n.ensures.value)) (all_members c.args.start.now c.n-n.ensures.closed)
