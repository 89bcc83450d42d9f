use Rattle.std.proofs.Common.{◌↔◌, ◌∙◌, IsTrue, Contains, ap, subst}
use Rattle.clu_state.specs.State.{State}
use Rattle.clu_state.proofs.rebuilt.RebuiltSituation.has_member.Goals as goal

pub returns : goal.returns
returns c = subst (λ ms. IsTrue c.is_member.result ↔ Contains ms c.args.v) (c.deref.ensures.value ∙ ap (λ (s : State). s.members) c.self.view_is) c.is_member.ensures
