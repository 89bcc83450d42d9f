use Rattle.std.proofs.Common.{◌≡◌, ◌<◌, length, get_or, subst, sym, ap, ◌∙◌, arith}
use Rattle.std.proofs.lemmas.Grind.{get_or_default_zero}
use Rattle.clu_state.specs.State.{State, leader}
use Rattle.clu_state.specs.Chains.{IsLeastChained}
use Rattle.clu_state.specs.Rebuilt.{TablesAgree}
use Rattle.clu_state.proofs.ChainLaws.{least_tied}
use Rattle.clu_state.proofs.Joined.{member_below}
use Rattle.clu_state.proofs.rebuilt.RebuiltSituation.group_of.Goals as goal

pub returns-clause-tied : goal.returns-clause-tied
returns-clause-tied c =
    let g = subst (λ (s : State). TablesAgree s c.self.inside.group.items c.self.inside.place.items c.self.inside.weights c.self.inside.apart c.self.inside.fixed) c.self.view_is c.self.invariant in
    let below = member_below c.args.self.now c.args.v g.state c.requires in
    let within : c.args.v < length c.self.inside.group.items = let k = g.group_size in omega (arith, below, k) in
    let read : c.index.result.now ≡ get_or c.self.inside.group.items c.args.v c.index.result.now = c.index.ensures ∙ ap (λ k. get_or c.self.inside.group.items k c.index.result.now) c.v.view_is in
    let e : c.index.result.now ≡ leader c.args.self.now c.args.v = read ∙ get_or_default_zero c.self.inside.group.items c.args.v c.index.result.now within ∙ g.leaders c.args.v below in
    subst (IsLeastChained c.args.self.now c.args.v) (sym e) (least_tied c.args.self.now g.state c.args.v c.requires)
