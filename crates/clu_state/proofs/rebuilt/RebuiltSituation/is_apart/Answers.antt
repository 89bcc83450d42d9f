use Rattle.std.proofs.Common.{arith, subst, ◌∙◌}
use Rattle.clu_state.specs.State.{State}
use Rattle.clu_state.specs.Rebuilt.{TablesAgree}
use Rattle.clu_state.proofs.Told.{apart_at}
use Rattle.clu_state.proofs.rebuilt.RebuiltSituation.is_apart.Goals as goal

pub has_at-requires-clause-first : goal.has_at-requires-clause-first
has_at-requires-clause-first c =
    let g = subst (λ (s : State). TablesAgree s c.self.inside.group.items c.self.inside.place.items c.self.inside.weights c.self.inside.apart c.self.inside.fixed) c.self.view_is c.self.invariant in
    let p = c.place_of_group-p.ensures.within in
    let k = g.marks_size in
    omega (arith, p, k)

pub has_at-requires-clause-second : goal.has_at-requires-clause-second
has_at-requires-clause-second c =
    let g = subst (λ (s : State). TablesAgree s c.self.inside.group.items c.self.inside.place.items c.self.inside.weights c.self.inside.apart c.self.inside.fixed) c.self.view_is c.self.invariant in
    let p = c.place_of_group-q.ensures.within in
    let k = g.marks_size in
    omega (arith, p, k)

pub returns : goal.returns
returns c =
    let g = subst (λ (s : State). TablesAgree s c.self.inside.group.items c.self.inside.place.items c.self.inside.weights c.self.inside.apart c.self.inside.fixed) c.self.view_is c.self.invariant in
    let k = apart_at c.args.self.now c.self.inside.group.items c.self.inside.place.items c.self.inside.weights c.self.inside.apart c.self.inside.fixed c.args.u c.args.v c.place_of_group-p.result c.place_of_group-q.result g c.requires.first c.requires.second c.requires.differ c.place_of_group-p.ensures c.place_of_group-q.ensures in
    c.has_at.ensures ∙ k
