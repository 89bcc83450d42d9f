use Rattle.std.proofs.Common.{length, slice_index, arith, subst, sym, ap, ap₂, ◌∙◌}
use Rattle.clu_state.specs.State.{State}
use Rattle.clu_state.specs.Rebuilt.{TablesAgree, IsGroupPlace}
use Rattle.clu_state.proofs.Joined.{member_below}
use Rattle.clu_state.proofs.Separated.{parts}
use Rattle.clu_state.proofs.Told.{group_found}
use Rattle.clu_state.proofs.rebuilt.Rebuilt.place_of_group.Goals as goal

pub home-requires-clause-group : goal.home-requires-clause-group
home-requires-clause-group c =
    let g = subst (λ (s : State). TablesAgree s c.self.inside.group.items c.self.inside.place.items c.self.inside.weights c.self.inside.apart c.self.inside.fixed) c.self.view_is c.self.invariant in
    let p = (parts c.args.self.now c.self.inside.group.items c.self.inside.place.items c.self.inside.weights c.self.inside.apart c.self.inside.fixed c.args.v g c.requires).below in
    let d = ap length c.deref.ensures.value in
    omega (arith, p, d)

pub home-requires-clause-place : goal.home-requires-clause-place
home-requires-clause-place c =
    let g = subst (λ (s : State). TablesAgree s c.self.inside.group.items c.self.inside.place.items c.self.inside.weights c.self.inside.apart c.self.inside.fixed) c.self.view_is c.self.invariant in
    let p = (parts c.args.self.now c.self.inside.group.items c.self.inside.place.items c.self.inside.weights c.self.inside.apart c.self.inside.fixed c.args.v g c.requires).leader_below in
    let d = ap (λ xs. slice_index xs c.args.v) c.deref.ensures.value in
    let l = ap length c.deref-2.ensures.value in
    omega (arith, p, d, l)

pub returns : goal.returns
returns c =
    let g = subst (λ (s : State). TablesAgree s c.self.inside.group.items c.self.inside.place.items c.self.inside.weights c.self.inside.apart c.self.inside.fixed) c.self.view_is c.self.invariant in
    let e = c.home.ensures ∙ ap₂ (λ xs ys. slice_index ys (slice_index xs c.args.v)) c.deref.ensures.value c.deref-2.ensures.value
    ∙ ap (slice_index c.self.inside.place.items) (g.leaders c.args.v (member_below c.args.self.now c.args.v g.state c.requires)) in
    subst (IsGroupPlace c.args.self.now c.args.v) (sym e) (group_found c.args.self.now c.self.inside.group.items c.self.inside.place.items c.self.inside.weights c.self.inside.apart c.self.inside.fixed c.args.v g c.requires)
