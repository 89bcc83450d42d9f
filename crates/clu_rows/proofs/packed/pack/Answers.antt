use mir.Syntax.{w128}
use Rattle.std.proofs.Common.{◌≡◌, ◌∙◌, ap, sym, subst, arith, to_z, of_z}
use Rattle.std.proofs.lemmas.Int.{ints}
use Rattle.clu_rows.specs.Packing.{Room, IsPacking, IsMaximal}
use Rattle.clu_rows.proofs.Maximal.{maximal}
use Rattle.clu_rows.proofs.PackBound.{bound_small, bound_sound, groups_fit}
use Rattle.clu_rows.proofs.Sound.{packing_rows}
use Rattle.clu_rows.proofs.packed.pack.Goals as goal

pub fill-requires-clause-room : goal.fill-requires-clause-room
fill-requires-clause-room g c =
    let h = groups_fit _ c.as_slice-groups.result.now c.in_ok-leaders.ensures.valid (c.as_slice-groups.ensures ∙ c.in_ok-leaders.ensures.value) in
    let k = ap (λ (room : Room). room.n) c.scratch.view_is in
    omega (arith, h, k, c.requires)

pub returns-clause-rows : goal.returns-clause-rows
returns-clause-rows g c =
    packing_rows (g.S.Situation.state c.args.state.now) c.in_ok-leaders.ensures.valid c.in_ok-rows.rows
    (subst (IsPacking (g.S.Situation.state c.args.state.now)) (sym c.in_ok-rows.ensures) c.in_ok-visit_all.ensures.packed.packing)

pub returns-clause-maximal : goal.returns-clause-maximal
returns-clause-maximal g c =
    subst (IsMaximal (g.S.Situation.state c.args.state.now)) (sym c.in_ok-rows.ensures) (maximal _ _ _ _ c.in_ok-visit_all.ensures.packed c.in_ok-visit_all.ensures.settled)

pub returns-clause-small : goal.returns-clause-small
returns-clause-small g c =
    let shown : to_z w128 (of_z w128 c.bound-bound.result) ≡ c.bound-bound.result = omega (arith, ints) in
    bound_small (g.S.Situation.state c.args.state.now) c.in_ok-leaders.ensures.valid _ c.in_ok-visit_all.ensures.packed.packing _ (shown ∙ c.bound-bound.ensures)

pub returns-clause-sound : goal.returns-clause-sound
returns-clause-sound g c =
    let shown : to_z w128 (of_z w128 c.bound-bound.result) ≡ c.bound-bound.result = omega (arith, ints) in
    bound_sound (g.S.Situation.state c.args.state.now) c.in_ok-leaders.ensures.valid _ c.in_ok-visit_all.ensures.packed.packing _ (shown ∙ c.bound-bound.ensures)
