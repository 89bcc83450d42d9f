use Rattle.std.proofs.Common.{◌≡◌, ◌∙◌, ℕ, List, [], ◌∷◌, sym}
use Rattle.clu_state.specs.State.{group_leaders}
use Rattle.clu_cuts.specs.declared.point.Cut.{Cut}
use Rattle.clu_cuts.specs.Point.{AreGroups, TwoSetAt}
use Rattle.clu_cuts.specs.Stars.{triangles_at}
use Rattle.clu_cuts.specs.Cuts.{AreCuts, IsTriangle}
use Rattle.clu_cuts.proofs.Complete.{triangles_obeyed}
use Rattle.clu_cuts.proofs.Different.{triangles_found}
use Rattle.clu_cuts.proofs.Front.{over_first}
use Rattle.clu_cuts.proofs.separate.violated_triangles.Goals as goal

pub returns-clause-found : goal.returns-clause-found
returns-clause-found g c =
    let s = g.S.Situation.state c.args.state.now in
    let p = c.args.point.now in
    over_first p c.in_ok-shares.shares.point.now c.in_ok-shares.ensures.point triangles_at _ (group_leaders s) (AreCuts (IsTriangle s) p)
    c.all_triangles.result (c.in_ok-shares.ensures.groups ∙ c.as_slice.ensures ∙ c.in_ok-leaders.ensures.value) (λ cuts is. triangles_found s p cuts c.in_ok-leaders.ensures.valid c.requires.point is) c.all_triangles.ensures

pub returns-clause-none : goal.returns-clause-none
returns-clause-none g c =
    let s = g.S.Situation.state c.args.state.now in
    let p = c.args.point.now in
    over_first p c.in_ok-shares.shares.point.now c.in_ok-shares.ensures.point triangles_at _ (group_leaders s) (λ (cuts : List Cut). cuts ≡ [] → (a b c' : ℕ) → AreGroups s (a ∷ b ∷ c' ∷ []) → TwoSetAt p (a ∷ []) (b ∷ c' ∷ []))
    c.all_triangles.result (c.in_ok-shares.ensures.groups ∙ c.as_slice.ensures ∙ c.in_ok-leaders.ensures.value) (λ cuts is none. triangles_obeyed s p c.in_ok-leaders.ensures.valid (sym is ∙ none)) c.all_triangles.ensures
