use Rattle.std.proofs.Common.{◌≡◌, ◌∙◌, ℕ, List, [], ◌∷◌, sym}
use Rattle.clu_state.specs.State.{group_leaders}
use Rattle.clu_cuts.specs.declared.point.Cut.{Cut}
use Rattle.clu_cuts.specs.Point.{AreGroups, TwoSetAt}
use Rattle.clu_cuts.specs.Stars.{claws_at}
use Rattle.clu_cuts.specs.Cuts.{AreCuts, IsClaw}
use Rattle.clu_cuts.proofs.Complete.{claws_obeyed}
use Rattle.clu_cuts.proofs.Different.{claws_found}
use Rattle.clu_cuts.proofs.Front.{over_first}
use Rattle.clu_cuts.proofs.separate.violated_claws.Goals as goal

pub returns-clause-none : goal.returns-clause-none
returns-clause-none g c =
    let s = g.S.Situation.state c.args.state.now in
    let p = c.args.point.now in
    over_first p c.in_ok-shares.shares.point.now c.in_ok-shares.ensures.point claws_at _ (group_leaders s) (λ (cuts : List Cut). cuts ≡ [] → (a b c' d : ℕ) → AreGroups s (a ∷ b ∷ c' ∷ d ∷ []) → TwoSetAt p (a ∷ []) (b ∷ c' ∷ d ∷ []))
    c.all_claws.result (c.in_ok-shares.ensures.groups ∙ c.as_slice.ensures ∙ c.in_ok-leaders.ensures.value) (λ cuts is none. claws_obeyed s p c.in_ok-leaders.ensures.valid (sym is ∙ none)) c.all_claws.ensures

pub returns-clause-found : goal.returns-clause-found
returns-clause-found g c =
    let s = g.S.Situation.state c.args.state.now in
    let p = c.args.point.now in
    over_first p c.in_ok-shares.shares.point.now c.in_ok-shares.ensures.point claws_at _ (group_leaders s) (AreCuts (IsClaw s) p)
    c.all_claws.result (c.in_ok-shares.ensures.groups ∙ c.as_slice.ensures ∙ c.in_ok-leaders.ensures.value) (λ cuts is. claws_found s p cuts c.in_ok-leaders.ensures.valid c.requires.point is) c.all_claws.ensures
