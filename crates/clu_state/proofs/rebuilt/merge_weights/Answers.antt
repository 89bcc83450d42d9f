use Rattle.std.proofs.Common.{◌+◌, ◌≡◌, ◌≢◌, ℕ, slice_index, subst, sym, ◌∙◌, Bool, IsTrue, ◌↔◌, true, false, List}
use Rattle.std.proofs.lemmas.Grind.{get_or_default_zero}
use Rattle.clu_state.proofs.MergeLoop.{MergedTo, step_skip, step_add}
use Rattle.clu_state.proofs.rebuilt.merge_weights.Goals as goal
use Rattle.clu_state.proofs.rebuilt.merge_weights.Goals.{then-leads_apart, else-leads_apart}

Live : List ℕ → ℕ → ℕ → ℕ → ℕ → Type 0
Live group v j low high = (slice_index group v ≡ v) × ((j ≢ low) × (j ≢ high))

is_live : (b : Bool) (P : Type 0) → (IsTrue b ↔ P) → b ≡ true → P
is_live b P e t = e.0 t

not_live : (b : Bool) (P : Type 0) → (IsTrue b ↔ P) → b ≡ false → P → ⊥
not_live b P e f p = let t = e.1 p in cc

pub loop-j-preserved : goal.loop-j-preserved
unfolding Live
loop-j-preserved c =
    let at' : c.index-members-j.result ≡ slice_index c.args.members.now c.loop-j.j = c.index-members-j.is ∙ get_or_default_zero c.args.members.now c.loop-j.j c.index-members-j.result c.loop-j-test.true in
    elim c.if-leads_apart.branch [
      | then-leads_apart w ↦
          let p : Live c.args.group.now c.index-members-j.result c.loop-j.j c.args.low c.args.high = is_live c.leads_apart.result (Live c.args.group.now c.index-members-j.result c.loop-j.j c.args.low c.args.high) c.leads_apart.ensures w.if-leads_apart.true in
          subst (λ x. MergedTo c.args.weights.now x c.args.members.now c.args.group.now c.args.low c.args.high (c.loop-j.j + 1)) (sym w.weights-is)
          (step_add c.args.weights.now c.loop-j.weights w.add_weight.new.weights c.args.members.now c.args.group.now c.args.low c.args.high c.loop-j.j c.requires.sizes w.add_weight.ensures.table c.loop-j-test.true c.requires.low c.requires.high c.requires.differ p.1.0 p.1.1 w.add_weight.ensures.changed c.loop-j.invariant)
      | else-leads_apart w ↦
          subst (λ x. MergedTo c.args.weights.now x c.args.members.now c.args.group.now c.args.low c.args.high (c.loop-j.j + 1)) (sym w.weights-is)
          (step_skip c.args.weights.now c.loop-j.weights c.args.members.now c.args.group.now c.args.low c.args.high c.loop-j.j
          (subst (λ v. Live c.args.group.now v c.loop-j.j c.args.low c.args.high → ⊥) at' (not_live c.leads_apart.result (Live c.args.group.now c.index-members-j.result c.loop-j.j c.args.low c.args.high) c.leads_apart.ensures w.if-leads_apart.false))
          c.loop-j.invariant)
    ]
