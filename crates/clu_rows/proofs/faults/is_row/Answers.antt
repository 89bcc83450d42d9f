use Rattle.std.proofs.Common.{◌≡◌, ◌∙◌, ◌≤◌, ◌+◌, ◌++◌, ℕ, List, [], All, Contains, length, sym, ap, subst, arith}
use Rattle.clu_state.specs.State.{leader}
use Rattle.clu_rows.specs.Rows.{TwoSet}
use Rattle.clu_partition.specs.Groups.{NamesOnce}
use Rattle.clu_state.proofs.Bounds.{few_members}
use Rattle.clu_rows.proofs.FaultLaws.{row_holds, row_has}
use Rattle.clu_rows.proofs.faults.is_row.Goals as goal
use Rattle.std.proofs.lemmas.Bool.{false≢true}

pub returns-then-not-has_shape-clause-fits : goal.returns-then-not-has_shape-clause-fits
returns-then-not-has_shape-clause-fits g c = (
  (λ t. absurd (false≢true t)),
  λ r.
      let h = row_has (g.S.Situation.state c.args.state.now) c.args.row.now c.members.ensures.valid r in
      sym c.if-not-has_shape.true ∙ c.has_shape.ensures.1 (r.first, r.second, r.worth, subst (λ (k : ℕ). length c.args.row.now.s + length c.args.row.now.t ≤ k) (sym (ap length c.members.ensures.value)) h.few),
)

pub returns-then-not-are_members-clause-fits : goal.returns-then-not-are_members-clause-fits
returns-then-not-are_members-clause-fits g c = (
  (λ t. absurd (false≢true t)),
  λ r.
      let h = row_has (g.S.Situation.state c.args.state.now) c.args.row.now c.members.ensures.valid r in
      let e : c.row.inside.s.now ≡ c.args.row.now.s = ap (λ (r : TwoSet). r.s) c.row.view_is in
      sym c.if-not-are_members.true ∙ c.are_members.ensures.1 (subst (All (Contains (g.S.Situation.state c.args.state.now).members)) (sym e) h.first),
)

pub returns-then-not-are_members-2-clause-fits : goal.returns-then-not-are_members-2-clause-fits
returns-then-not-are_members-2-clause-fits g c = (
  (λ t. absurd (false≢true t)),
  λ r.
      let h = row_has (g.S.Situation.state c.args.state.now) c.args.row.now c.members.ensures.valid r in
      let e : c.row.inside.t.now ≡ c.args.row.now.t = ap (λ (r : TwoSet). r.t) c.row.view_is in
      sym c.if-not-are_members-2.true ∙ c.are_members-2.ensures.1 (subst (All (Contains (g.S.Situation.state c.args.state.now).members)) (sym e) h.second),
)

pub names_differ-requires-clause-list : goal.names_differ-requires-clause-list
names_differ-requires-clause-list g c = c.are_members-2.ensures.0 c.if-not-are_members-2.false

pub returns-then-not-names_differ-clause-fits : goal.returns-then-not-names_differ-clause-fits
returns-then-not-names_differ-clause-fits g c = (
  (λ t. absurd (false≢true t)),
  λ r.
      let h = row_has (g.S.Situation.state c.args.state.now) c.args.row.now c.members.ensures.valid r in
      let e : c.row.inside.t.now ≡ c.args.row.now.t = ap (λ (r : TwoSet). r.t) c.row.view_is in
      sym c.if-not-names_differ.true ∙ c.names_differ.ensures.needed (subst (λ (l : List ℕ). NamesOnce (leader (g.S.Situation.state c.args.state.now)) (l ++ [])) (sym e) h.inner),
)

pub names_differ-requires-2-clause-list : goal.names_differ-requires-2-clause-list
names_differ-requires-2-clause-list g c = c.are_members.ensures.0 c.if-not-are_members.false

pub names_differ-requires-2-clause-others : goal.names_differ-requires-2-clause-others
names_differ-requires-2-clause-others g c = c.are_members-2.ensures.0 c.if-not-are_members-2.false

pub returns-clause-fits : goal.returns-clause-fits
returns-clause-fits g c =
    let s = g.S.Situation.state c.args.state.now in
    let es : c.row.inside.s.now ≡ c.args.row.now.s = ap (λ (r : TwoSet). r.s) c.row.view_is in
    let et : c.row.inside.t.now ≡ c.args.row.now.t = ap (λ (r : TwoSet). r.t) c.row.view_is in
    let shape = c.has_shape.ensures.0 c.if-not-has_shape.false in
    let ms = c.are_members.ensures.0 c.if-not-are_members.false in
    let mt = c.are_members-2.ensures.0 c.if-not-are_members-2.false in (
      (λ t. row_holds (g.S.Situation.state c.args.state.now) c.args.row.now shape.0 shape.1 shape.2
          (subst (All (Contains (g.S.Situation.state c.args.state.now).members)) es ms) (subst (All (Contains (g.S.Situation.state c.args.state.now).members)) et mt)
          (λ n. subst (λ (l : List ℕ). NamesOnce (leader (g.S.Situation.state c.args.state.now)) (l ++ [])) et (c.names_differ.ensures.holds c.if-not-names_differ.false n))
          (λ n. subst (λ (l : List ℕ). NamesOnce (leader (g.S.Situation.state c.args.state.now)) (l ++ c.args.row.now.t)) es (subst (λ (l : List ℕ). NamesOnce (leader (g.S.Situation.state c.args.state.now)) (c.row.inside.s.now ++ l)) et (c.names_differ-2.ensures.holds t (subst (NamesOnce (leader (g.S.Situation.state c.args.state.now))) (sym et) n))))),
      λ r. c.names_differ-2.ensures.needed (subst (λ (l : List ℕ). NamesOnce (leader (g.S.Situation.state c.args.state.now)) (c.row.inside.s.now ++ l)) (sym et) (subst (λ (l : List ℕ). NamesOnce (leader (g.S.Situation.state c.args.state.now)) (l ++ c.args.row.now.t)) (sym es) r.once)),
    )

pub returns-clause-few : goal.returns-clause-few
returns-clause-few g c = λ _.
    let shape = c.has_shape.ensures.0 c.if-not-has_shape.false in
    let l = ap length c.members.ensures.value in
    let f = few_members (g.S.Situation.state c.args.state.now) c.members.ensures.valid in
    let m = shape.3 in
    omega (arith, l, f, m)
