use Rattle.std.proofs.Common.{◌∙◌, sym, arith, Contains, refl}
use Rattle.clu_rows.proofs.FaultLaws.{all_next, all_done, all_at}
use Rattle.clu_rows.proofs.faults.are_members.Goals as goal
use Rattle.std.proofs.lemmas.Bool.{false≢true}

pub returns-then-not-has_member : goal.returns-then-not-has_member
returns-then-not-has_member g c = (
  (λ t. absurd (false≢true t)),
  λ a.
      let t = c.has_member.ensures.1 (all_at (Contains (g.S.Situation.state c.args.state.now).members) c.loop-v.v-index c.v-item.result c.args.list.now c.loop-v-test.true c.v-item.is a) in
      sym c.if-not-has_member.true ∙ t,
)

pub loop-v-preserved : goal.loop-v-preserved
loop-v-preserved g c = all_next (Contains (g.S.Situation.state c.args.state.now).members) c.loop-v.v-index c.v-item.result c.args.list.now c.loop-v-test.true c.v-item.is c.loop-v.invariant (c.has_member.ensures.0 c.if-not-has_member.false)

pub returns : goal.returns
returns g c = ((λ _. all_done (Contains (g.S.Situation.state c.args.state.now).members) c.loop-v.v-index c.args.list.now (omega arith) c.loop-v.invariant), λ _. refl)
