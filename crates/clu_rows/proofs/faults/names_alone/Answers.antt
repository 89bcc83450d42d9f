use Rattle.std.proofs.Common.{◌≢◌, ◌∙◌, sym, subst, arith, Contains, refl}
use Rattle.clu_state.specs.State.{leader}
use Rattle.std.proofs.lemmas.Bool.{eq-eqb, false≢true}
use Rattle.clu_rows.proofs.FaultLaws.{all_next, all_done}
use Rattle.clu_rows.proofs.faults.names_alone.Goals as goal

pub group_of-requires : goal.group_of-requires
group_of-requires g c = subst (Contains (g.S.Situation.state c.args.state.now).members) (sym c.w-item.is) (c.requires.members c.loop-w.w-index c.w-item.result c.loop-w-test.true)

pub loop-w-preserved : goal.loop-w-preserved
loop-w-preserved g c = all_next (λ w. leader (g.S.Situation.state c.args.state.now) c.args.v ≢ leader (g.S.Situation.state c.args.state.now) w) c.loop-w.w-index c.w-item.result c.args.others.now c.loop-w-test.true c.w-item.is c.loop-w.invariant
    (λ e. false≢true (sym c.if-eq.false ∙ c.eq.ensures ∙ eq-eqb c.group_of.result c.group_of-group.result (c.group_of.ensures.value ∙ sym e ∙ sym c.group_of-group.ensures.value)))

pub returns : goal.returns
returns g c = ((λ _. all_done (λ w. leader (g.S.Situation.state c.args.state.now) c.args.v ≢ leader (g.S.Situation.state c.args.state.now) w) c.loop-w.w-index c.args.others.now (omega arith) c.loop-w.invariant), λ _. refl)
