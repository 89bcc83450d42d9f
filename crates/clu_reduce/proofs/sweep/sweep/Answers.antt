use Rattle.clu_reduce.proofs.Sweeps.{none_left}
use Rattle.clu_reduce.proofs.sweep.sweep.Goals as goal

pub returns-clause-none : goal.returns-clause-none
returns-clause-none g c =
    none_left (g.S.Situation.state c.args.state.now) (g.S.Situation.state c.sweep_kind.new.state) (g.S.Situation.state c.sweep_kind-2.new.state)
    (g.S.Situation.state c.sweep_kind-3.new.state) c.members-members.ensures.valid c.in_ok-twins.twins c.in_ok-pairs.pairs c.in_ok-heavy.heavy c.in_ok-light.light
    c.in_ok-twins.ensures.swept.idle c.in_ok-pairs.ensures.swept.idle c.in_ok-heavy.ensures.swept.idle
    c.in_ok-twins.ensures.none c.in_ok-pairs.ensures.none c.in_ok-heavy.ensures.none c.in_ok-light.ensures.none
