use Rattle.std.proofs.Common.{arith}
use Rattle.clu_state.proofs.Separated.{parts, agrees_apart}
use Rattle.clu_state.proofs.rebuilt.separate.Goals as goal

pub home-p-requires-clause-group : goal.home-p-requires-clause-group
home-p-requires-clause-group c = (parts c.requires.some.0 c.args.group.now c.args.place.now c.requires.some.1 c.args.apart.now c.requires.some.2 c.args.u c.requires.some.3 c.requires.some.4.first).below

pub home-p-requires-clause-place : goal.home-p-requires-clause-place
home-p-requires-clause-place c = (parts c.requires.some.0 c.args.group.now c.args.place.now c.requires.some.1 c.args.apart.now c.requires.some.2 c.args.u c.requires.some.3 c.requires.some.4.first).leader_below

pub home-q-requires-clause-group : goal.home-q-requires-clause-group
home-q-requires-clause-group c = (parts c.requires.some.0 c.args.group.now c.args.place.now c.requires.some.1 c.args.apart.now c.requires.some.2 c.args.v c.requires.some.3 c.requires.some.4.second).below

pub home-q-requires-clause-place : goal.home-q-requires-clause-place
home-q-requires-clause-place c = (parts c.requires.some.0 c.args.group.now c.args.place.now c.requires.some.1 c.args.apart.now c.requires.some.2 c.args.v c.requires.some.3 c.requires.some.4.second).leader_below

pub put_at-requires-clause-first : goal.put_at-requires-clause-first
put_at-requires-clause-first c =
    let p = (parts c.requires.some.0 c.args.group.now c.args.place.now c.requires.some.1 c.args.apart.now c.requires.some.2 c.args.u c.requires.some.3 c.requires.some.4.first).place_below in
    omega (arith, p, c.home-p.ensures)

pub put_at-requires-clause-second : goal.put_at-requires-clause-second
put_at-requires-clause-second c =
    let p = (parts c.requires.some.0 c.args.group.now c.args.place.now c.requires.some.1 c.args.apart.now c.requires.some.2 c.args.v c.requires.some.3 c.requires.some.4.second).place_below in
    omega (arith, p, c.home-q.ensures)

pub returns : goal.returns
returns c = λ s weights fixed g f.
    agrees_apart s c.args.group.now c.args.place.now weights c.args.apart.now c.put_at.new.self fixed c.args.u c.args.v c.home-p.result c.home-q.result g f c.put_at.ensures.grid c.home-p.ensures c.home-q.ensures c.put_at.ensures.put
