use Rattle.std.proofs.Common.{arith}
use Rattle.std.proofs.lemmas.Int.{ints}
use Rattle.clu_state.proofs.Bounds.{weight_small}
use Rattle.clu_reduce.proofs.condition.stake.Goals as goal

pub abs-requires : goal.abs-requires
abs-requires g c =
    let l = weight_small (g.S.Situation.state c.args.state.now) c.requires.valid c.args.a c.args.x c.requires.first c.requires.second c.requires.differ in
    let e = c.weight.ensures in
    omega (arith, ints, l, e)
