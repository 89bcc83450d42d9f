use Rattle.std.proofs.Common.{◌≡◌, ◌∙◌, subst, arith, to_z, of_z}
use Rattle.std.specs.Int.{w128}
use Rattle.std.proofs.lemmas.Int.{ints}
use Rattle.clu_node.specs.Node.{HasPair}
use Rattle.clu_node.proofs.FreeLists.{settled}
use Rattle.clu_node.proofs.bound.bound_node.Goals as goal

pub returns-clause-settled : goal.returns-clause-settled
returns-clause-settled g c = λ e.
    let s = g.S.Situation.state c.args.state.now in
    let packed = c.in_ok-leaf.field-0 in
    let shown : to_z w128 (of_z w128 packed.bound) ≡ packed.bound = omega (arith, ints) in
    shown ∙ c.in_ok-leaf.ensures.bound ∙
    settled s packed.leaf.rows (c.in_ok-pair.ensures.none e) (subst (HasPair s) e c.in_ok-pair.ensures.pair) c.in_ok-leaf.ensures.packing
