use Rattle.std.proofs.Common.{◌≡◌, ◌⊎◌, ℤ, ◌<ℤ◌, arith, ◌∙◌, pos, rules, to_z, of_z, true, slice_index, refl}
use mir.Syntax.{w128}
use lib.IntN.{nat_abs}
use Rattle.std.proofs.lemmas.Grind.{get_or_default_zero}
use Rattle.std.proofs.lemmas.Int.{ints}
use Rattle.clu_partition.specs.Pairs.{weight_of}
use Rattle.clu_state.specs.State.{are_apart}
use Rattle.clu_rows.specs.Packing.{triangle}
use Rattle.clu_rows.proofs.Tried.{Tried, tried_bits, rise_bits}
use Rattle.clu_rows.proofs.Steps.{settled_by, nearer_same}
use Rattle.clu_rows.proofs.packing.Packing.try_triangle.Goals.{then-first-le0-via-then-first-le0, then-first-le0-via-else-first-le0+then-second-le0}
use Rattle.clu_rows.proofs.packing.Packing.try_triangle.Given
use Rattle.clu_rows.proofs.packing.Packing.try_triangle.Goals as goal

pub lower-requires-clause-third : goal.lower-requires-clause-third
lower-requires-clause-third g c =
    let m = c.multiplier-y.ensures in
    let r = c.rise_of-rise.ensures in
    let wy : to_z w128 (of_z w128 c.multiplier-y.result) ≡ c.multiplier-y.result = omega (arith, ints) in
    let wt : to_z w128 (of_z w128 c.get-third.result) ≡ c.get-third.result = omega (arith, ints) in
    let wr : to_z w128 (of_z w128 c.rise_of-rise.result) ≡ c.rise_of-rise.result = omega (arith, ints) in
    rise_bits _ _ _ _ c.args.b c.args.c c.get-third.result c.multiplier-y.result c.rise_of-rise.result (to_z w128 (of_z w128 c.get-third.result)) (to_z w128 (of_z w128 c.multiplier-y.result)) (to_z w128 (of_z w128 c.rise_of-rise.result)) c.requires.packed c.requires.b c.requires.c c.requires.bc wt wy wr c.get-third.ensures m.positive m.third r.below r.other

cast_is : (y : ℤ) → pos 0 <ℤ y → to_z w128 (of_z w128 y) ≡ y → y ≡ pos (nat_abs (to_z w128 (of_z w128 y)))
cast_is y p e = omega (arith, ints)

done : (g : Given.Over) (c : goal.After-lower g) → Tried (g.S.Situation.state c.args.state.now) c.args.groups.now c.args.self.now.left c.lower.new.left c.push.new.self c.args.a c.args.b c.args.c
done g c =
    let m = c.multiplier-y.ensures in
    let r = c.rise_of-rise.ensures in
    let w1 : to_z w128 (of_z w128 c.get-first.result) ≡ c.get-first.result = omega (arith, ints) in
    let w2 : to_z w128 (of_z w128 c.get-second.result) ≡ c.get-second.result = omega (arith, ints) in
    let wy : to_z w128 (of_z w128 c.multiplier-y.result) ≡ c.multiplier-y.result = omega (arith, ints) in
    let wt : to_z w128 (of_z w128 c.get-third.result) ≡ c.get-third.result = omega (arith, ints) in
    let wr : to_z w128 (of_z w128 c.rise_of-rise.result) ≡ c.rise_of-rise.result = omega (arith, ints) in
    let opp : (are_apart (g.S.Situation.state c.args.state.now) (slice_index c.args.groups.now c.args.b) (slice_index c.args.groups.now c.args.c) ≡ true) ⊎ (weight_of c.args.self.now.left c.args.b c.args.c <ℤ pos 0) = c.if-not-opposes.ensures.0 (search rules) in
    tried_bits _ _ _ c.lower.new.left _ c.push.new.self (triangle c.index-groups-a.result c.index-groups-b.result c.index-groups-c.result (nat_abs (to_z w128 (of_z w128 c.multiplier-y.result)))) c.args.a c.args.b c.args.c c.index-groups-a.result c.index-groups-b.result c.index-groups-c.result (nat_abs (to_z w128 (of_z w128 c.multiplier-y.result))) c.get-first.result c.get-second.result c.get-third.result c.multiplier-y.result c.rise_of-rise.result
    (to_z w128 (of_z w128 c.get-first.result)) (to_z w128 (of_z w128 c.get-second.result)) (to_z w128 (of_z w128 c.get-third.result)) (to_z w128 (of_z w128 c.multiplier-y.result)) (to_z w128 (of_z w128 c.rise_of-rise.result))
    c.requires.packed c.requires.a c.requires.b c.requires.c c.requires.ab c.requires.ac c.requires.bc w1 w2 wt wy wr c.get-first.ensures c.get-second.ensures c.get-third.ensures opp m.positive m.first m.second m.third m.reached r.below r.other
    c.lower.ensures c.in_ok-push.ensures.ok refl
    (c.index-groups-a.is ∙ get_or_default_zero c.args.groups.now c.args.a c.index-groups-a.result c.requires.a)
    (c.index-groups-b.is ∙ get_or_default_zero c.args.groups.now c.args.b c.index-groups-b.result c.requires.b)
    (c.index-groups-c.is ∙ get_or_default_zero c.args.groups.now c.args.c c.index-groups-c.result c.requires.c)
    (cast_is c.multiplier-y.result m.positive wy)

pub returns-then-first-le0-clause-settled : goal.returns-then-first-le0-clause-settled
returns-then-first-le0-clause-settled g c =
    let w1 : to_z w128 (of_z w128 c.get-first.result) ≡ c.get-first.result = omega (arith, ints) in
    let w2 : to_z w128 (of_z w128 c.get-second.result) ≡ c.get-second.result = omega (arith, ints) in
    let e1 = c.get-first.ensures in
    let e2 = c.get-second.ensures in
    settled_by _ _ c.args.self.now.left c.args.self.now.left c.args.a c.args.b c.args.c (nearer_same c.args.self.now.left) (omega (arith, c.requires.packed.size)) (omega (arith, c.requires.packed.size)) c.requires.third
    (elim c.then-first-le0.branch [
      | then-first-le0-via-then-first-le0 w ↦ (λ p q r. let t = w.if-first-le0.true in omega (arith, ints, w1, e1, p, t))
      | then-first-le0-via-else-first-le0+then-second-le0 w ↦ (λ p q r. let t = w.if-second-le0.true in omega (arith, ints, w2, e2, q, t))
    ])

pub returns-clause-step : goal.returns-clause-step
returns-clause-step g c = record { packed = (done g c).packed; nearer = (done g c).nearer }

pub returns-clause-settled : goal.returns-clause-settled
returns-clause-settled g c = settled_by _ _ c.args.self.now.left _ c.args.a c.args.b c.args.c (done g c).nearer (omega (arith, c.requires.packed.size)) (omega (arith, c.requires.packed.size)) c.requires.third (done g c).stuck
