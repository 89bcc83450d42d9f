use Rattle.std.proofs.Common.{◌≡◌, ◌∙◌, sym, arith, ℕ, to_z, of_z, ◌+ℤ◌, ℤ, subst, Contains, ◌<◌, length, take, unsigned_abs, ◌+◌, ◌*◌}
use mir.Syntax.{w128}
use Rattle.std.proofs.lemmas.Int.{ints}
use Rattle.clu_partition.specs.Sums.{total, cross_total}
use Rattle.clu_partition.specs.Pairs.{weight_of}
use Rattle.clu_state.specs.State.{leader}
use Rattle.clu_rows.specs.Prices.{hit}
use Rattle.clu_rows.proofs.Adding.{step_across, across_room, all_taken}
use Rattle.clu_rows.proofs.prices.add_across.Goals as goal

pub add_with-requires-clause-member : goal.add_with-requires-clause-member
add_with-requires-clause-member g c = subst (Contains (g.S.Situation.state c.args.state.now).members) (sym c.v-item.is) (c.requires.first c.loop-v.v-index c.v-item.result c.loop-v-test.true)

pub add_with-requires-clause-small : goal.add_with-requires-clause-small
add_with-requires-clause-small g c =
    let wk : to_z w128 (of_z w128 c.args.k) ≡ c.args.k = omega (arith, ints) in
    across_room (Contains (g.S.Situation.state c.args.state.now).members) c.args.scratch.now c.loop-v.scratch (leader (g.S.Situation.state c.args.state.now)) c.loop-v.v-index 170141183460469231731687303715884105728 (to_z w128 (of_z w128 c.args.k)) c.args.first.now c.args.second.now c.loop-v-test.true c.loop-v.invariant.sums
    (λ x z i j. subst (λ (k : ℤ). unsigned_abs (weight_of c.args.scratch.now x z) + length c.args.first.now * ((length c.args.second.now + 1) * unsigned_abs k) < 170141183460469231731687303715884105728) (sym wk) (c.requires.small x z i j))

pub loop-v-preserved : goal.loop-v-preserved
loop-v-preserved g c =
    let e = c.add_with.ensures in
    let i = c.loop-v.invariant in
    record {
      size = e.size ∙ i.size;
      sums = λ x z p q d.
          step_across (λ (v : ℕ). total (hit (leader (g.S.Situation.state c.args.state.now)) x z (to_z w128 (of_z w128 c.args.k)) v) c.args.second.now) c.loop-v.v-index c.v-item.result c.args.first.now (weight_of c.args.scratch.now x z) (weight_of c.loop-v.scratch x z) (weight_of c.add_with.new.scratch x z)
          c.loop-v-test.true c.v-item.is (e.sums x z p q d) (i.sums x z p q d);
    }

pub returns-clause-sums : goal.returns-clause-sums
returns-clause-sums g c = λ x z i j d.
    let wk : to_z w128 (of_z w128 c.args.k) ≡ c.args.k = omega (arith, ints) in
    all_taken (λ (v : ℕ). total (hit (leader (g.S.Situation.state c.args.state.now)) x z c.args.k v) c.args.second.now) c.loop-v.v-index c.args.first.now (weight_of c.args.scratch.now x z) (weight_of c.loop-v.scratch x z) (omega arith)
    (subst (λ (k : ℤ). weight_of c.loop-v.scratch x z ≡ weight_of c.args.scratch.now x z +ℤ cross_total (hit (leader (g.S.Situation.state c.args.state.now)) x z k) (take c.loop-v.v-index c.args.first.now) c.args.second.now) wk (c.loop-v.invariant.sums x z i j d))
