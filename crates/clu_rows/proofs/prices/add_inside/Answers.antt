use Rattle.std.proofs.Common.{◌≡◌, ◌∙◌, sym, arith, to_z, of_z, ◌+ℤ◌, ◌-◌, ℤ, subst, Contains, All, ◌<◌, length, take, drop, unsigned_abs, ◌+◌, ◌*◌}
use mir.Syntax.{w128}
use Rattle.std.proofs.lemmas.Int.{ints}
use Rattle.std.proofs.lemmas.List.Elements.{All-drop}
use Rattle.clu_partition.specs.Pairs.{weight_of}
use Rattle.clu_state.specs.State.{leader}
use Rattle.clu_rows.specs.Prices.{hit}
use Rattle.clu_rows.proofs.Adding.{part}
use Rattle.clu_rows.proofs.Adding.{step_inside, inside_room, all_inside, tail_short}
use Rattle.clu_rows.proofs.prices.add_inside.Goals as goal
use Rattle.clu_partition.proofs.ListLaws.{tail_is}

pub add_with-requires-clause-member : goal.add_with-requires-clause-member
add_with-requires-clause-member g c = subst (Contains (g.S.Situation.state c.args.state.now).members) (sym c.index-list-i.is) (c.requires.members c.loop-i.i c.index-list-i.result c.loop-i-test.true)

pub add_with-requires-clause-members : goal.add_with-requires-clause-members
add_with-requires-clause-members g c = subst (All (Contains (g.S.Situation.state c.args.state.now).members)) (sym (tail_is (c.loop-i.i + 1) c.args.list.now)) (All-drop (Contains (g.S.Situation.state c.args.state.now).members) (c.loop-i.i + 1) c.args.list.now c.requires.members)

pub add_with-requires-clause-small : goal.add_with-requires-clause-small
add_with-requires-clause-small g c =
    let wk : to_z w128 (of_z w128 c.args.k) ≡ c.args.k = omega (arith, ints) in
    inside_room (Contains (g.S.Situation.state c.args.state.now).members) c.args.scratch.now c.loop-i.scratch (leader (g.S.Situation.state c.args.state.now)) c.loop-i.i 170141183460469231731687303715884105728 (to_z w128 (of_z w128 c.args.k)) c.args.list.now (take (length c.args.list.now - (c.loop-i.i + 1)) (drop (c.loop-i.i + 1) c.args.list.now)) c.loop-i-test.true (tail_short c.loop-i.i c.args.list.now c.loop-i-test.true) c.loop-i.invariant.sums
    (λ x z i j. subst (λ (k : ℤ). unsigned_abs (weight_of c.args.scratch.now x z) + length c.args.list.now * (length c.args.list.now * unsigned_abs k) < 170141183460469231731687303715884105728) (sym wk) (c.requires.small x z i j))

pub loop-i-preserved : goal.loop-i-preserved
loop-i-preserved g c =
    let e = c.add_with.ensures in
    let i = c.loop-i.invariant in
    record {
      size = e.size ∙ i.size;
      sums = λ x z p q d.
          step_inside (hit (leader (g.S.Situation.state c.args.state.now)) x z (to_z w128 (of_z w128 c.args.k))) c.loop-i.i c.index-list-i.result c.args.list.now (take (length c.args.list.now - (c.loop-i.i + 1)) (drop (c.loop-i.i + 1) c.args.list.now)) (weight_of c.args.scratch.now x z) (weight_of c.loop-i.scratch x z) (weight_of c.add_with.new.scratch x z)
          c.loop-i-test.true c.index-list-i.is (tail_is (c.loop-i.i + 1) c.args.list.now) (e.sums x z p q d) (i.sums x z p q d);
    }

pub returns-clause-sums : goal.returns-clause-sums
returns-clause-sums g c = λ x z i j d.
    let wk : to_z w128 (of_z w128 c.args.k) ≡ c.args.k = omega (arith, ints) in
    all_inside (hit (leader (g.S.Situation.state c.args.state.now)) x z c.args.k) c.loop-i.i c.args.list.now (weight_of c.args.scratch.now x z) (weight_of c.loop-i.scratch x z) (omega arith)
    (subst (λ (k : ℤ). weight_of c.loop-i.scratch x z ≡ weight_of c.args.scratch.now x z +ℤ part (hit (leader (g.S.Situation.state c.args.state.now)) x z k) c.loop-i.i c.args.list.now) wk (c.loop-i.invariant.sums x z i j d))
