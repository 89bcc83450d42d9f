use Rattle.std.proofs.Common.{◌-ℤ◌, pos, to_z, of_z, All, Contains, sym, ap, subst, arith, unsigned_abs}
use mir.Syntax.{w128}
use Rattle.std.proofs.lemmas.Int.{ints}
use Rattle.clu_partition.specs.Pairs.{weight_of}
use Rattle.clu_state.specs.State.{leader}
use Rattle.clu_rows.specs.Rows.{TwoSet}
use Rattle.clu_rows.proofs.FaultLaws.{all_left, all_right}
use Rattle.clu_rows.proofs.RowLaws.{added_of, multiplier_of, room_across, room_first, room_second, across_most, inside_most, row_done}
use Rattle.clu_rows.proofs.prices.add_row.Goals as goal

pub overflow_cast-y : goal.overflow_cast-y
overflow_cast-y g c = let m = multiplier_of c.args.row.now c.row.inside.y c.row.inside.s.now c.row.inside.t.now c.row.view_is c.requires.row.first c.requires.worth in omega (arith, ints, m)

pub add_across-requires-clause-first : goal.add_across-requires-clause-first
add_across-requires-clause-first g c = subst (All (Contains (g.S.Situation.state c.args.state.now).members)) (sym (ap (λ (r : TwoSet). r.s) c.row.view_is)) (all_left (Contains (g.S.Situation.state c.args.state.now).members) c.args.row.now.s c.args.row.now.t c.requires.row.members)

pub add_across-requires-clause-second : goal.add_across-requires-clause-second
add_across-requires-clause-second g c = subst (All (Contains (g.S.Situation.state c.args.state.now).members)) (sym (ap (λ (r : TwoSet). r.t) c.row.view_is)) (all_right (Contains (g.S.Situation.state c.args.state.now).members) c.args.row.now.s c.args.row.now.t c.requires.row.members)

pub add_across-requires-clause-small : goal.add_across-requires-clause-small
add_across-requires-clause-small g c = λ x z i j.
    room_across c.args.row.now (unsigned_abs (weight_of c.args.scratch.now x z)) (to_z w128 c.row.inside.y) (to_z w128 (of_z w128 (pos 0 -ℤ to_z w128 c.row.inside.y))) c.row.inside.s.now c.row.inside.t.now (added_of c.args.row.now c.row.inside.y c.row.inside.s.now c.row.inside.t.now c.row.view_is c.requires.row.first c.requires.worth) c.requires.row.first (c.requires.small x z i j)

pub overflow_sub-y : goal.overflow_sub-y
overflow_sub-y g c = let m = multiplier_of c.args.row.now c.row.inside.y c.row.inside.s.now c.row.inside.t.now c.row.view_is c.requires.row.first c.requires.worth in omega (arith, ints, m)

pub add_inside-requires-clause-members : goal.add_inside-requires-clause-members
add_inside-requires-clause-members g c = subst (All (Contains (g.S.Situation.state c.args.state.now).members)) (sym (ap (λ (r : TwoSet). r.s) c.row.view_is)) (all_left (Contains (g.S.Situation.state c.args.state.now).members) c.args.row.now.s c.args.row.now.t c.requires.row.members)

pub add_inside-requires-clause-small : goal.add_inside-requires-clause-small
add_inside-requires-clause-small g c = λ x z i j.
    room_first c.args.row.now (unsigned_abs (weight_of c.args.scratch.now x z)) (unsigned_abs (weight_of c.add_across.new.scratch x z)) (to_z w128 c.row.inside.y) (to_z w128 (of_z w128 (pos 0 -ℤ to_z w128 c.row.inside.y))) c.row.inside.s.now c.row.inside.t.now (added_of c.args.row.now c.row.inside.y c.row.inside.s.now c.row.inside.t.now c.row.view_is c.requires.row.first c.requires.worth)
    (across_most c.args.scratch.now c.add_across.new.scratch (leader (g.S.Situation.state c.args.state.now)) x z (to_z w128 c.row.inside.y) c.row.inside.s.now c.row.inside.t.now (c.add_across.ensures.sums x z i j)) (c.requires.small x z i j)

pub overflow_sub-y-2 : goal.overflow_sub-y-2
overflow_sub-y-2 g c = let m = multiplier_of c.args.row.now c.row.inside.y c.row.inside.s.now c.row.inside.t.now c.row.view_is c.requires.row.first c.requires.worth in omega (arith, ints, m)

pub add_inside-requires-2-clause-members : goal.add_inside-requires-2-clause-members
add_inside-requires-2-clause-members g c = subst (All (Contains (g.S.Situation.state c.args.state.now).members)) (sym (ap (λ (r : TwoSet). r.t) c.row.view_is)) (all_right (Contains (g.S.Situation.state c.args.state.now).members) c.args.row.now.s c.args.row.now.t c.requires.row.members)

pub add_inside-requires-2-clause-small : goal.add_inside-requires-2-clause-small
add_inside-requires-2-clause-small g c = λ x z i j.
    room_second c.args.row.now (unsigned_abs (weight_of c.args.scratch.now x z)) (unsigned_abs (weight_of c.add_across.new.scratch x z)) (unsigned_abs (weight_of c.add_inside.new.scratch x z)) (to_z w128 c.row.inside.y) (to_z w128 (of_z w128 (pos 0 -ℤ to_z w128 c.row.inside.y))) c.row.inside.s.now c.row.inside.t.now (added_of c.args.row.now c.row.inside.y c.row.inside.s.now c.row.inside.t.now c.row.view_is c.requires.row.first c.requires.worth)
    (across_most c.args.scratch.now c.add_across.new.scratch (leader (g.S.Situation.state c.args.state.now)) x z (to_z w128 c.row.inside.y) c.row.inside.s.now c.row.inside.t.now (c.add_across.ensures.sums x z i j))
    (inside_most c.add_across.new.scratch c.add_inside.new.scratch (leader (g.S.Situation.state c.args.state.now)) x z (to_z w128 (of_z w128 (pos 0 -ℤ to_z w128 c.row.inside.y))) c.row.inside.s.now (c.add_inside.ensures.sums x z i j)) (c.requires.small x z i j)

pub returns-clause-sums : goal.returns-clause-sums
returns-clause-sums g c = λ x z i j d.
    row_done (leader (g.S.Situation.state c.args.state.now)) c.args.row.now x z (weight_of c.args.scratch.now x z) (weight_of c.add_across.new.scratch x z) (weight_of c.add_inside.new.scratch x z) (weight_of c.add_inside-2.new.scratch x z) (to_z w128 c.row.inside.y) (to_z w128 (of_z w128 (pos 0 -ℤ to_z w128 c.row.inside.y))) c.row.inside.s.now c.row.inside.t.now
    (added_of c.args.row.now c.row.inside.y c.row.inside.s.now c.row.inside.t.now c.row.view_is c.requires.row.first c.requires.worth) c.requires.row.once d (c.add_across.ensures.sums x z i j d) (c.add_inside.ensures.sums x z i j d) (c.add_inside-2.ensures.sums x z i j d)
