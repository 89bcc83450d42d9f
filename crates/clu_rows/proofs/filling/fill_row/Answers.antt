use Rattle.std.proofs.Common.{◌≡◌, ◌≤◌, ◌∙◌, arith, ap, ℕ, length, slice_index, not, to_z, of_z}
use Rattle.std.proofs.lemmas.Int.{ints}
use mir.Syntax.{w128}
use Rattle.clu_partition.specs.Pairs.{Pairs}
use Rattle.clu_partition.specs.Sums.{only_if}
use Rattle.clu_state.specs.State.{are_apart, group_weight}
use Rattle.clu_rows.proofs.Maximal.{row_more, row_others}
use Rattle.clu_rows.proofs.filling.fill_row.Goals as goal

pub loop-j-preserved : goal.loop-j-preserved
loop-j-preserved g c =
    let i = c.loop-j.invariant in
    let e = c.set.ensures.changed in
    let s = g.S.Situation.state c.args.state.now in
    let room = i.room in
    let size : length c.args.groups.now ≤ c.loop-j.left.n = omega (arith, room, c.requires.room) in
    let wr : to_z w128 (of_z w128 c.free_weight.result) ≡ c.free_weight.result = omega (arith, ints) in
    record {
      room = ap (λ (t : Pairs). t.n) e ∙ i.room;
      row = row_more s c.args.groups.now c.loop-j.left c.loop-j.left c.set.new.self c.args.i c.loop-j.j _ (λ (x z : ℕ). only_if (not (are_apart (g.S.Situation.state c.args.state.now) (slice_index c.args.groups.now x) (slice_index c.args.groups.now z))) (group_weight (g.S.Situation.state c.args.state.now) (slice_index c.args.groups.now x) (slice_index c.args.groups.now z)))
          size c.set.ensures.grid (omega arith) (omega arith) e (wr ∙ c.free_weight.ensures) i.row;
      others = λ x z p q r. row_others c.loop-j.left c.set.new.self (length c.args.groups.now) c.args.i c.loop-j.j x z _ size (omega arith) (omega arith) p q r e ∙ i.others x z p q r;
    }
