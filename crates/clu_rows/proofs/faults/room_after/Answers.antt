use Rattle.std.proofs.Common.{length, ap}
use Rattle.clu_rows.specs.Rows.{TwoSet}
use Rattle.clu_rows.proofs.FaultLaws.{room_short, room_kept}
use Rattle.clu_rows.proofs.faults.room_after.Goals as goal

pub returns-then-row-room-clause-none : goal.returns-then-row-room-clause-none
returns-then-row-room-clause-none g c = λ _ r.
    let v = c.row.view_is in
    room_short c.row.inside.y c.args.room (length c.row.inside.s.now) (length c.row.inside.t.now) c.args.row.now (ap (λ (r : TwoSet). r.y) v) (ap (λ (r : TwoSet). length r.s) v) (ap (λ (r : TwoSet). length r.t) v) r.first c.if-row-room.true

pub returns-clause-some : goal.returns-clause-some
returns-clause-some g c =
    let v = c.row.view_is in
    let r = c.is_row.ensures.fits.0 c.if-not-is_row.false in
    (r, room_kept c.row.inside.y c.args.room (length c.row.inside.s.now) (length c.row.inside.t.now) c.args.row.now (ap (λ (r : TwoSet). r.y) v) (ap (λ (r : TwoSet). length r.s) v) (ap (λ (r : TwoSet). length r.t) v) r.first c.if-row-room.false)
