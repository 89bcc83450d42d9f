use Rattle.std.proofs.Common.{◌≡◌, ◌-◌, ◌%◌, ℕ, min, length, arith, ◌∙◌}
use Rattle.clu_outside.proofs.Pieces.{stored_more, calls_more, pieces_more, pieces_full, create_refused, piece_refused, all_stored}
use Rattle.clu_outside.proofs.store.store_whole.Goals as goal

pub loop-done-preserved : goal.loop-done-preserved
loop-done-preserved g c =
    let kept = c.loop-done.invariant in
    let tells = c.in_ok-append.ensures.tells in
    let size : ℕ = length c.args.bytes.now in
    let count : c.min-count.result ≡ min 4096 (size - c.loop-done.done) = omega arith in
    let full : c.loop-done.done % 4096 ≡ 0 = kept.full (omega arith) in
    record {
      within = omega arith;
      full = λ before. pieces_full size c.loop-done.done c.min-count.result full count before;
      store_faults = c.in_ok-append.ensures.cause.stays (λ e. cc) ∙ kept.store_faults;
      load_faults = c.append.ensures.loads ∙ kept.load_faults;
      stored = stored_more _ _ _ c.args.name.now c.args.bytes.now _ _ (omega arith) (omega arith) kept.stored tells.appended;
      calls = calls_more _ _ _ _ _ (pieces_more size c.loop-done.done c.min-count.result (omega arith) full count) kept.calls tells.later;
    }

pub returns-in_err-append-clause-tells : goal.returns-in_err-append-clause-tells
returns-in_err-append-clause-tells g c =
    let kept = c.loop-done.invariant in
    let tells = c.in_err-append.ensures.tells in
    piece_refused _ _ _ c.args.name.now c.args.bytes.now c.loop-done.done _ _ c.from_residual-in_err-append.ensures.0
    (omega arith) (kept.full (omega arith)) (omega arith) (omega arith) kept.stored kept.calls tells.later tells.refused

pub returns-in_err-create-clause-tells : goal.returns-in_err-create-clause-tells
returns-in_err-create-clause-tells g c =
    let tells = c.in_err-create.ensures.tells in
    create_refused _ _ _ _ _ c.from_residual.ensures.0 tells.later tells.refused

pub returns-clause-tells : goal.returns-clause-tells
returns-clause-tells g c =
    let kept = c.loop-done.invariant in
    all_stored _ _ _ _ c.loop-done.done (omega arith) kept.stored kept.calls
