use Rattle.std.proofs.Common.{◌-◌, ℕ, List, arith, ◌∙◌, ap, take, drop, length, length-drop, length-take}
use Rattle.std.specs.Prelude.{Option}
use Rattle.clu_outside.specs.Sink.{with_bytes}
use Rattle.clu_outside.proofs.Taken.{with_more}
use Rattle.clu_outside.proofs.sink.write_whole.Goals as goal

pub loop-done-preserved : goal.loop-done-preserved
loop-done-preserved g c =
    let takes = c.in_ok-count.ensures.takes in
    let kept = c.loop-done.invariant in
    let rest : List ℕ = take (length c.args.bytes.now - c.loop-done.done) (drop c.loop-done.done c.args.bytes.now) in
    record {
      within = omega (arith, takes.within, length-take {A = ℕ}, length-drop {A = ℕ});
      stays = c.in_ok-count.ensures.cause.stays (λ e. cc) ∙ kept.stays;
      taken = takes.taken
          ∙ ap (λ (o : Option (List ℕ)). with_bytes o (take c.in_ok-count.count rest)) kept.taken
          ∙ with_more (g.O.Sink.written c.args.sink.now) c.args.bytes.now c.loop-done.done c.in_ok-count.count kept.within;
    }
