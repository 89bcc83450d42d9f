use Rattle.std.proofs.Common.{◌≡◌, [], length, rules, arith, ap, sym, ◌∙◌, Err}
use Rattle.std.proofs.lemmas.Grind.{common_steps}
use Rattle.std.proofs.lemmas.Bool.{false≢true}
use Rattle.clu_cert.proofs.Loop.{begin, next_line, fault_line, fault_end, all_read, only_read, empty_is}
use Rattle.clu_cert.proofs.read.read_table.Goals.{else-is_empty-via-then-is_empty+else-is_done, else-is_empty-via-else-is_empty}
use Rattle.clu_cert.proofs.read.read_table.Goals as goal

pub loop-line-init : goal.loop-line-init
loop-line-init c = record { reading = begin c.args.bytes.now c.new-reader.result c.new-reader.ensures; room = search rules }

pub returns-in-Err-Bad-clause-bad : goal.returns-in-Err-Bad-clause-bad
returns-in-Err-Bad-clause-bad c =
    fault_line c.args.bytes.now c.loop-line.rest.now c.in-Some.more.now c.in-Some.line.now c.loop-line.number c.loop-line.reader
    c.loop-line.invariant.reading c.in-Some.ensures.cut
    (c.in-Err-Bad.ensures.bad (ap Err c.in-Err-Bad.field-0-is))

pub loop-line-preserved : goal.loop-line-preserved
loop-line-preserved c = record {
  reading = next_line c.args.bytes.now c.loop-line.rest.now c.in-Some.more.now c.in-Some.line.now c.loop-line.number c.loop-line.reader
      c.loop-line.invariant.reading c.in-Some.ensures.cut
      c.take.new.self c.in-Ok.ensures.ok;
  room = omega (arith, c.loop-line.invariant.room, c.in-Some.ensures.shorter);
}

pub returns-then-is_done-clause-found : goal.returns-then-is_done-clause-found
returns-then-is_done-clause-found c =
    let empty : c.loop-line.rest.now ≡ [] = empty_is c.loop-line.rest.now (sym c.is_empty.ensures ∙ c.if-is_empty.true) in
    all_read c.args.bytes.now c.loop-line.rest.now c.loop-line.number c.loop-line.reader c.loop-line.invariant.reading c.in_default.ensures.cut
    empty (c.is_done.ensures.0 c.if-is_done.true)

pub returns-else-is_empty-clause-bad : goal.returns-else-is_empty-clause-bad
returns-else-is_empty-clause-bad c =
    fault_end c.args.bytes.now c.loop-line.rest.now c.loop-line.number c.loop-line.reader c.loop-line.invariant.reading c.in_default.ensures.cut
    (elim c.else-is_empty.branch [
      | else-is_empty-via-then-is_empty+else-is_done w ↦ λ e s. false≢true (sym w.if-is_done.false ∙ w.is_done.ensures.1 s)
      | else-is_empty-via-else-is_empty w ↦ λ e s. grind (arith, common_steps, c.is_empty.ensures, w.if-is_empty.false, ap length e)
    ])

pub returns-then-is_done-clause-only : goal.returns-then-is_done-clause-only
returns-then-is_done-clause-only c = only_read c.args.bytes.now c.loop-line.rest.now c.loop-line.number c.loop-line.reader
    c.loop-line.invariant.reading c.in_default.ensures.cut
