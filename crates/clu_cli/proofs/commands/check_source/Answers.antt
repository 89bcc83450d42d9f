use Rattle.std.proofs.Common.{ℕ, List, refl, ◌∙◌, ap, subst, true}
use Rattle.clu_outside.specs.Sink.{TakesSome, with_bytes}
use Rattle.clu_cli.proofs.Ends.{check_reports, ends_printed, ends_unproven, ends_unprinted, ends_unread, ends_unread_source, passed}
use Rattle.clu_cli.specs.Cases.{case_of}
use Rattle.clu_cli.specs.Words.{check, source_by}
use Rattle.clu_cli.proofs.commands.check_source.Goals as goal

pub checked-requires-clause-sized : goal.checked-requires-clause-sized
checked-requires-clause-sized g c = c.in_ok-against.ensures.found.closes.made.size

pub returns-in_err-against-clause-ends : goal.returns-in_err-against-clause-ends
returns-in_err-against-clause-ends g c =
    passed _ _ _ _ _ _ _ c.from_residual.ensures.1
    (ends_unread_source (check (source_by c.args.source) c.args.certificate.now) _ _ _ _ refl c.in_err-against.field-0.0 c.in_err-against.ensures.stops)

pub returns-in_err-bytes-clause-ends : goal.returns-in_err-bytes-clause-ends
returns-in_err-bytes-clause-ends g c =
    let found = c.in_ok-against.ensures.found in
    passed _ _ _ _ _ _ _ c.from_residual-in_err-bytes.ensures.1
    (ends_unread (source_by c.args.source) c.args.certificate.now _ _ _ _ _ (case_of c.in_ok-against.against.instance found.rules) found.given c.in_ok-against.ensures.loaded
    refl _ c.in_err-bytes.field-0.0 refl c.in_err-bytes.ensures.tells.stops c.in_err-bytes.ensures.after)

pub returns-in_err-report-clause-ends : goal.returns-in_err-report-clause-ends
returns-in_err-report-clause-ends g c =
    let found = c.in_ok-against.ensures.found in
    passed _ _ _ _ _ _ _ c.from_residual-in_err-report.ensures.1
    (ends_unproven (source_by c.args.source) c.args.certificate.now _ _ _ _ _ (case_of c.in_ok-against.against.instance found.rules) found.given c.in_ok-against.ensures.loaded
    refl c.in_ok-bytes.bytes.items c.deref.result.now c.in_ok-bytes.ensures.tells.found c.deref.ensures.value c.in_ok-bytes.ensures.after
    c.in_err-report.field-0.0 (c.in_err-report.ensures.stops found.rules found.closes))

pub returns-in_err-print-clause-ends : goal.returns-in_err-print-clause-ends
returns-in_err-print-clause-ends g c =
    let found = c.in_ok-against.ensures.found in
    let reports = check_reports (source_by c.args.source) c.args.certificate.now _ _ _ (g.O.Sink.written c.args.out.now) (g.O.Sink.written c.print.new.out)
    (case_of c.in_ok-against.against.instance found.rules) found.given c.in_ok-against.ensures.loaded c.in_ok-bytes.ensures.after
    c.in_ok-bytes.bytes.items c.deref.result.now c.in_ok-report.report.items c.in_ok-bytes.ensures.tells.found c.deref.ensures.value (c.in_ok-report.ensures.proof found.rules found.closes) in
    passed _ _ _ _ _ _ _ c.from_residual-in_err-print.ensures.1
    (ends_unprinted (check (source_by c.args.source) c.args.certificate.now) _ _ _ _ c.in_ok-report.report.items 0 c.in_err-print.field-0.0 c.in_err-print.ensures.tells.stops reports
    (subst (λ (bs : List ℕ). TakesSome (g.O.Sink.written c.args.out.now) (g.O.Sink.written c.print.new.out) bs) c.deref-2.ensures.value c.in_err-print.ensures.tells.some))

pub returns-clause-ends : goal.returns-clause-ends
returns-clause-ends g c =
    let found = c.in_ok-against.ensures.found in
    let reports = check_reports (source_by c.args.source) c.args.certificate.now _ _ _ (g.O.Sink.written c.args.out.now) (g.O.Sink.written c.print.new.out)
    (case_of c.in_ok-against.against.instance found.rules) found.given c.in_ok-against.ensures.loaded c.in_ok-bytes.ensures.after
    c.in_ok-bytes.bytes.items c.deref.result.now c.in_ok-report.report.items c.in_ok-bytes.ensures.tells.found c.deref.ensures.value (c.in_ok-report.ensures.proof found.rules found.closes) in
    ends_printed (check (source_by c.args.source) c.args.certificate.now) _ _ _ _ c.in_ok-report.report.items true reports
    (c.in_ok-print.ensures.tells.whole ∙ ap (with_bytes (g.O.Sink.written c.args.out.now)) c.deref-2.ensures.value)
