use Rattle.std.proofs.Common.{List, ℕ, ◌∙◌, ap, refl, subst}
use Rattle.std.specs.Option.{option_map}
use Rattle.clu_outside.specs.Sink.{TakesSome, with_bytes}
use Rattle.clu_cli.proofs.Ends.{ends_printed, ends_unkept, ends_unprinted, ends_unread_source, ends_unsolved, passed, solve_reports}
use Rattle.clu_cli.specs.Cases.{case_of}
use Rattle.clu_cli.specs.Words.{solve, source_by}
use Rattle.clu_cli.specs.declared.stop.Stop.TheVariants.{Memory}
use denote.Bor.{Bor}
use Rattle.clu_cli.proofs.commands.solve_source.Goals as goal

pub answer_of-requires-clause-sized : goal.answer_of-requires-clause-sized
answer_of-requires-clause-sized g c = c.in_ok-task.ensures.found.closes.made.size

pub keep-requires : goal.keep-requires
keep-requires g c = let found = c.in_ok-task.ensures.found in (c.in_ok-answer.ensures found.rules found.closes).fits

pub returns-in_err-task-clause-ends : goal.returns-in_err-task-clause-ends
returns-in_err-task-clause-ends g c =
    let given = option_map (λ (n : Bor (List ℕ)). n.now) c.args.certificate in
    passed _ _ _ _ _ _ _ c.from_residual.ensures.1
    (ends_unread_source (solve (source_by c.args.source) given c.args.branchings) _ _ _ _ refl c.in_err-task.field-0.0 c.in_err-task.ensures.stops)

pub returns-in_err-answer-clause-ends : goal.returns-in_err-answer-clause-ends
returns-in_err-answer-clause-ends g c =
    let given = option_map (λ (n : Bor (List ℕ)). n.now) c.args.certificate in
    let found = c.in_ok-task.ensures.found in
    passed _ _ _ _ _ Memory _ c.from_residual-in_err-answer.ensures.1
    (ends_unsolved (solve (source_by c.args.source) given c.args.branchings) _ _ _ _ refl (case_of c.in_ok-task.task.instance found.rules) found.given.gives c.in_ok-task.ensures.loaded)

pub returns-in_err-keep-clause-ends : goal.returns-in_err-keep-clause-ends
returns-in_err-keep-clause-ends g c =
    let given = option_map (λ (n : Bor (List ℕ)). n.now) c.args.certificate in
    let found = c.in_ok-task.ensures.found in
    passed _ _ _ _ _ _ _ c.from_residual-in_err-keep.ensures.1
    (ends_unkept (source_by c.args.source) _ _ _ (case_of c.in_ok-task.task.instance found.rules) c.in_ok-answer.answer.text.items c.in_ok-answer.answer.certificate c.args.branchings _
    found.given (c.in_ok-answer.ensures found.rules found.closes) c.in_ok-task.ensures.loaded _ _ refl given c.in_err-keep.field-0.0 c.in_err-keep.ensures.tells.stops)

pub returns-in_err-print-clause-ends : goal.returns-in_err-print-clause-ends
returns-in_err-print-clause-ends g c =
    let given = option_map (λ (n : Bor (List ℕ)). n.now) c.args.certificate in
    let found = c.in_ok-task.ensures.found in
    let reports = solve_reports (source_by c.args.source) _ _ _ (case_of c.in_ok-task.task.instance found.rules) c.in_ok-answer.answer.text.items c.in_ok-answer.answer.certificate
    c.args.branchings _ found.given (c.in_ok-answer.ensures found.rules found.closes) c.in_ok-task.ensures.loaded given c.in_ok-keep.ensures.tells.whole in
    passed _ _ _ _ _ _ _ c.from_residual-in_err-print.ensures.1
    (ends_unprinted (solve (source_by c.args.source) given c.args.branchings) _ _ _ _ c.in_ok-answer.answer.text.items _ c.in_err-print.field-0.0 c.in_err-print.ensures.tells.stops reports
    (subst (λ (bs : List ℕ). TakesSome (g.O.Sink.written c.args.out.now) (g.O.Sink.written c.print.new.out) bs) c.deref.ensures.value c.in_err-print.ensures.tells.some))

pub returns-clause-ends : goal.returns-clause-ends
returns-clause-ends g c =
    let given = option_map (λ (n : Bor (List ℕ)). n.now) c.args.certificate in
    let found = c.in_ok-task.ensures.found in
    let reports = solve_reports (source_by c.args.source) _ _ _ (case_of c.in_ok-task.task.instance found.rules) c.in_ok-answer.answer.text.items c.in_ok-answer.answer.certificate
    c.args.branchings _ found.given (c.in_ok-answer.ensures found.rules found.closes) c.in_ok-task.ensures.loaded given c.in_ok-keep.ensures.tells.whole in
    ends_printed (solve (source_by c.args.source) given c.args.branchings) _ _ _ _ c.in_ok-answer.answer.text.items c.in_ok-answer.answer.optimal reports
    (c.in_ok-print.ensures.tells.whole ∙ ap (with_bytes (g.O.Sink.written c.args.out.now)) c.deref.ensures.value)
