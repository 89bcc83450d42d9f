use Rattle.std.proofs.Common.{subst}
use Rattle.clu_cli.proofs.Asked.{asked_of}
use Rattle.clu_cli.specs.Verdicts.{Ends}
use Rattle.clu_cli.specs.Words.{Command, IsCommand, asked_by}
use Rattle.clu_cli.specs.declared.words.Command.{Command as Read}
use Rattle.clu_cli.proofs.commands.work.Goals as goal

pub returns-in-Some-Solve-clause-ends : goal.returns-in-Some-Solve-clause-ends
returns-in-Some-Solve-clause-ends g c =
    asked_of c.args.words.now _ (λ (command : Command). Ends command (g.F.Folder.told c.args.folder.now) (g.F.Folder.told c.solve_source.new.folder)
    (g.O.Sink.written c.args.out.now) (g.O.Sink.written c.solve_source.new.out) c.solve_source.result)
    (subst (λ (read : Read). IsCommand c.args.words.now (asked_by read)) c.in-Some-Solve.field-0-is c.in-Some-Solve.ensures) c.solve_source.ensures.ends

pub returns-in-Some-Check-clause-ends : goal.returns-in-Some-Check-clause-ends
returns-in-Some-Check-clause-ends g c =
    asked_of c.args.words.now _ (λ (command : Command). Ends command (g.F.Folder.told c.args.folder.now) (g.F.Folder.told c.check_source.new.folder)
    (g.O.Sink.written c.args.out.now) (g.O.Sink.written c.check_source.new.out) c.check_source.result)
    (subst (λ (read : Read). IsCommand c.args.words.now (asked_by read)) c.in-Some-Check.field-0-is c.in-Some-Check.ensures) c.check_source.ensures.ends
