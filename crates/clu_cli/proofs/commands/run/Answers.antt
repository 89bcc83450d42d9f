use Rattle.std.proofs.Common.{arith, inl, inr}
use Rattle.clu_cli.specs.Verdicts.{absent, contradicted, refused, too_long, turned_down}
use Rattle.clu_cli.proofs.Decided.{cut_short_with, decided_where_told, stops_with, tells_cause, unmade_with, unread_with}
use Rattle.clu_cli.proofs.commands.run.Goals as goal

pub returns-clause-turned_down : goal.returns-clause-turned_down
returns-clause-turned_down g c = λ is.
    stops_with c.args.words.now (g.F.Folder.told c.args.folder.now) (g.F.Folder.told c.work-end.new.folder) (g.O.Sink.written c.args.out.now) (g.O.Sink.written c.work-end.new.out)
    c.work-end.result c.finish.result c.finish.ensures.status c.work-end.ensures.ends turned_down is (omega (arith, is)) (inl (omega (arith, is)))

pub returns-clause-refused : goal.returns-clause-refused
returns-clause-refused g c = λ is.
    stops_with c.args.words.now (g.F.Folder.told c.args.folder.now) (g.F.Folder.told c.work-end.new.folder) (g.O.Sink.written c.args.out.now) (g.O.Sink.written c.work-end.new.out)
    c.work-end.result c.finish.result c.finish.ensures.status c.work-end.ensures.ends refused is (omega (arith, is)) (inl (omega (arith, is)))

pub returns-clause-contradicted : goal.returns-clause-contradicted
returns-clause-contradicted g c = λ is.
    stops_with c.args.words.now (g.F.Folder.told c.args.folder.now) (g.F.Folder.told c.work-end.new.folder) (g.O.Sink.written c.args.out.now) (g.O.Sink.written c.work-end.new.out)
    c.work-end.result c.finish.result c.finish.ensures.status c.work-end.ensures.ends contradicted is (omega (arith, is)) (inl (omega (arith, is)))

pub returns-clause-too_long : goal.returns-clause-too_long
returns-clause-too_long g c = λ is.
    stops_with c.args.words.now (g.F.Folder.told c.args.folder.now) (g.F.Folder.told c.work-end.new.folder) (g.O.Sink.written c.args.out.now) (g.O.Sink.written c.work-end.new.out)
    c.work-end.result c.finish.result c.finish.ensures.status c.work-end.ensures.ends too_long is (omega (arith, is)) (inr (omega (arith, is)))

pub returns-clause-absent : goal.returns-clause-absent
returns-clause-absent g c = λ is.
    stops_with c.args.words.now (g.F.Folder.told c.args.folder.now) (g.F.Folder.told c.work-end.new.folder) (g.O.Sink.written c.args.out.now) (g.O.Sink.written c.work-end.new.out)
    c.work-end.result c.finish.result c.finish.ensures.status c.work-end.ensures.ends absent is (omega (arith, is)) (inr (omega (arith, is)))

pub returns-clause-decided : goal.returns-clause-decided
returns-clause-decided g c =
    decided_where_told c.args.words.now (g.F.Folder.told c.args.folder.now) (g.F.Folder.told c.work-end.new.folder) (g.O.Sink.written c.args.out.now) (g.O.Sink.written c.work-end.new.out)
    c.work-end.result c.finish.result c.finish.ensures.status c.work-end.ensures.ends

pub returns-clause-found : goal.returns-clause-found
returns-clause-found g c = λ is.
    tells_cause c.args.words.now (g.F.Folder.told c.args.folder.now) (g.F.Folder.told c.work-end.new.folder) (g.O.Sink.written c.args.out.now) (g.O.Sink.written c.work-end.new.out)
    _ _ c.work-end.result c.finish.result c.finish.ensures.status c.work-end.ensures.ends c.finish.ensures.told (omega (arith, is)) (inl (omega (arith, is)))

pub returns-clause-refusal : goal.returns-clause-refusal
returns-clause-refusal g c = λ is.
    tells_cause c.args.words.now (g.F.Folder.told c.args.folder.now) (g.F.Folder.told c.work-end.new.folder) (g.O.Sink.written c.args.out.now) (g.O.Sink.written c.work-end.new.out)
    _ _ c.work-end.result c.finish.result c.finish.ensures.status c.work-end.ensures.ends c.finish.ensures.told (omega (arith, is)) (inl (omega (arith, is)))

pub returns-clause-contradiction : goal.returns-clause-contradiction
returns-clause-contradiction g c = λ is.
    tells_cause c.args.words.now (g.F.Folder.told c.args.folder.now) (g.F.Folder.told c.work-end.new.folder) (g.O.Sink.written c.args.out.now) (g.O.Sink.written c.work-end.new.out)
    _ _ c.work-end.result c.finish.result c.finish.ensures.status c.work-end.ensures.ends c.finish.ensures.told (omega (arith, is)) (inl (omega (arith, is)))

pub returns-clause-unread : goal.returns-clause-unread
returns-clause-unread g c =
    unread_with c.args.words.now (g.F.Folder.told c.args.folder.now) (g.F.Folder.told c.work-end.new.folder) (g.O.Sink.written c.args.out.now) (g.O.Sink.written c.work-end.new.out)
    c.work-end.result c.finish.result c.finish.ensures.status c.work-end.ensures.ends

pub returns-clause-cut_short : goal.returns-clause-cut_short
returns-clause-cut_short g c =
    cut_short_with c.args.words.now (g.F.Folder.told c.args.folder.now) (g.F.Folder.told c.work-end.new.folder) (g.O.Sink.written c.args.out.now) (g.O.Sink.written c.work-end.new.out)
    c.work-end.result c.finish.result c.finish.ensures.status c.work-end.ensures.ends

pub returns-clause-memory : goal.returns-clause-memory
returns-clause-memory g c =
    unmade_with c.args.words.now (g.F.Folder.told c.args.folder.now) (g.F.Folder.told c.work-end.new.folder) (g.O.Sink.written c.args.out.now) (g.O.Sink.written c.work-end.new.out)
    c.work-end.result c.finish.result c.finish.ensures.status c.work-end.ensures.ends
