use Rattle.std.proofs.Common.{arith}
use Rattle.clu_cli.proofs.Sources.{gives_graph}
use Rattle.clu_cli.proofs.commands.read_graph.Goals as goal

pub returns-in-Ok-clause-found : goal.returns-in-Ok-clause-found
returns-in-Ok-clause-found g c =
    let tells = c.in_ok-bytes.ensures.tells in
    gives_graph c.args.source.file.now c.args.source.form (g.F.Folder.told c.args.folder.now) c.in_ok-bytes.bytes.items c.deref.result.now c.in-Ok.input.instance tells.found
    (tells.within (omega arith)) c.deref.ensures.value c.in-Ok.ensures.read
