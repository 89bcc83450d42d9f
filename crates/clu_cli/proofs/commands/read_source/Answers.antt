use Rattle.std.proofs.Common.{refl}
use Rattle.clu_cli.proofs.Sources.{all_loaded, gives_only, passed_source, stops_graph, stops_rules}
use Rattle.clu_cli.specs.Words.{source_by}
use Rattle.clu_cli.proofs.commands.read_source.Goals as goal

pub returns-in_err-instance-clause-stops : goal.returns-in_err-instance-clause-stops
returns-in_err-instance-clause-stops g c =
    passed_source _ _ _ _ c.from_residual.result c.from_residual.ensures.1
    (stops_graph (source_by c.args.source) (g.F.Folder.told c.args.folder.now) (g.F.Folder.told c.read_graph.new.folder) (g.F.Folder.told c.read_graph.new.folder)
    c.in_err-instance.field-0.0 c.in_err-instance.ensures.stops c.in_err-instance.ensures.after)

pub returns-in_err-start-clause-stops : goal.returns-in_err-start-clause-stops
returns-in_err-start-clause-stops g c =
    let source = source_by c.args.source in
    passed_source _ _ _ _ c.from_residual-in_err-start.result c.from_residual-in_err-start.ensures.1
    (stops_rules source (g.F.Folder.told c.args.folder.now) (g.F.Folder.told c.read_graph.new.folder) (g.F.Folder.told c.read_rules.new.folder)
    c.in_ok-instance.field-0.instance c.in_ok-instance.ensures.found.gives c.in_ok-instance.ensures.after source.rules refl
    c.in_err-start.field-0.0 c.in_err-start.ensures.stops c.in_err-start.ensures.after)

pub returns-clause-found : goal.returns-clause-found
returns-clause-found g c =
    let source = source_by c.args.source in
    let closes = c.in_ok-start.ensures.closes in
    let told = g.F.Folder.told c.args.folder.now in
    let instance = c.in_ok-instance.field-0.instance in
    let start = c.in_ok-start.start in
    record {
      rules = closes.rules;
      given = gives_only source told (g.F.Folder.told c.read_graph.new.folder) told instance start c.in_ok-instance.ensures.found c.in_ok-instance.ensures.after closes;
      closes = closes.closes;
      poses = c.in_ok-instance.ensures.poses;
      prints = c.in_ok-instance.ensures.prints;
    }

pub returns-clause-loaded : goal.returns-clause-loaded
returns-clause-loaded g c =
    let source = source_by c.args.source in
    all_loaded source (g.F.Folder.told c.args.folder.now) (g.F.Folder.told c.read_graph.new.folder) (g.F.Folder.told c.read_rules.new.folder) source.rules refl
    c.in_ok-instance.ensures.after c.in_ok-start.ensures.after
