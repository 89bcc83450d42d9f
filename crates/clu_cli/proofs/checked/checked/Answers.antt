use Rattle.std.proofs.Common.{◌∙◌, sym}
use Rattle.clu_cli.specs.Cases.{case_of}
use Rattle.clu_cli.proofs.Checking.{none_certifies, proves, turns_down, within_of}
use Rattle.clu_cli.proofs.InstanceLaws.{vertices_posed}
use Rattle.clu_cli.proofs.checked.checked.Goals as goal

pub check-requires : goal.check-requires
check-requires c = c.requires.sized ∙ sym (vertices_posed c.args.task.now.instance c.args.task.now.problem c.requires.poses)

pub turned_down-requires : goal.turned_down-requires
turned_down-requires c =
    let task = c.args.task.now in
    within_of _ task.problem task.start c.in-Ok.certificate c.in-Err.reject c.in-Err.ensures.rejected
    (vertices_posed task.instance task.problem c.requires.poses ∙ sym c.n-vertices.ensures.n ∙ c.n-vertices.ensures.names)

pub returns-in-Ok-check-clause-proof : goal.returns-in-Ok-check-clause-proof
returns-in-Ok-check-clause-proof c = λ rules closes.
    let told = c.in-Ok-check.ensures in
    proves c.args.task.now.instance rules c.args.task.now.problem c.requires.poses c.args.task.now.start closes c.args.bytes.now c.in-Ok.certificate c.in-Ok.ensures.only c.requires.prints
    c.in-Ok.ensures.found.0 c.in-Ok.ensures.found.1 told.valid c.in-Ok-check.accepted.value c.in-Ok-check.accepted.bound told.value told.bound told.none_better
    c.objective.result c.objective.ensures c.n-vertices.result c.n-vertices.ensures.n c.scale_of.result c.scale_of.ensures
    c.in_ok-report-in-Ok-check.report.items c.in_ok-report-in-Ok-check.ensures

pub returns-clause-stops : goal.returns-clause-stops
returns-clause-stops c = λ rules closes.
    let task = c.args.task.now in
    turns_down (case_of task.instance rules) c.args.bytes.now c.in-Err.reject
    (λ some. none_certifies task.instance rules task.problem c.requires.poses task.start closes c.args.bytes.now c.in-Ok.certificate c.in-Ok.ensures.only (c.in-Err.ensures.invalid some))
    (record {
      cert = c.in-Ok.certificate;
      fits = c.in-Ok.ensures.found.0;
      read = c.in-Ok.ensures.found.1;
      problem = task.problem;
      poses = c.requires.poses;
      start = task.start;
      closes = closes;
      rejected = c.in-Err.ensures.rejected;
    })
    c.turned_down.result c.turned_down.ensures
