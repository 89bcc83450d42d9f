use Rattle.std.proofs.Common.{◌≡◌, ℕ, pos, sym, subst}
use Rattle.clu_cli.specs.Instances.{scale_of}
use Rattle.clu_cli.proofs.InstanceLaws.{scale_posed}
use Rattle.clu_cli.proofs.answer.facts_of.Goals as goal

pub returns-clause-scale : goal.returns-clause-scale
returns-clause-scale c =
    subst (λ (n : ℕ). pos n ≡ scale_of c.args.task.now.instance) (sym c.scale_of.ensures) (scale_posed c.args.task.now.instance c.args.task.now.problem c.requires)
