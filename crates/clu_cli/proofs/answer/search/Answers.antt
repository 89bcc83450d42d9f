use Rattle.std.proofs.Common.{ℕ, List, ◌∙◌, ap, sym, subst}
use Rattle.clu_partition.specs.Partition.{IsPartition}
use Rattle.clu_cli.specs.Instances.{vertices_of, worth}
use Rattle.clu_cli.proofs.Answered.{none_better, value_worth}
use Rattle.clu_cli.proofs.InstanceLaws.{vertices_posed}
use Rattle.clu_cli.proofs.answer.search.Goals as goal

pub solve-requires : goal.solve-requires
solve-requires c = c.requires.sized ∙ sym (vertices_posed c.args.task.now.instance c.args.task.now.problem c.requires.poses)

pub returns-clause-partition : goal.returns-clause-partition
returns-clause-partition c = subst (λ (n : ℕ). IsPartition n c.in_ok-found.found.partition) (vertices_posed c.args.task.now.instance c.args.task.now.problem c.requires.poses) c.in_ok-found.ensures.partition

pub returns-clause-value : goal.returns-clause-value
returns-clause-value c =
    let instance = c.args.task.now.instance in
    let problem = c.args.task.now.problem in
    let found = c.in_ok-found.found in
    let told = c.in_ok-found.ensures in
    let partition : IsPartition (vertices_of instance) found.certificate.labels =
    subst (λ (ls : List ℕ). IsPartition (vertices_of instance) ls) (sym told.labels)
    (subst (λ (n : ℕ). IsPartition n found.partition) (vertices_posed instance problem c.requires.poses) told.partition) in
    told.valid.value ∙ value_worth instance problem c.requires.poses c.requires.prints found.certificate.labels partition ∙ ap (worth instance) told.labels

pub returns-clause-none_better : goal.returns-clause-none_better
returns-clause-none_better c =
    none_better c.args.task.now.instance c.args.task.now.problem c.requires.poses c.requires.prints c.in_ok-found.found.certificate.bound c.args.task.now.start
    c.in_ok-found.ensures.none_better
