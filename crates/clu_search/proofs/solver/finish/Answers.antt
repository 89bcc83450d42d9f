use Rattle.clu_search.proofs.Permitted.{has_each_permitted}
use Rattle.clu_search.proofs.Solved.{evidence_of, made_counted, all_made}
use Rattle.clu_search.proofs.solver.finish.Goals as goal

pub returns-clause-evidence : goal.returns-clause-evidence
returns-clause-evidence c =
    evidence_of c.run.new.self c.args.search.problem.now c.args.search.start.now
    (record { partition = c.in_ok-partition.partition; certificate = c.in_ok-partition.certificate; branchings = c.branchings-branchings.result })
    c.in_ok-run.ensures.search c.in_ok-partition.ensures.certified c.in_ok-partition.ensures.partition c.branchings-branchings.ensures
    c.in_ok-run.ensures.task.problem c.in_ok-run.ensures.task.start

pub returns-clause-counted : goal.returns-clause-counted
returns-clause-counted c = made_counted c.run.new.self c.in_ok-partition.certificate c.branchings-branchings.result c.args.search.start.now
    c.in_ok-run.ensures.search c.in_ok-partition.ensures.certified c.branchings-branchings.ensures c.in_ok-run.ensures.task.start

pub returns-clause-listed : goal.returns-clause-listed
returns-clause-listed c = has_each_permitted c.args.search.start.now

pub returns-clause-stopped : goal.returns-clause-stopped
returns-clause-stopped c = all_made c.run.new.self c.in_ok-partition.certificate c.branchings-branchings.result c.args.allowed
    c.in_ok-partition.ensures.certified c.branchings-branchings.ensures c.in_ok-run.ensures.stopped
