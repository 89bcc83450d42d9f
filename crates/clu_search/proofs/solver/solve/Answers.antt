use Rattle.clu_search.proofs.Solved.{evidence_for}
use Rattle.clu_search.proofs.solver.solve.Goals as goal

pub returns-clause-none_better : goal.returns-clause-none_better
returns-clause-none_better c = (evidence_for _ c.args.problem.now _ c.args.start.now c.in_ok-evidence.evidence c.in_ok-search.ensures.problem
    c.in_ok-search.ensures.start c.in_ok-evidence.ensures.evidence).none_better
