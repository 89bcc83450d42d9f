use Rattle.std.proofs.Common.{rules, sym, ◌∙◌, ap}
use Rattle.clu_pace.specs.Pace.{kept_of}
use Rattle.clu_pace.specs.declared.error.PaceError.TheVariants.{NoHeader}
use Rattle.clu_pace.proofs.Whole.{whole, one_graph}
use Rattle.clu_pace.proofs.Refused.{no_graph, refusals_exclude, refusals_alone}
use Rattle.clu_pace.proofs.reader.read_pace.Goals as goal

pub returns-in_default-clause-none : goal.returns-in_default-clause-none
returns-in_default-clause-none c = λ _. no_graph c.args.bytes.now NoHeader (search rules)

pub returns-in_err-n-clause-none : goal.returns-in_err-n-clause-none
returns-in_err-n-clause-none c = refusals_exclude c.args.bytes.now c.from_residual.result (search rules)

pub returns-in_err-n-clause-one : goal.returns-in_err-n-clause-one
returns-in_err-n-clause-one c = refusals_alone c.args.bytes.now c.from_residual.result (search rules)

pub returns-in_err-graph-clause-none : goal.returns-in_err-graph-clause-none
returns-in_err-graph-clause-none c = refusals_exclude c.args.bytes.now c.from_residual-in_err-graph.result (search rules)

pub returns-in_err-graph-clause-one : goal.returns-in_err-graph-clause-one
returns-in_err-graph-clause-one c = refusals_alone c.args.bytes.now c.from_residual-in_err-graph.result (search rules)

pub returns-clause-graph : goal.returns-clause-graph
returns-clause-graph c =
    whole _ _ _ _ _ _ (ap kept_of (sym c.lines-rest.ensures) ∙ c.in-Some.ensures) c.in_ok-n.ensures.header c.in_ok-n.ensures.small c.in_ok-graph.ensures.n c.in_ok-graph.ensures.edges

pub returns-clause-only : goal.returns-clause-only
returns-clause-only c = λ other that. one_graph _ _ _ (returns-clause-graph c) that
