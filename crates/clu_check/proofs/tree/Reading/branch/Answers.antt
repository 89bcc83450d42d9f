use Rattle.std.proofs.Common.{◌∙◌, sym}
use Rattle.std.proofs.lemmas.Bool.{false≢true}
use Rattle.clu_cert.specs.Upper.{IsBadStep}
use Rattle.clu_cert.specs.declared.certificate.Item.TheVariants.{Branch}
use Rattle.clu_check.proofs.TreeReads.{refused}
use Rattle.clu_check.proofs.tree.Reading.branch.Goals as goal

pub returns-then-not-is_free-clause-step : goal.returns-then-not-is_free-clause-step
returns-then-not-is_free-clause-step c = λ _. refused IsBadStep c.args.self.now (Branch c.args.u c.args.v) c.requires.some (λ f. false≢true
    (sym c.if-not-is_free.true ∙ c.is_free.ensures.1 f))
