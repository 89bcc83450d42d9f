use Rattle.clu_rules.proofs.AttributeLaws.{values_found}
use Rattle.clu_rules.proofs.attributes.Attributes.of.Goals as goal

pub returns : goal.returns
returns c = λ rs m. values_found rs c.args.key.now c.get.result _ c.get.ensures.value (m.values c.args.key.now)
