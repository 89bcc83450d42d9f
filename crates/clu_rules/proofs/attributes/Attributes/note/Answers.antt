use Rattle.clu_rules.specs.Lines.{as_rule}
use Rattle.clu_rules.proofs.AttributeLaws.{attribute_kept, no_value}
use Rattle.clu_rules.proofs.attributes.Attributes.note.Goals as goal

pub returns-in_default : goal.returns-in_default
returns-in_default c = attribute_kept (as_rule c.args.rule.now) c.args.self.now (no_value c.args.rule.now c.in_default.not-Attribute)
