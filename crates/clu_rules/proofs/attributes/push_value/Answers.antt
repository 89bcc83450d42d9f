use Rattle.std.proofs.Common.{rules, subst}
use Rattle.clu_rules.specs.Attributes.{PushesValue}
use Rattle.clu_rules.proofs.AttributeLaws.{value_pushed}
use Rattle.clu_rules.proofs.attributes.push_value.Goals as goal

pub returns-in-Some : goal.returns-in-Some
returns-in-Some c = value_pushed c.args.key.now c.args.table.now (c.get_mut.follows.lender c.push.new.self) (record { vertex = c.args.vertex; value = c.args.value }) c.push.new.self
    ((c.get_mut.follows.holds c.push.new.self).3 (search rules)) (search rules)

pub returns : goal.returns
returns c = subst (λ m. PushesValue c.args.key.now (record { vertex = c.args.vertex; value = c.args.value }) m c.insert.new.self) c.get_mut.follows.holds-at-none
    (value_pushed c.args.key.now c.get_mut.follows.lender-at-none c.insert.new.self (record { vertex = c.args.vertex; value = c.args.value }) c.push-2.new.self c.in_ok-insert.ensures.updates (search rules))
