use Rattle.clu_rules.specs.Puts.{RequiredBy, ForbiddenBy}
use Rattle.clu_rules.specs.Rules.{RuleRequires, RuleForbids}
use Rattle.std.proofs.Common.{arith}
use Rattle.clu_rules.proofs.PutLaws.{puts_next, puts_end}
use Rattle.clu_rules.proofs.PairLaws.{one_below, puts_read}
use Rattle.clu_rules.proofs.pairs.put_all.Goals as goal

pub put_rule-requires-clause-one : goal.put_rule-requires-clause-one
put_rule-requires-clause-one c =
    one_below c.args.required.now.n c.loop-rule.required.n c.args.rules.now c.list-list.result.now c.loop-rule.rule-index c.rule-item.result c.requires.below c.list-list.ensures c.loop-rule-test.true c.rule-item.is c.loop-rule.invariant.0.size

pub loop-rule-preserved : goal.loop-rule-preserved
loop-rule-preserved c = (
  puts_next (RequiredBy c.args.rules.now) c.list-list.result.now c.loop-rule.rule-index c.rule-item.result c.args.required.now c.loop-rule.required c.put_rule.new.required c.loop-rule-test.true c.rule-item.is c.loop-rule.invariant.0 c.in_ok-put_rule.ensures.required,
  puts_next (ForbiddenBy c.args.rules.now) c.list-list.result.now c.loop-rule.rule-index c.rule-item.result c.args.forbidden.now c.loop-rule.forbidden c.put_rule.new.forbidden c.loop-rule-test.true c.rule-item.is c.loop-rule.invariant.1 c.in_ok-put_rule.ensures.forbidden,
  c.in_ok-put_rule.ensures.done,
)

pub returns-clause-required : goal.returns-clause-required
returns-clause-required c = puts_read (RuleRequires c.args.rules.now) c.args.rules.now c.list-list.result.now c.args.required.now c.loop-rule.required c.list-list.ensures
    (puts_end (RequiredBy c.args.rules.now) c.list-list.result.now c.loop-rule.rule-index c.args.required.now c.loop-rule.required (omega (arith, c.loop-rule-test.false, c.loop-rule.auto.rule-index-end)) c.loop-rule.invariant.0)

pub returns-clause-forbidden : goal.returns-clause-forbidden
returns-clause-forbidden c = puts_read (RuleForbids c.args.rules.now) c.args.rules.now c.list-list.result.now c.args.forbidden.now c.loop-rule.forbidden c.list-list.ensures
    (puts_end (ForbiddenBy c.args.rules.now) c.list-list.result.now c.loop-rule.rule-index c.args.forbidden.now c.loop-rule.forbidden (omega (arith, c.loop-rule-test.false, c.loop-rule.auto.rule-index-end)) c.loop-rule.invariant.1)
