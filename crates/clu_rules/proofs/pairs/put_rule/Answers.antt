use Rattle.std.proofs.Common.{◌≡◌, true, false, sym, subst}
use Rattle.clu_rules.specs.Lines.{as_rule}
use Rattle.clu_rules.specs.Puts.{Puts, OfKey, IsBelow}
use Rattle.clu_rules.specs.Rules.{RuleRequires, RuleForbids}
use Rattle.clu_rules.specs.declared.rule.Rule.{Rule}
use Rattle.clu_rules.proofs.PutLaws.{puts_one}
use Rattle.clu_rules.proofs.DoneLaws.{holds_on}
use Rattle.clu_rules.proofs.pairs.put_rule.Goals as goal

pub returns-in-Together-clause-required : goal.returns-in-Together-clause-required
returns-in-Together-clause-required c =
    let low = subst (λ (r : Rule). IsBelow c.args.required.now.n (as_rule r)) c.in-Together.is c.requires.one in
    subst (λ (r : Rule). Puts (RuleRequires c.args.rules.now (as_rule r)) c.args.required.now c.put.new.self) (sym c.in-Together.is)
    (puts_one c.args.required.now c.put.new.self c.in-Together.u c.in-Together.v c.put.ensures.grid low.0 low.1 c.put.ensures.put)

put_apart : (c : goal.After-put-in-Apart) → Puts (λ u v. (u ≡ c.in-Apart.u) × (v ≡ c.in-Apart.v)) c.args.forbidden.now c.put-in-Apart.new.self
put_apart c =
    let low = subst (λ (n : _). IsBelow n (as_rule c.args.rule.now)) (sym c.requires.one_size) c.requires.one in
    let low = subst (λ (r : Rule). IsBelow c.args.forbidden.now.n (as_rule r)) c.in-Apart.is low in
    puts_one c.args.forbidden.now c.put-in-Apart.new.self c.in-Apart.u c.in-Apart.v c.put-in-Apart.ensures.grid low.0 low.1 c.put-in-Apart.ensures.put

pub returns-in-Apart-clause-forbidden : goal.returns-in-Apart-clause-forbidden
returns-in-Apart-clause-forbidden c = subst (λ (r : Rule). Puts (RuleForbids c.args.rules.now (as_rule r)) c.args.forbidden.now c.put-in-Apart.new.self) (sym c.in-Apart.is) (put_apart c)

pub returns-in-Apart-clause-done : goal.returns-in-Apart-clause-done
returns-in-Apart-clause-done c = record {
  shared = c.requires.done.shared;
  differing = holds_on (OfKey true c.args.rules.now) _ c.args.done.now.differing c.args.forbidden.now c.put-in-Apart.new.self (put_apart c) c.requires.done.differing;
  alike = holds_on (OfKey false c.args.rules.now) _ c.args.done.now.alike c.args.forbidden.now c.put-in-Apart.new.self (put_apart c) c.requires.done.alike;
}
