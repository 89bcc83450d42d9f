use Rattle.std.proofs.Common.{ap, sym, subst, ◌∙◌, map, ◌++◌, ◌∷◌, [], List}
use Rattle.std.proofs.lemmas.List.{map_push}
use Rattle.clu_rules.specs.Lines.{as_rule, Rule}
use Rattle.clu_rules.specs.Attributes.{AreAttributes}
use Rattle.clu_rules.proofs.rule_set.RuleSet.with.Goals as goal

pub invariant_of-result : goal.invariant_of-result
invariant_of-result c = subst (λ (rs : List Rule). AreAttributes rs c.note.new.self)
    (sym (ap (map as_rule) c.in_ok-push.ensures.ok ∙ map_push as_rule c.self.inside.list c.copy_of.result ∙ ap (λ (r : Rule). map as_rule c.self.inside.list ++ r ∷ []) c.copy_of.ensures))
    (c.in_ok-note.ensures.takes (map as_rule c.self.inside.list) c.self.invariant)
