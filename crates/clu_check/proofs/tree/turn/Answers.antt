use Rattle.std.proofs.Common.{◌∙◌, ◌++◌, ◌∷◌, [], ap}
use Rattle.clu_check.proofs.TreePaths.{turned, goes_on, waits_back, goes_back}
use Rattle.clu_check.proofs.tree.turn.Goals as goal

pub returns-in-First-clause-next : goal.returns-in-First-clause-next
returns-in-First-clause-next c = λ base _.
    let e = c.in-Some.ensures.items ∙ ap (λ x. c.pop.new.self.items ++ x ∷ []) c.in-First.is in
    c.loop-choice.invariant.waits base ∙ turned base c.loop-choice.path.items c.pop.new.self.items c.push.new.self.items c.in-First.u
    c.in-First.v e c.in_ok-push.ensures.items

pub returns-in-First-clause-path : goal.returns-in-First-clause-path
returns-in-First-clause-path c = λ base g.
    let e = c.in-Some.ensures.items ∙ ap (λ x. c.pop.new.self.items ++ x ∷ []) c.in-First.is in
    goes_on base c.loop-choice.path.items c.pop.new.self.items c.push.new.self.items c.in-First.u c.in-First.v e c.in_ok-push.ensures.items
    (c.loop-choice.invariant.path base g)

pub loop-choice-preserved : goal.loop-choice-preserved
loop-choice-preserved c =
    let e = c.in-Some.ensures.items ∙ ap (λ x. c.pop.new.self.items ++ x ∷ []) c.in_default-choice.is in record {
      waits = λ base. c.loop-choice.invariant.waits base ∙ waits_back base c.loop-choice.path.items c.pop.new.self.items
          c.in_default-choice.field-0 e;
      path = λ base g. goes_back base c.loop-choice.path.items c.pop.new.self.items _ e (c.loop-choice.invariant.path base g);
    }
