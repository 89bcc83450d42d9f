use Rattle.std.proofs.Common.{take}
use Rattle.clu_rules.specs.Puts.{Puts, Any, RequiredBy, ForbiddenBy}
use Rattle.clu_rules.specs.Done.{AreDone}
use Rattle.clu_rules.proofs.pairs.put_all.Given as goal

abbrev pub invariant-loop-rule : goal.invariant-loop-rule
invariant-loop-rule l =
    Puts (Any (RequiredBy l.rules) (take l.rule-index l.list)) l.initial.required l.required
    × Puts (Any (ForbiddenBy l.rules) (take l.rule-index l.list)) l.initial.forbidden l.forbidden
    × AreDone l.rules l.done l.required l.forbidden
