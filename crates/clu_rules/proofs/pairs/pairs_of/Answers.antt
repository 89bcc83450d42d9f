use Rattle.clu_rules.specs.Rules.{RuleRequires, RuleForbids}
use Rattle.clu_rules.proofs.PairLaws.{list_of, ties_below, parts_below}
use Rattle.clu_rules.proofs.pairs.pairs_of.Goals as goal

pub returns-clause-required : goal.returns-clause-required
returns-clause-required c = list_of c.args.n c.args.rules.now (RuleRequires c.args.rules.now) c.in_ok-tied.tied c.put_all.new.required c.in_ok-required.required.items c.in_ok-tied.ensures.size c.in_ok-tied.ensures.none
    (ties_below c.args.n c.args.rules.now c.requires.below) c.in_ok-put_all.ensures.required c.in_ok-required.ensures

pub returns-clause-forbidden : goal.returns-clause-forbidden
returns-clause-forbidden c = list_of c.args.n c.args.rules.now (RuleForbids c.args.rules.now) c.in_ok-parted.parted c.put_all.new.forbidden c.in_ok-forbidden.forbidden.items c.in_ok-parted.ensures.size c.in_ok-parted.ensures.none
    (parts_below c.args.n c.args.rules.now c.requires.below) c.in_ok-put_all.ensures.forbidden c.in_ok-forbidden.ensures
