use Rattle.std.proofs.Common.{◌<◌, All, List, [], sym, subst, refl, arith}
use Rattle.clu_rules.specs.Puts.{Puts, Any, ClashIn}
use Rattle.clu_rules.specs.declared.values.Value.{Value}
use Rattle.clu_rules.proofs.PutLaws.{puts_none}
use Rattle.clu_rules.proofs.PairLaws.{values_below, of_key}
use Rattle.clu_rules.proofs.pairs.put_pairs.Goals as goal

pub returns-in_default : goal.returns-in_default
returns-in_default c = of_key c.args.equal c.args.rules.now c.args.key.now [] c.args.set.now c.args.set.now c.in_default.ensures
    (puts_none (λ u v. Any (ClashIn c.args.equal []) [] u v) c.args.set.now c.args.set.now refl (λ u v w. let l = w.1.1 in omega (arith, l)))

pub put_values-requires : goal.put_values-requires
put_values-requires c = subst (λ (vs : List Value). All (λ a. a.vertex < c.args.set.now.n) vs) (sym c.as_slice.ensures)
    (values_below c.args.set.now.n c.args.rules.now c.args.key.now c.in-Some.values.now c.requires c.in-Some.ensures)

pub returns : goal.returns
returns c = of_key c.args.equal c.args.rules.now c.args.key.now c.in-Some.values.now c.args.set.now c.put_values.new.set c.in-Some.ensures
    (subst (λ (vs : List Value). Puts (λ u v. Any (ClashIn c.args.equal vs) vs u v) c.args.set.now c.put_values.new.set) c.as_slice.ensures c.put_values.ensures)
