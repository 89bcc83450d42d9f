use Rattle.std.proofs.Common.{◌≡◌, ◌≤ℤ◌, ◌<ℤ◌, ◌≤◌, sym, subst, arith}
use Rattle.std.proofs.lemmas.Int.{ints}
use Rattle.clu_tree.proofs.SplitLaws.{leaf_key}
use Rattle.clu_tree.proofs.tree.Tree.best_leaf.Goals as goal

pub returns-then-top-best-clause-key : goal.returns-then-top-best-clause-key
returns-then-top-best-clause-key c = let l = c.greatest-top.ensures.leaf in leaf_key _ l.0 _ l.1

pub returns-then-top-best-clause-some : goal.returns-then-top-best-clause-some
returns-then-top-best-clause-some c =
    let l = c.greatest-top.ensures.leaf in
    let h = c.if-top-best.true in (
      l.0,
      l.1,
      subst (λ b. c.args.best <ℤ b) (sym l.2) (grind (arith, ints, h)),
      (λ other b m. subst (λ z. (b.bound ≤ℤ z) × (b.bound ≡ z → c.greatest-top.result.1 ≤ other)) (sym l.2) (c.greatest-top.ensures.others other b m)),
    )

pub returns-else-top-best-clause-none : goal.returns-else-top-best-clause-none
returns-else-top-best-clause-none c = λ key node l.
    let o = (c.greatest-top.ensures.others key node l).0 in
    let h = c.if-top-best.false in
    grind (arith, ints, h, o)
