use Rattle.std.proofs.Common.{◌≡◌, None, sym, ◌∙◌, ap, arith}
use Rattle.std.proofs.lemmas.Int.{ints}
use Rattle.clu_objective.specs.Lines.{all_sizes, first_negative}
use Rattle.clu_objective.proofs.LineLaws.{are_below}
use Rattle.clu_objective.proofs.ModularLaws.{prints_modularity}
use Rattle.clu_objective.proofs.ModularSizes.{all_is, none_below}
use Rattle.clu_objective.proofs.modularity.pairs_of_modularity.Goals as goal

pub returns-then-sum-eq0 : goal.returns-then-sum-eq0
returns-then-sum-eq0 c =
    let none : first_negative c.args.network.now.lines ≡ None = ap first_negative (sym c.lines.ensures.lines) ∙ sym c.first_negative.ensures ∙ c.in_default.is in
    let is : c.sizes-sum.result ≡ all_sizes c.args.network.now.lines = c.sizes-sum.ensures ∙ ap all_sizes c.lines-2.ensures.lines in
    let all = all_is c.args.network.now.lines (none_below c.args.network.now.lines none) in
    (none, omega (arith, ints, all, is, c.if-sum-eq0.true))

pub returns-then-sum-gt-MAX_WEIGHT : goal.returns-then-sum-gt-MAX_WEIGHT
returns-then-sum-gt-MAX_WEIGHT c =
    let none : first_negative c.args.network.now.lines ≡ None = ap first_negative (sym c.lines.ensures.lines) ∙ sym c.first_negative.ensures ∙ c.in_default.is in
    let is : c.sizes-sum.result ≡ all_sizes c.args.network.now.lines = c.sizes-sum.ensures ∙ ap all_sizes c.lines-2.ensures.lines in
    let all = all_is c.args.network.now.lines (none_below c.args.network.now.lines none) in
    (none, omega (arith, ints, all, is), omega (arith, c.if-sum-gt-MAX_WEIGHT.true))

pub pose-requires-clause-sum : goal.pose-requires-clause-sum
pose-requires-clause-sum c =
    let none : first_negative c.args.network.now.lines ≡ None = ap first_negative (sym c.lines.ensures.lines) ∙ sym c.first_negative.ensures ∙ c.in_default.is in
    let is : c.sizes-sum.result ≡ all_sizes c.args.network.now.lines = c.sizes-sum.ensures ∙ ap all_sizes c.lines-2.ensures.lines in
    let all = all_is c.args.network.now.lines (none_below c.args.network.now.lines none) in
    omega (arith, ints, all, is)

pub returns : goal.returns
returns c =
    let none : first_negative c.args.network.now.lines ≡ None = ap first_negative (sym c.lines.ensures.lines) ∙ sym c.first_negative.ensures ∙ c.in_default.is in
    let is : c.sizes-sum.result ≡ all_sizes c.args.network.now.lines = c.sizes-sum.ensures ∙ ap all_sizes c.lines-2.ensures.lines in
    let all = all_is c.args.network.now.lines (none_below c.args.network.now.lines none) in
    let some = c.if-sum-eq0.false in
    let few = c.if-sum-gt-MAX_WEIGHT.false in
    (none, (λ e. some (omega (arith, ints, all, is, e))), omega (arith, ints, all, is, few), c.in_ok-pose.ensures, prints_modularity _ _ (are_below _ _ c.lines.ensures.within) c.in_ok-pose.ensures)
