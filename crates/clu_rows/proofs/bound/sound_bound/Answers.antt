use Rattle.std.proofs.Common.{◌∙◌, ◌≤ℤ◌, ℤ, List, Contains, ℕ, sym, subst, arith}
use Rattle.std.proofs.lemmas.Int.{ints}
use Rattle.clu_partition.specs.Pairs.{weight_of}
use Rattle.clu_partition.specs.Values.{value_on}
use Rattle.clu_rows.proofs.RowLaws.{all_cells_small}
use Rattle.clu_rows.proofs.BoundLaws.{excess_is, excess_most, bound_fits, bound_is, limit_size, excess_size, rows_bound}
use Rattle.clu_rows.proofs.bound.sound_bound.Goals as goal

pub add_rows-requires-clause-clear : goal.add_rows-requires-clause-clear
add_rows-requires-clause-clear g c = λ x z i j. c.clear.ensures.clear x z (subst (λ (m : List ℕ). Contains m x) (sym c.members.ensures.value) i) (subst (λ (m : List ℕ). Contains m z) (sym c.members.ensures.value) j)

pub excess-left-requires-clause-cells : goal.excess-left-requires-clause-cells
excess-left-requires-clause-cells g c = λ x z i j. all_cells_small (g.S.Situation.state c.args.state.now) c.add_rows.new.scratch c.args.leaf.now.rows x z c.requires.rows (λ d. c.add_rows.ensures.sums x z i j d)

pub excess-left-requires-clause-small : goal.excess-left-requires-clause-small
excess-left-requires-clause-small g c =
    let e = excess_is (g.S.Situation.state c.args.state.now) c.members.ensures.valid c.args.leaf.now.den c.add_rows.new.scratch c.args.leaf.now.rows (λ x z i j d. c.add_rows.ensures.sums x z i j d) in
    let h = excess_most (g.S.Situation.state c.args.state.now) c.members.ensures.valid c.args.leaf.now.den c.args.leaf.now.rows c.requires.den.1 c.requires.rows in
    omega (arith, ints, e, h)

pub overflow_add-result : goal.overflow_add-result
overflow_add-result g c =
    let h = (limit_size (g.S.Situation.state c.args.state.now) c.args.leaf.now.rows c.row_limit-covered.result c.requires.rows (c.row_limit-covered.ensures)) in
    let k = (excess_size (g.S.Situation.state c.args.state.now) c.members.ensures.valid c.args.leaf.now.den c.args.leaf.now.rows c.excess-left.result c.requires.den.1 c.requires.rows (c.excess-left.ensures ∙ excess_is (g.S.Situation.state c.args.state.now) c.members.ensures.valid c.args.leaf.now.den c.add_rows.new.scratch c.args.leaf.now.rows (λ x z i j d. c.add_rows.ensures.sums x z i j d))) in
    omega (arith, h, k)

pub overflow_cast-result-2 : goal.overflow_cast-result-2
overflow_cast-result-2 g c = (bound_fits (g.S.Situation.state c.args.state.now) c.members.ensures.valid c.fixed_value.result c.row_limit-covered.result c.excess-left.result c.args.leaf.now.den c.fixed_value.ensures (limit_size (g.S.Situation.state c.args.state.now) c.args.leaf.now.rows c.row_limit-covered.result c.requires.rows (c.row_limit-covered.ensures)) (excess_size (g.S.Situation.state c.args.state.now) c.members.ensures.valid c.args.leaf.now.den c.args.leaf.now.rows c.excess-left.result c.requires.den.1 c.requires.rows (c.excess-left.ensures ∙ excess_is (g.S.Situation.state c.args.state.now) c.members.ensures.valid c.args.leaf.now.den c.add_rows.new.scratch c.args.leaf.now.rows (λ x z i j d. c.add_rows.ensures.sums x z i j d)))).cast

pub overflow_add-result-2 : goal.overflow_add-result-2
overflow_add-result-2 g c = (bound_fits (g.S.Situation.state c.args.state.now) c.members.ensures.valid c.fixed_value.result c.row_limit-covered.result c.excess-left.result c.args.leaf.now.den c.fixed_value.ensures (limit_size (g.S.Situation.state c.args.state.now) c.args.leaf.now.rows c.row_limit-covered.result c.requires.rows (c.row_limit-covered.ensures)) (excess_size (g.S.Situation.state c.args.state.now) c.members.ensures.valid c.args.leaf.now.den c.args.leaf.now.rows c.excess-left.result c.requires.den.1 c.requires.rows (c.excess-left.ensures ∙ excess_is (g.S.Situation.state c.args.state.now) c.members.ensures.valid c.args.leaf.now.den c.add_rows.new.scratch c.args.leaf.now.rows (λ x z i j d. c.add_rows.ensures.sums x z i j d)))).sum

pub returns-clause-value : goal.returns-clause-value
returns-clause-value g c = ((bound_fits (g.S.Situation.state c.args.state.now) c.members.ensures.valid c.fixed_value.result c.row_limit-covered.result c.excess-left.result c.args.leaf.now.den c.fixed_value.ensures (limit_size (g.S.Situation.state c.args.state.now) c.args.leaf.now.rows c.row_limit-covered.result c.requires.rows (c.row_limit-covered.ensures)) (excess_size (g.S.Situation.state c.args.state.now) c.members.ensures.valid c.args.leaf.now.den c.args.leaf.now.rows c.excess-left.result c.requires.den.1 c.requires.rows (c.excess-left.ensures ∙ excess_is (g.S.Situation.state c.args.state.now) c.members.ensures.valid c.args.leaf.now.den c.add_rows.new.scratch c.args.leaf.now.rows (λ x z i j d. c.add_rows.ensures.sums x z i j d)))).value ∙ bound_is (g.S.Situation.state c.args.state.now) c.args.leaf.now.den c.args.leaf.now.rows c.fixed_value.result c.row_limit-covered.result c.excess-left.result c.fixed_value.ensures (c.row_limit-covered.ensures) (c.excess-left.ensures ∙ excess_is (g.S.Situation.state c.args.state.now) c.members.ensures.valid c.args.leaf.now.den c.add_rows.new.scratch c.args.leaf.now.rows (λ x z i j d. c.add_rows.ensures.sums x z i j d)))

pub returns-clause-sound : goal.returns-clause-sound
returns-clause-sound g c = λ label k. subst (λ (b : ℤ). value_on (weight_of (g.S.Situation.state c.args.state.now).pairs) label (g.S.Situation.state c.args.state.now).members ≤ℤ b) (sym ((bound_fits (g.S.Situation.state c.args.state.now) c.members.ensures.valid c.fixed_value.result c.row_limit-covered.result c.excess-left.result c.args.leaf.now.den c.fixed_value.ensures (limit_size (g.S.Situation.state c.args.state.now) c.args.leaf.now.rows c.row_limit-covered.result c.requires.rows (c.row_limit-covered.ensures)) (excess_size (g.S.Situation.state c.args.state.now) c.members.ensures.valid c.args.leaf.now.den c.args.leaf.now.rows c.excess-left.result c.requires.den.1 c.requires.rows (c.excess-left.ensures ∙ excess_is (g.S.Situation.state c.args.state.now) c.members.ensures.valid c.args.leaf.now.den c.add_rows.new.scratch c.args.leaf.now.rows (λ x z i j d. c.add_rows.ensures.sums x z i j d)))).value ∙ bound_is (g.S.Situation.state c.args.state.now) c.args.leaf.now.den c.args.leaf.now.rows c.fixed_value.result c.row_limit-covered.result c.excess-left.result c.fixed_value.ensures (c.row_limit-covered.ensures) (c.excess-left.ensures ∙ excess_is (g.S.Situation.state c.args.state.now) c.members.ensures.valid c.args.leaf.now.den c.add_rows.new.scratch c.args.leaf.now.rows (λ x z i j d. c.add_rows.ensures.sums x z i j d)))) (rows_bound (g.S.Situation.state c.args.state.now) c.members.ensures.valid c.args.leaf.now.den c.args.leaf.now.rows c.requires.den.0 c.requires.rows label k)
