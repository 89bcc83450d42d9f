use Rattle.std.proofs.Common.{◌≡◌, ◌∙◌, sym, subst, ap, arith, take, length, ℕ, List}
use Rattle.std.proofs.Math.Seq.{take-length}
use Rattle.clu_partition.specs.Pairs.{weight_of}
use Rattle.clu_state.specs.State.{leader}
use Rattle.clu_rows.specs.Rows.{TwoSet, priced}
use Rattle.clu_rows.specs.Faults.{IsRow}
use Rattle.clu_rows.proofs.RowLaws.{cells_small, priced_next, row_worth_small}
use Rattle.clu_rows.proofs.prices.add_rows.Goals as goal

pub add_row-requires-clause-row : goal.add_row-requires-clause-row
add_row-requires-clause-row g c = subst (IsRow (g.S.Situation.state c.args.state.now)) (sym (c.row.ensures c.row.result)) (c.requires.rows.each c.loop-i.i c.row.result (let e = c.len-i-end.ensures in let l = c.loop-i-test.true in omega (arith, e, l)))

pub add_row-requires-clause-worth : goal.add_row-requires-clause-worth
add_row-requires-clause-worth g c = let h = row_worth_small (g.S.Situation.state c.args.state.now) c.loop-i.i c.row.result c.args.rows.now (let e = c.len-i-end.ensures in let l = c.loop-i-test.true in omega (arith, e, l)) (c.row.ensures c.row.result) c.requires.rows in omega (arith, h)

pub add_row-requires-clause-small : goal.add_row-requires-clause-small
add_row-requires-clause-small g c = λ x z i j.
    cells_small (g.S.Situation.state c.args.state.now) c.loop-i.scratch c.loop-i.i c.row.result c.args.rows.now x z (let e = c.len-i-end.ensures in let l = c.loop-i-test.true in omega (arith, e, l)) (c.row.ensures c.row.result) c.requires.rows (c.loop-i.invariant.sums x z i j)

pub loop-i-preserved : goal.loop-i-preserved
loop-i-preserved g c =
    let e = c.add_row.ensures in
    let i = c.loop-i.invariant in
    record {
      size = e.size ∙ i.size;
      sums = λ x z p q d.
          priced_next (leader (g.S.Situation.state c.args.state.now)) c.loop-i.i c.row.result c.args.rows.now x z (weight_of c.loop-i.scratch x z) (weight_of c.add_row.new.scratch x z) (let e = c.len-i-end.ensures in let l = c.loop-i-test.true in omega (arith, e, l)) (c.row.ensures c.row.result) (e.sums x z p q d) (i.sums x z p q d);
    }

pub returns-clause-sums : goal.returns-clause-sums
returns-clause-sums g c = λ x z i j d.
    let e = c.len-i-end.ensures in
    let l : c.loop-i.i ≡ length c.args.rows.now = omega (arith, e) in
    c.loop-i.invariant.sums x z i j d ∙ ap (λ (rs : List TwoSet). priced (leader (g.S.Situation.state c.args.state.now)) rs x z) (ap (λ (k : ℕ). take k c.args.rows.now) l ∙ take-length c.args.rows.now)
