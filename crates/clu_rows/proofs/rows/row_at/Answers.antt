use Rattle.std.proofs.Common.{◌∙◌, ap, arith, List, ℕ, slice_index_or, slice_range}
use Rattle.std.proofs.lemmas.List.{get_or_default}
use Rattle.clu_rows.specs.declared.rows.RowEnd.{RowEnd}
use Rattle.clu_rows.specs.Flat.{start_at}
use Rattle.clu_rows.proofs.FlatLaws.{Stands, row_stands, two_set}
use Rattle.clu_rows.proofs.rows.row_at.Goals as goal

abbrev none : RowEnd
none = record { middle = 0; end = 0; y = 0 }

stands : (c : goal.After-start_of-start) → Stands c.args.vertices.now 0 c.args.ends.now c.args.i (slice_index_or c.args.ends.now c.args.i none)
stands c = row_stands c.args.vertices.now 0 c.args.ends.now c.args.i (slice_index_or c.args.ends.now c.args.i none) c.requires.ends c.requires.i (get_or_default c.args.ends.now c.args.i none _ c.requires.i)

pub part-requires-clause-from : goal.part-requires-clause-from
part-requires-clause-from c = let f = (stands c).first in let e = c.start_of-start.ensures in omega (arith, e, f)

pub part-requires-clause-upto : goal.part-requires-clause-upto
part-requires-clause-upto c = let f = (stands c).second in let e = (stands c).within in omega (arith, e, f)

pub part-requires-2-clause-from : goal.part-requires-2-clause-from
part-requires-2-clause-from c = (row_stands c.args.vertices.now 0 c.args.ends.now c.args.i (slice_index_or c.args.ends.now c.args.i none) c.requires.ends c.requires.i (get_or_default c.args.ends.now c.args.i none _ c.requires.i)).second

pub part-requires-2-clause-upto : goal.part-requires-2-clause-upto
part-requires-2-clause-upto c = (row_stands c.args.vertices.now 0 c.args.ends.now c.args.i (slice_index_or c.args.ends.now c.args.i none) c.requires.ends c.requires.i (get_or_default c.args.ends.now c.args.i none _ c.requires.i)).within

pub returns : goal.returns
returns c = λ d.
    let e : RowEnd = slice_index_or c.args.ends.now c.args.i none in
    ap (λ (xs : List ℕ). two_set xs c.part-2.result.now e.y) (c.part.ensures ∙ ap (λ (k : ℕ). slice_range c.args.vertices.now k e.middle) c.start_of-start.ensures)
    ∙ ap (λ (xs : List ℕ). two_set (slice_range c.args.vertices.now (start_at 0 c.args.ends.now c.args.i) e.middle) xs e.y) c.part-2.ensures
    ∙ (row_stands c.args.vertices.now 0 c.args.ends.now c.args.i e c.requires.ends c.requires.i (get_or_default c.args.ends.now c.args.i none _ c.requires.i)).row d
