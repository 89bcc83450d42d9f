use Rattle.std.proofs.Common.{◌++◌, ◌∷◌, [], ◌∙◌, ap, ℕ, List, length, length-append, refl, rules}
use Rattle.clu_rows.specs.declared.rows.RowEnd.{RowEnd}
use Rattle.clu_rows.proofs.FlatLaws.{Pushed, pushed, two_set, size_more}
use Rattle.clu_rows.proofs.rows.Rows.push.Goals as goal

done : (c : goal.After-push_reserved) → Pushed c.append-2.new.vertices.items c.push_reserved.new.self.items (c.args.self.now ++ two_set c.args.s.now c.args.t.now c.args.y ∷ [])
done c =
    let e : RowEnd = record { middle = c.len-middle.result; end = c.len-end.result; y = c.args.y } in
    let first = c.append.ensures.items ∙ ap (λ (xs : List ℕ). xs ++ c.args.s.now) c.reserve.ensures.items in
    let second = c.append-2.ensures.items ∙ ap (λ (xs : List ℕ). xs ++ c.args.t.now) first in
    let middle = size_more c.self.inside.vertices.items c.args.s.now c.append.new.vertices.items c.len-middle.result _ (search rules) first refl in
    pushed c.self.inside.vertices.items c.args.s.now c.args.t.now c.append-2.new.vertices.items c.self.inside.ends.items c.push_reserved.new.self.items e c.args.self.now c.self.invariant c.self.view_is
    second (c.push_reserved.ensures.items ∙ ap (λ (es : List RowEnd). es ++ e ∷ []) c.reserve-2.ensures.items)
    middle (size_more c.append.new.vertices.items c.args.t.now c.append-2.new.vertices.items c.len-end.result _ (search rules) c.append-2.ensures.items (ap length first ∙ length-append c.self.inside.vertices.items c.args.s.now))

pub invariant_of-self-2 : goal.invariant_of-self-2
invariant_of-self-2 c = (done c).ends_fill

pub returns-clause-ok : goal.returns-clause-ok
returns-clause-ok c = (done c).rows_are
