use Rattle.std.proofs.Common.{ap, ◌∙◌, ◌++◌}
use Rattle.std.specs.Fmt.{decimal}
use Rattle.clu_rows.specs.Rows.{TwoSet}
use Rattle.clu_cert.proofs.Joins.{row_pushed}
use Rattle.clu_cert.proofs.write.push_row.Goals as goal

pub returns : goal.returns
returns c =
    let v = c.row.view_is in
    row_pushed c.args.out.now.items c.extend_from_slice.new.self.items c.push_u128.new.out.items c.push_vertices.new.out.items
    c.extend_from_slice-2.new.self.items c.push_vertices-2.new.out.items c.push.new.self.items c.args.row.now
    c.in_ok-extend_from_slice.ensures.items
    (c.in_ok-push_u128.ensures.ok ∙ ap (λ (r : TwoSet). c.extend_from_slice.new.self.items ++ decimal r.y) v)
    (search (c.in_ok-push_vertices.ensures, ap (λ (r : TwoSet). r.s) v))
    c.in_ok-extend_from_slice-2.ensures.items
    (search (c.in_ok-push_vertices-2.ensures, ap (λ (r : TwoSet). r.t) v))
    c.in_ok-push.ensures.items
