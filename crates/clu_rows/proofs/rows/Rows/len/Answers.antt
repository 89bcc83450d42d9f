use Rattle.std.proofs.Common.{◌≡◌, ◌∙◌, sym, ap, rules, length}
use Rattle.clu_rows.proofs.FlatLaws.{rows_count}
use Rattle.clu_rows.proofs.rows.Rows.len.Goals as goal

pub returns : goal.returns
returns c =
    let e : c.len.result ≡ length c.self.inside.ends.items = search rules in
    e ∙ sym (rows_count c.self.inside.vertices.items 0 c.self.inside.ends.items) ∙ ap length c.self.view_is
