use Rattle.std.proofs.Common.{cond, true, nat_eq, ◌&&◌, ap, ◌∙◌}
use Rattle.std.specs.Str.{bytes_eq}
use Rattle.clu_rules.specs.Attributes.{is_noted}
use Rattle.clu_rules.proofs.AttributeLaws.{or_cond}
use Rattle.clu_rules.proofs.attributes.note_vertex.Goals as goal

pub returns : goal.returns
returns c = record {
  each = λ q u. c.in_ok-insert.ensures.updates.0 (record c.args.key { now = q }, u)
      ∙ ap (λ v. cond (bytes_eq c.args.key.now q && nat_eq v u) true (is_noted c.args.given.now q u)) c.vertex.view_is
      ∙ or_cond (bytes_eq c.args.key.now q && nat_eq c.args.vertex u) (is_noted c.args.given.now q u);
}
