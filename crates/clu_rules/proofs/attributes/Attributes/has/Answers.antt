use Rattle.std.proofs.Common.{sym, ◌∙◌, ap}
use Rattle.clu_rules.specs.Attributes.{is_noted}
use Rattle.clu_rules.proofs.attributes.Attributes.has.Goals as goal

pub returns : goal.returns
returns c = λ rs m.
    let e = c.contains.ensures ∙ ap (is_noted c.args.self.now.given c.args.key.now) c.vertex.view_is in
    (λ t. (m.noted c.args.key.now c.args.vertex).0 (sym e ∙ t), λ h. e ∙ (m.noted c.args.key.now c.args.vertex).1 h)
