use Rattle.std.proofs.Common.{◌∙◌, ◌++◌, ◌∷◌, [], ap, sym, subst}
use Rattle.clu_cert.specs.declared.certificate.Item.TheVariants as item
use Rattle.clu_rows.specs.declared.row.Leaf.{Leaf}
use Rattle.clu_cert.specs.Reading.{AtStage}
use Rattle.clu_cert.proofs.Machine.{leaf_done, leaf_undone}
use Rattle.clu_cert.proofs.reader.Reader.close_leaf.Goals as goal

pub returns-clause-same : goal.returns-clause-same
returns-clause-same c = λ k more.
    let r = c.args.self.now in
    let is = c.in_ok-push.ensures.ok ∙ ap (λ (leaf : Leaf). r.part.items ++ item.Leaf leaf ∷ []) c.replace-leaf.ensures.value in (
      λ h. leaf_done c.args.parts c.args.later r.cert r.part r.leaf c.push.new.self is k more (subst (λ s. AtStage s r.cert r.part r.leaf k more) c.requires h),
      λ h. subst (λ s. AtStage s r.cert r.part r.leaf k more) (sym c.requires) (leaf_undone c.args.parts c.args.later r.cert r.part r.leaf c.push.new.self is k more h),
    )
