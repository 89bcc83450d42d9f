use Rattle.std.proofs.Common.{sym, refl, subst, ◌∷◌, Some}
use Rattle.clu_cert.specs.Cut.{spaced_fields}
use Rattle.clu_cert.specs.Reads.{ReadsSpelling}
use Rattle.clu_cert.specs.Reading.{AtStage}
use Rattle.clu_cert.specs.ItemLines.{item_line, ItemLineFits}
use Rattle.clu_cert.proofs.Machine.{branch_to, branch_from, reduce_to, reduce_from, leaf_to, leaf_from, item_none}
use Rattle.clu_cert.specs.declared.certificate.Proof.{Proof}
use Rattle.clu_rows.specs.declared.row.Leaf.{Leaf}
use Rattle.clu_cert.proofs.reader.Reader.take_item.Goals as goal

pub returns-in_default-clause-bad : goal.returns-in_default-clause-bad
returns-in_default-clause-bad c = λ h k more begun.
    let r = c.args.self.now in
    item_none c.args.parts c.args.left r.cert (spaced_fields c.args.line.now) r.part c.in_default.ensures k more
    (subst (λ s. AtStage s r.cert r.part r.leaf k (spaced_fields c.args.line.now ∷ more)) c.requires begun)

pub returns-in_ok-push-in-Branch-clause-ok : goal.returns-in_ok-push-in-Branch-clause-ok
returns-in_ok-push-in-Branch-clause-ok c = λ k more.
    let r = c.args.self.now in
    let l = spaced_fields c.args.line.now in
    let p : Proof = record { part = r.part.part; items = c.push.new.self } in
    let reads = subst (λ e. ReadsSpelling item_line ItemLineFits l (Some e)) c.in-Branch.is c.in-Some.ensures in (
      λ h. branch_to c.args.parts c.args.left r.cert l r.part p c.in-Branch.u c.in-Branch.v reads refl c.in_ok-push-in-Branch.ensures.ok k more
          (subst (λ s. AtStage s r.cert r.part r.leaf k (l ∷ more)) c.requires h),
      λ h. subst (λ s. AtStage s r.cert r.part r.leaf k (l ∷ more)) (sym c.requires)
          (branch_from c.args.parts c.args.left r.cert l r.part p c.in-Branch.u c.in-Branch.v reads refl c.in_ok-push-in-Branch.ensures.ok k more h),
    )

pub returns-in_ok-push-in-Reduce-clause-ok : goal.returns-in_ok-push-in-Reduce-clause-ok
returns-in_ok-push-in-Reduce-clause-ok c = λ k more.
    let r = c.args.self.now in
    let l = spaced_fields c.args.line.now in
    let p : Proof = record { part = r.part.part; items = c.push-in-Reduce.new.self } in
    let reads = subst (λ e. ReadsSpelling item_line ItemLineFits l (Some e)) c.in-Reduce.is c.in-Some.ensures in (
      λ h. reduce_to c.args.parts c.args.left r.cert l r.part p c.in-Reduce.step reads refl c.in_ok-push-in-Reduce.ensures.ok k more
          (subst (λ s. AtStage s r.cert r.part r.leaf k (l ∷ more)) c.requires h),
      λ h. subst (λ s. AtStage s r.cert r.part r.leaf k (l ∷ more)) (sym c.requires)
          (reduce_from c.args.parts c.args.left r.cert l r.part p c.in-Reduce.step reads refl c.in_ok-push-in-Reduce.ensures.ok k more h),
    )

pub returns-in-Leaf-clause-ok : goal.returns-in-Leaf-clause-ok
returns-in-Leaf-clause-ok c = λ k more.
    let r = c.args.self.now in
    let l = spaced_fields c.args.line.now in
    let f : Leaf = record { den = c.in-Leaf.den; rows = c.new.result } in
    let reads = subst (λ e. ReadsSpelling item_line ItemLineFits l (Some e)) c.in-Leaf.is c.in-Some.ensures in (
      λ h. leaf_to c.args.parts c.args.left r.cert l r.part c.in-Leaf.den c.in-Leaf.rows f reads refl c.new.ensures k more
          (subst (λ s. AtStage s r.cert r.part r.leaf k (l ∷ more)) c.requires h),
      λ h. subst (λ s. AtStage s r.cert r.part r.leaf k (l ∷ more)) (sym c.requires)
          (leaf_from c.args.parts c.args.left r.cert l r.part c.in-Leaf.den c.in-Leaf.rows f reads refl c.new.ensures k more h),
    )
