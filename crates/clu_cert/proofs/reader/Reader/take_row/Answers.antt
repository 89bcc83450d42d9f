use Rattle.std.proofs.Common.{◌≡◌, sym, refl, subst, ◌∷◌, None, Err}
use Rattle.clu_cert.specs.declared.fault.Fault.TheVariants.{Bad}
use Rattle.clu_cert.specs.Cut.{spaced_fields}
use Rattle.clu_cert.specs.Reads.{ReadsSpelling, ReadsOr}
use Rattle.clu_cert.specs.Reading.{AtStage}
use Rattle.clu_cert.specs.Text.{row_line}
use Rattle.clu_cert.specs.Fits.{RowFits}
use Rattle.clu_cert.proofs.Machine.{row_to, row_from, row_none}
use Rattle.clu_rows.specs.Rows.{TwoSet}
use Rattle.clu_rows.specs.declared.row.Leaf.{Leaf}
use Rattle.clu_cert.proofs.reader.Reader.take_row.Goals as goal

pub returns-in-Err-clause-bad : goal.returns-in-Err-clause-bad
returns-in-Err-clause-bad c = λ h k more begun.
    let r = c.args.self.now in
    let is : c.in-Err.fault ≡ Bad = cc h in
    let none : ReadsSpelling row_line RowFits (spaced_fields c.args.line.now) None = subst
    (λ e. ReadsOr {X = TwoSet} row_line RowFits (spaced_fields c.args.line.now) (Err e)) is c.in-Err.ensures in
    row_none c.args.parts c.args.later c.args.left r.cert (spaced_fields c.args.line.now) r.part r.leaf none k more
    (subst (λ s. AtStage s r.cert r.part r.leaf k (spaced_fields c.args.line.now ∷ more)) c.requires begun)

pub returns-clause-ok : goal.returns-clause-ok
returns-clause-ok c = λ k more.
    let r = c.args.self.now in
    let l = spaced_fields c.args.line.now in
    let f : Leaf = record { den = r.leaf.den; rows = c.push_to.new.rows } in (
      λ h. row_to c.args.parts c.args.later c.args.left r.cert l r.part r.leaf f c.in-Ok.row c.in-Ok.ensures refl c.in_ok-push_to.ensures k more
          (subst (λ s. AtStage s r.cert r.part r.leaf k (l ∷ more)) c.requires h),
      λ h. subst (λ s. AtStage s r.cert r.part r.leaf k (l ∷ more)) (sym c.requires)
          (row_from c.args.parts c.args.later c.args.left r.cert l r.part r.leaf f c.in-Ok.row c.in-Ok.ensures refl c.in_ok-push_to.ensures k more h),
    )
