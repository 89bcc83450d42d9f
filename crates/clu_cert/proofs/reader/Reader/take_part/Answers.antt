use Rattle.std.proofs.Common.{◌≡◌, ℕ, List, sym, refl, subst, codes, ◌∷◌, None, Err}
use Rattle.clu_cert.specs.declared.fault.Fault.TheVariants.{Bad}
use Rattle.clu_cert.specs.Cut.{spaced_fields}
use Rattle.clu_cert.specs.Reads.{ReadsSpelling, ReadsOr}
use Rattle.clu_cert.specs.Reading.{AtStage}
use Rattle.clu_cert.specs.Text.{numbers_line}
use Rattle.clu_cert.specs.Fits.{PartFits}
use Rattle.clu_cert.proofs.Machine.{part_to, part_from, part_none}
use Rattle.clu_cert.specs.declared.certificate.Proof.{Proof}
use Rattle.clu_cert.proofs.reader.Reader.take_part.Goals as goal

pub returns-in-Err-clause-bad : goal.returns-in-Err-clause-bad
returns-in-Err-clause-bad c = λ h k more begun.
    let r = c.args.self.now in
    let is : c.in-Err.fault ≡ Bad = cc h in
    let none : ReadsSpelling (numbers_line (codes "part")) PartFits (spaced_fields c.args.line.now) None = subst
    (λ e. ReadsOr {X = List ℕ} (numbers_line (codes "part")) PartFits (spaced_fields c.args.line.now) (Err e)) is c.in-Err.ensures in
    part_none c.args.left r.cert (spaced_fields c.args.line.now) none k more
    (subst (λ s. AtStage s r.cert r.part r.leaf k (spaced_fields c.args.line.now ∷ more)) c.requires begun)

pub returns-clause-ok : goal.returns-clause-ok
returns-clause-ok c = λ k more.
    let r = c.args.self.now in
    let l = spaced_fields c.args.line.now in
    let p : Proof = record { part = c.in-Ok.part; items = c.new.result } in (
      λ h. part_to c.args.left r.cert l c.in-Ok.part p c.in-Ok.ensures refl k more
          (subst (λ s. AtStage s r.cert r.part r.leaf k (l ∷ more)) c.requires h),
      λ h. subst (λ s. AtStage s r.cert r.part r.leaf k (l ∷ more)) (sym c.requires)
          (part_from c.args.left r.cert l c.in-Ok.part p c.in-Ok.ensures refl k more h),
    )
