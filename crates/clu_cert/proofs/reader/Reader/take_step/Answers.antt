use Rattle.std.proofs.Common.{sym, subst, ◌∷◌}
use Rattle.clu_cert.specs.Cut.{spaced_fields}
use Rattle.clu_cert.specs.Reading.{AtStage}
use Rattle.clu_cert.proofs.Machine.{step_to, step_from, step_none}
use Rattle.clu_cert.proofs.reader.Reader.take_step.Goals as goal

pub returns-in_default-clause-bad : goal.returns-in_default-clause-bad
returns-in_default-clause-bad c = λ _ k more h.
    let r = c.args.self.now in
    step_none c.args.left r.cert (spaced_fields c.args.line.now) c.in_default.ensures k more
    (subst (λ s. AtStage s r.cert r.part r.leaf k (spaced_fields c.args.line.now ∷ more)) c.requires h)

pub returns-clause-ok : goal.returns-clause-ok
returns-clause-ok c = λ k more.
    let r = c.args.self.now in (
      λ h. step_to c.args.left r.cert (spaced_fields c.args.line.now) c.in-Some.step c.push.new.self c.in-Some.ensures c.in_ok-push.ensures.ok k more
          (subst (λ s. AtStage s r.cert r.part r.leaf k (spaced_fields c.args.line.now ∷ more)) c.requires h),
      λ h. subst (λ s. AtStage s r.cert r.part r.leaf k (spaced_fields c.args.line.now ∷ more)) (sym c.requires)
          (step_from c.args.left r.cert (spaced_fields c.args.line.now) c.in-Some.step c.push.new.self c.in-Some.ensures c.in_ok-push.ensures.ok k more
          h),
    )
