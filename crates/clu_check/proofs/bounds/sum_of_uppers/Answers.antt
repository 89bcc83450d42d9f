use Rattle.std.proofs.Common.{◌≡◌, ℤ, pos, ◌^◌, ◌≤◌, length, ap, ◌∙◌, arith, to_z, of_z}
use Rattle.std.specs.Int.{w128, int_min}
use Rattle.std.proofs.lemmas.Int.{ints}
use Rattle.clu_objective.specs.Problem.{Posed}
use Rattle.clu_check.specs.Rejected.{IsRejected}
use Rattle.clu_check.proofs.Checked.{if_err}
use Rattle.clu_check.proofs.Summing.{summed_none, state_of_proof, rejected_of, summed_next, fits_next, summed_all}
use Rattle.clu_check.proofs.Sharing.{share_at, small_steps}
use Rattle.clu_check.proofs.bounds.sum_of_uppers.Goals as goal

pub upper_of_part-requires-clause-valid : goal.upper_of_part-requires-clause-valid
upper_of_part-requires-clause-valid c =
    let list = c.as_slice-proofs in
    state_of_proof c.args.problem.now c.args.start.now c.args.c.now c.requires.rules c.requires.parts list.result.now list.ensures c.loop-i.i
    c.index-proofs-i.result c.loop-i-test.true c.index-proofs-i.is c.as_slice-in-loop-i.result.now (share_at list.result.now c.args.c.now.root_steps c.as_slice.result.now c.in_ok-shares.shares.items c.loop-i.i c.index-proofs-i.result c.as_slice-in-loop-i.result.now _ c.in_ok-shares.ensures c.as_slice.ensures c.loop-i-test.true c.index-proofs-i.is (c.as_slice-in-loop-i.ensures ∙ c.index.ensures))

pub returns-in_err-upper-clause-rejected : goal.returns-in_err-upper-clause-rejected
returns-in_err-upper-clause-rejected c =
    let list = c.as_slice-proofs in
    let reject = c.in_err-upper.field-0.0 in
    let old = c.loop-i.invariant.summed in
    let here : IsRejected c.args.problem.now c.args.start.now c.args.c.now reject =
    rejected_of c.args.problem.now c.args.start.now c.args.c.now c.requires.rules c.requires.parts list.result.now list.ensures c.loop-i.i
    c.index-proofs-i.result c.loop-i-test.true c.index-proofs-i.is c.as_slice-in-loop-i.result.now (share_at list.result.now c.args.c.now.root_steps c.as_slice.result.now c.in_ok-shares.shares.items c.loop-i.i c.index-proofs-i.result c.as_slice-in-loop-i.result.now _ c.in_ok-shares.ensures c.as_slice.ensures c.loop-i-test.true c.index-proofs-i.is (c.as_slice-in-loop-i.ensures ∙ c.index.ensures)) (to_z w128 c.loop-i.sum-bits) c.loop-i.earlier old reject
    (c.in_err-upper.ensures.fault _ old.counted) in
    if_err c.from_residual-in_err-upper.result reject (λ r. IsRejected c.args.problem.now c.args.start.now c.args.c.now r) _
    c.from_residual-in_err-upper.ensures.1 (λ x g. g) here

pub overflow_add-sum : goal.overflow_add-sum
overflow_add-sum c =
    let list = c.as_slice-proofs in
    let inner : to_z w128 (of_z w128 c.min-sum.result) ≡ c.min-sum.result = omega (arith, ints) in
    let upper : to_z w128 (of_z w128 c.in_ok-upper.upper) ≡ c.in_ok-upper.upper = omega (arith, ints) in
    fits_next c.args.problem.now c.args.start.now c.args.c.now c.requires.rules c.requires.parts list.result.now list.ensures c.loop-i.i
    c.index-proofs-i.result c.loop-i-test.true c.index-proofs-i.is c.as_slice-in-loop-i.result.now (share_at list.result.now c.args.c.now.root_steps c.as_slice.result.now c.in_ok-shares.shares.items c.loop-i.i c.index-proofs-i.result c.as_slice-in-loop-i.result.now _ c.in_ok-shares.ensures c.as_slice.ensures c.loop-i-test.true c.index-proofs-i.is (c.as_slice-in-loop-i.ensures ∙ c.index.ensures)) (to_z w128 c.loop-i.sum-bits) c.loop-i.earlier c.loop-i.invariant.summed
    c.in_ok-upper.upper _ c.in_ok-upper.ensures.ok
    (inner ∙ c.min-sum.ensures.value ∙ ap (λ (z : ℤ). int_min z (pos (2 ^ 100))) upper)

pub loop-i-preserved : goal.loop-i-preserved
loop-i-preserved c =
    let list = c.as_slice-proofs in
    let inner : to_z w128 (of_z w128 c.min-sum.result) ≡ c.min-sum.result = omega (arith, ints) in
    let upper : to_z w128 (of_z w128 c.in_ok-upper.upper) ≡ c.in_ok-upper.upper = omega (arith, ints) in
    record {
      room = c.upper_of_part.ensures.room ∙ c.loop-i.invariant.room;
      summed =
          summed_next c.args.problem.now c.args.start.now c.args.c.now c.requires.rules c.requires.parts list.result.now list.ensures c.loop-i.i
          c.index-proofs-i.result c.loop-i-test.true c.index-proofs-i.is c.as_slice-in-loop-i.result.now (share_at list.result.now c.args.c.now.root_steps c.as_slice.result.now c.in_ok-shares.shares.items c.loop-i.i c.index-proofs-i.result c.as_slice-in-loop-i.result.now _ c.in_ok-shares.ensures c.as_slice.ensures c.loop-i-test.true c.index-proofs-i.is (c.as_slice-in-loop-i.ensures ∙ c.index.ensures)) (to_z w128 c.loop-i.sum-bits) c.loop-i.earlier c.loop-i.invariant.summed
          c.in_ok-upper.upper _ c.in_ok-upper.ensures.ok
          (inner ∙ c.min-sum.ensures.value ∙ ap (λ (z : ℤ). int_min z (pos (2 ^ 100))) upper)
          c.len.result c.saturating_add-earlier.result c.len.ensures c.saturating_add-earlier.ensures;
    }

pub returns-clause-ok : goal.returns-clause-ok
returns-clause-ok c =
    let end : length c.args.c.now.proofs ≤ c.loop-i.i =
    let e = ap length c.as_slice-proofs.ensures in omega (arith, e, c.loop-i-test.false) in
    summed_all c.args.problem.now c.args.start.now c.args.c.now c.loop-i.i (to_z w128 c.loop-i.sum-bits) c.loop-i.earlier c.requires.rules
    c.requires.parts end c.loop-i.invariant.summed

pub loop-i-init : goal.loop-i-init
loop-i-init c = record {
  room = c.in_ok-scratch.ensures.size ∙ c.n.ensures.value ∙ ap (λ (p : Posed). p.pairs.n) c.problem.view_is;
  summed = summed_none c.args.problem.now c.args.start.now c.args.c.now c.len-earlier.result c.len-earlier.ensures (omega arith);
}

pub steps_by_part-requires-clause-small : goal.steps_by_part-requires-clause-small
steps_by_part-requires-clause-small c =
    small_steps c.args.problem.now c.args.start.now c.args.c.now.root_steps c.as_slice.result.now (length c.args.owner.now) c.as_slice.ensures c.requires.size c.requires.parts.root.steps
