use Rattle.std.proofs.Common.{◌≡◌, ◌∙◌, ap, arith, length}
use Rattle.clu_partition.specs.Partition.{below}
use Rattle.clu_state.specs.State.{State}
use Rattle.clu_cert.specs.Valid.{whole_state}
use Rattle.clu_cert.proofs.States.{stepped_is}
use Rattle.clu_check.proofs.Checked.{fault_of_parts, have_parts}
use Rattle.clu_check.proofs.parts.check_parts.Goals as goal

pub returns-in-Some-clause-rejected : goal.returns-in-Some-clause-rejected
returns-in-Some-clause-rejected c =
    fault_of_parts c.args.problem.now c.args.start.now c.args.c.now c.args.state.now c.as_slice.result.now c.first_fault.result c.in-Some.part c.in-Some.is
    c.as_slice.ensures c.requires.root c.requires.state c.first_fault.ensures.fault

pub first_fault-requires-clause-members : goal.first_fault-requires-clause-members
first_fault-requires-clause-members c =
    let a = ap length c.deref_mut.ensures.value in
    let b = c.in_ok-owner.ensures.len in
    let d = c.n.ensures.value in
    let e = c.requires.one_size in
    let size : c.args.problem.now.pairs.n ≡ length c.deref_mut.result.now = omega (arith, a, b, d, e) in
    ap (λ (s : State). s.members) (c.requires.state ∙ stepped_is (whole_state c.args.problem.now c.args.start.now) c.args.c.now.root_steps) ∙ ap below size

pub returns-in-None-clause-ok : goal.returns-in-None-clause-ok
returns-in-None-clause-ok c =
    have_parts c.args.problem.now c.args.start.now c.args.c.now c.args.state.now c.as_slice.result.now c.first_fault.result c.in-None.is
    c.as_slice.ensures c.requires.root c.requires.state c.first_fault.ensures.right
