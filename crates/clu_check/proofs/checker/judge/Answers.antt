use Rattle.std.proofs.Common.{◌≡◌, arith, to_z, of_z}
use Rattle.std.specs.Int.{w128}
use Rattle.std.proofs.lemmas.Int.{ints}
use Rattle.clu_check.proofs.Judged.{none_better}
use Rattle.clu_check.proofs.checker.judge.Goals as goal

pub returns-clause-none_better : goal.returns-clause-none_better
returns-clause-none_better c =
    let same : to_z w128 (of_z w128 c.args.c.now.bound) ≡ c.args.c.now.bound = omega (arith, ints) in
    none_better c.args.problem.now c.args.start.now c.args.c.now _ same
    (record {
      posed = c.in_ok-check_blocks.ensures.posed;
      closed = c.in_ok-check_value.ensures.closed;
      one_size = c.requires;
      few =
          c.in_ok-check_blocks.ensures.few;
    })
    c.in_ok-owner.ensures.ok c.in_ok-check_bound.ensures.ok
