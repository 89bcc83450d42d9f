use Rattle.std.proofs.Common.{refl, sym, ◌∙◌, drop, arith, to_z, of_z}
use mir.Syntax.{w128}
use Rattle.std.proofs.lemmas.Int.{ints}
use Rattle.clu_cuts.proofs.Tests.{whole_is_most}
use Rattle.clu_cuts.specs.Stars.{broken, claws_at}
use Rattle.clu_cuts.proofs.Front.{full, claw_centre_left, none_left}
use Rattle.clu_cuts.proofs.claws.all_claws.Goals as goal

pub push_seconds-requires-clause-most : goal.push_seconds-requires-clause-most
push_seconds-requires-clause-most c =
    whole_is_most c.args.shares.now c.loop-a.a (to_z w128 (of_z w128 c.args.shares.now.point.now.den)) c.requires.shares
    (let h = c.requires.shares.some.1.positive in let m = c.requires.shares.common in omega (arith, ints, h, m))

pub returns-then-len-eq-MOST : goal.returns-then-len-eq-MOST
returns-then-len-eq-MOST c = full 50 c.loop-a.cuts (broken c.args.shares.now.point.now (claws_at c.args.shares.now.groups.now (drop c.loop-a.a c.args.shares.now.groups.now))) (sym c.len.ensures ∙ c.if-len-eq-MOST.true) ∙ c.loop-a.invariant.left

pub loop-a-preserved : goal.loop-a-preserved
loop-a-preserved c =
    claw_centre_left c.args.shares.now.point.now c.loop-a.a c.args.shares.now.groups.now c.loop-a.cuts c.push_seconds.new.cuts _ c.loop-a-test.true c.in_ok-push_seconds.ensures c.loop-a.invariant

pub returns : goal.returns
returns c = none_left c.args.shares.now.point.now (claws_at c.args.shares.now.groups.now) c.args.shares.now.groups.now c.loop-a.a c.loop-a.cuts _ refl c.loop-a-test.false c.loop-a.invariant
