use Rattle.std.proofs.Common.{◌≡◌, ◌≤◌, ◌^◌, ℤ, unsigned_abs, ◌+◌, ◌*◌, ◌+ℤ◌, FitsSigned, to_z, of_z, sym, ◌∙◌, arith, subst, ap}
use mir.Syntax.{w128}
use Rattle.std.proofs.lemmas.Int.{ints, to_z-of_z}
use Rattle.clu_partition.proofs.PairWalk.{pairs_from, row_from, pairs_all, enter_row, pass_pair, leave_row, finish_walk, size_more, fits_small}
use Rattle.clu_partition.proofs.sums.pair_sum.Given
use Rattle.clu_partition.proofs.sums.pair_sum.Goals as goal

pub loop-i-init : goal.loop-i-init
loop-i-init g c = record { sum = λ f gives. (let h = pairs_all f c.args.n in omega (arith, ints, h)); small = omega arith }

pub loop-j-init : goal.loop-j-init
loop-j-init g c = record {
  sum = λ f gives. enter_row f c.args.n c.loop-i.i _ _ c.loop-i-test.true (c.loop-i.invariant.sum f gives);
  small = let h = c.loop-i.invariant.small in omega (arith, h);
}

-- what the call gave is small, and as it was given
given : (g : Given.Over) (c : goal.After-number-sum g)
    → (to_z w128 (of_z w128 c.number-sum.result) ≡ c.number-sum.result) × (unsigned_abs c.number-sum.result ≤ 2 ^ 88)
given g c = (omega (arith, ints), c.requires.small c.loop-i.i c.loop-j.j c.number-sum.result (omega (arith, c.loop-j.auto.j)) c.loop-j-test.true c.number-sum.ensures)

small_sum : (g : Given.Over) (c : goal.After-number-sum g)
    → unsigned_abs (to_z w128 c.loop-j.sum-bits +ℤ to_z w128 (of_z w128 c.number-sum.result)) ≤ 2 ^ 88 * (1000 * c.loop-i.i + c.loop-j.j + 1)
small_sum g c = size_more (to_z w128 c.loop-j.sum-bits) (to_z w128 (of_z w128 c.number-sum.result)) (2 ^ 88) (1000 * c.loop-i.i + c.loop-j.j) c.loop-j.invariant.small (subst (λ (z : ℤ). unsigned_abs z ≤ 2 ^ 88) (sym (given g c).0) (given g c).1)

fits : (g : Given.Over) (c : goal.After-number-sum g)
    → FitsSigned w128 (to_z w128 c.loop-j.sum-bits +ℤ to_z w128 (of_z w128 c.number-sum.result))
fits g c = let h = small_sum g c in fits_small (to_z w128 c.loop-j.sum-bits +ℤ to_z w128 (of_z w128 c.number-sum.result)) (1000 * c.loop-i.i + c.loop-j.j + 1) h (omega (arith, c.requires.few, c.loop-i-test.true, c.loop-j-test.true))

pub overflow_add-sum : goal.overflow_add-sum
overflow_add-sum g c = fits g c

pub loop-j-preserved : goal.loop-j-preserved
loop-j-preserved g c =
    let same = to_z-of_z w128 _ (fits g c) in
    record {
      sum = λ f gives. ap (λ (z : ℤ). z +ℤ (row_from f c.args.n c.loop-i.i (c.loop-j.j + 1) +ℤ pairs_from f c.args.n (c.loop-i.i + 1))) same
          ∙ pass_pair f c.args.n c.loop-i.i c.loop-j.j _ _ _ _ c.loop-j-test.true ((given g c).0 ∙ gives c.loop-i.i c.loop-j.j c.number-sum.result (omega (arith, c.loop-j.auto.j)) c.loop-j-test.true c.number-sum.ensures) (c.loop-j.invariant.sum f gives);
      small = subst (λ (z : ℤ). unsigned_abs z ≤ 2 ^ 88 * (1000 * c.loop-i.i + (c.loop-j.j + 1))) (sym same) (let h = small_sum g c in omega (arith, h));
    }

pub loop-i-preserved : goal.loop-i-preserved
loop-i-preserved g c = record {
  sum = λ f gives. leave_row f c.args.n c.loop-i.i c.loop-j.j _ _ _ c.loop-j-test.false (c.loop-j.invariant.sum f gives);
  small = let h = c.loop-j.invariant.small in omega (arith, h, c.requires.few, c.loop-j.auto.j-end);
}

pub returns : goal.returns
returns g c = λ f gives. finish_walk f c.args.n c.loop-i.i _ _ c.loop-i-test.false (c.loop-i.invariant.sum f gives)
