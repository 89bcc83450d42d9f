use Rattle.std.proofs.Common.{◌≡◌, ◌∙◌, sym, arith, ℕ, to_z, of_z, ◌+ℤ◌, ℤ, subst, Contains, ◌<◌, length, take, unsigned_abs, ◌+◌, ◌*◌}
use mir.Syntax.{w128}
use Rattle.std.proofs.lemmas.Int.{ints}
use Rattle.clu_partition.specs.Sums.{total}
use Rattle.clu_partition.specs.Pairs.{weight_of}
use Rattle.clu_state.specs.State.{leader}
use Rattle.clu_state.proofs.GroupLaws.{leader_below, state_groups}
use Rattle.clu_state.proofs.Joined.{member_below}
use Rattle.clu_rows.specs.Prices.{hit}
use Rattle.clu_rows.proofs.Adding.{step_sums, step_small, all_taken}
use Rattle.clu_rows.proofs.prices.add_with.Given
use Rattle.clu_rows.proofs.prices.add_with.Goals as goal

pub group_of-requires-in-loop-w : goal.group_of-requires-in-loop-w
group_of-requires-in-loop-w g c = subst (Contains (g.S.Situation.state c.args.state.now).members) (sym c.w-item.is) (c.requires.members c.loop-w.w-index c.w-item.result c.loop-w-test.true)

pub add_pair-requires-clause-a : goal.add_pair-requires-clause-a
add_pair-requires-clause-a g c =
    let b = leader_below (g.S.Situation.state c.args.state.now) c.args.v c.requires.valid c.requires.member in
    let e = c.group_of.ensures.value in
    let i = c.loop-w.invariant.size in
    let o = c.requires.valid.one_size in
    let r = c.requires.room in
    omega (arith, b, e, i, o, r)

pub add_pair-requires-clause-b : goal.add_pair-requires-clause-b
add_pair-requires-clause-b g c =
    let m = subst (Contains (g.S.Situation.state c.args.state.now).members) (sym c.w-item.is) (c.requires.members c.loop-w.w-index c.w-item.result c.loop-w-test.true) in
    let b = leader_below (g.S.Situation.state c.args.state.now) c.w-item.result c.requires.valid m in
    let e = c.group_of-in-loop-w.ensures.value in
    let i = c.loop-w.invariant.size in
    let o = c.requires.valid.one_size in
    let r = c.requires.room in
    omega (arith, b, e, i, o, r)

-- the cell is that of two members
inside : (g : Given.Over) (c : goal.After-group_of-in-loop-w g) → Contains (g.S.Situation.state c.args.state.now).members c.group_of.result × Contains (g.S.Situation.state c.args.state.now).members c.group_of-in-loop-w.result
inside g c =
    let m = subst (Contains (g.S.Situation.state c.args.state.now).members) (sym c.w-item.is) (c.requires.members c.loop-w.w-index c.w-item.result c.loop-w-test.true) in
    let h = state_groups (g.S.Situation.state c.args.state.now) c.requires.valid in
    (subst (Contains (g.S.Situation.state c.args.state.now).members) (sym c.group_of.ensures.value) (h.into c.args.v c.requires.member), subst (Contains (g.S.Situation.state c.args.state.now).members) (sym c.group_of-in-loop-w.ensures.value) (h.into c.w-item.result m))

pub add_pair-requires-clause-small : goal.add_pair-requires-clause-small
add_pair-requires-clause-small g c =
    let wk : to_z w128 (of_z w128 c.args.k) ≡ c.args.k = omega (arith, ints) in
    let bl = inside g c in
    step_small (Contains (g.S.Situation.state c.args.state.now).members) c.args.scratch.now c.loop-w.scratch (leader (g.S.Situation.state c.args.state.now)) c.args.v c.loop-w.w-index c.group_of.result c.group_of-in-loop-w.result 170141183460469231731687303715884105728 (to_z w128 (of_z w128 c.args.k)) c.args.others.now
    c.loop-w.invariant.sums
    (λ x z i j. subst (λ (k : ℤ). unsigned_abs (weight_of c.args.scratch.now x z) + (length c.args.others.now + 1) * unsigned_abs k < 170141183460469231731687303715884105728) (sym wk) (c.requires.small x z i j))
    bl.0 bl.1

within : (g : Given.Over) (c : goal.After-add_pair g) (x : ℕ) → Contains (g.S.Situation.state c.args.state.now).members x → x < c.loop-w.scratch.n
within g c x m =
    let b = member_below (g.S.Situation.state c.args.state.now) x c.requires.valid m in
    let i = c.loop-w.invariant.size in
    let o = c.requires.valid.one_size in
    let r = c.requires.room in
    omega (arith, b, i, o, r)

pub loop-w-preserved : goal.loop-w-preserved
loop-w-preserved g c =
    let e = c.add_pair.ensures in
    let i = c.loop-w.invariant in
    record {
      size = e.size ∙ i.size;
      sums = λ x z p q d.
          let p' : x < c.loop-w.scratch.n = within g c x p in
          let q' : z < c.loop-w.scratch.n = within g c z q in
          step_sums (leader (g.S.Situation.state c.args.state.now)) x z c.args.v c.loop-w.w-index (to_z w128 (of_z w128 c.args.k)) c.args.others.now c.w-item.result c.group_of.result c.group_of-in-loop-w.result (weight_of c.args.scratch.now x z) (weight_of c.loop-w.scratch x z) (weight_of c.add_pair.new.scratch x z)
          c.loop-w-test.true c.w-item.is c.group_of.ensures.value c.group_of-in-loop-w.ensures.value (e.sums x z p' q' d) (i.sums x z p q d);
    }

pub returns-clause-sums : goal.returns-clause-sums
returns-clause-sums g c = λ x z i j d.
    let wk : to_z w128 (of_z w128 c.args.k) ≡ c.args.k = omega (arith, ints) in
    all_taken (hit (leader (g.S.Situation.state c.args.state.now)) x z c.args.k c.args.v) c.loop-w.w-index c.args.others.now (weight_of c.args.scratch.now x z) (weight_of c.loop-w.scratch x z) (omega arith)
    (subst (λ (k : ℤ). weight_of c.loop-w.scratch x z ≡ weight_of c.args.scratch.now x z +ℤ total (hit (leader (g.S.Situation.state c.args.state.now)) x z k c.args.v) (take c.loop-w.w-index c.args.others.now)) wk (c.loop-w.invariant.sums x z i j d))
