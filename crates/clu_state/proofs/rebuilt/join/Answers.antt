use Rattle.std.proofs.Common.{◌≤◌, ◌^◌, ◌+ℤ◌, slice_index, unsigned_abs, arith, subst, sym, ◌∙◌}
use Rattle.std.proofs.lemmas.Int.{ints}
use Rattle.clu_partition.specs.Pairs.{weight_of}
use Rattle.clu_state.proofs.Joined.{ready_at, joined_agrees}
use Rattle.clu_state.proofs.rebuilt.join.Goals as goal

pub place_of-p-requires : goal.place_of-p-requires
place_of-p-requires c =
    let r = ready_at c.requires.some.0 c.args.members.now c.args.group.now c.args.place.now c.args.weights.now c.args.apart.now c.requires.some.1 c.args.u c.args.v c.lower_leader-low.result c.higher_leader-high.result c.requires.some.2 c.requires.some.3 c.requires.some.4 c.lower_leader-low.ensures c.higher_leader-high.ensures in
    r.low_below

pub place_of-q-requires : goal.place_of-q-requires
place_of-q-requires c =
    let r = ready_at c.requires.some.0 c.args.members.now c.args.group.now c.args.place.now c.args.weights.now c.args.apart.now c.requires.some.1 c.args.u c.args.v c.lower_leader-low.result c.higher_leader-high.result c.requires.some.2 c.requires.some.3 c.requires.some.4 c.lower_leader-low.ensures c.higher_leader-high.ensures in
    r.high_below

pub at-gained-requires-clause-first : goal.at-gained-requires-clause-first
at-gained-requires-clause-first c =
    let r = ready_at c.requires.some.0 c.args.members.now c.args.group.now c.args.place.now c.args.weights.now c.args.apart.now c.requires.some.1 c.args.u c.args.v c.lower_leader-low.result c.higher_leader-high.result c.requires.some.2 c.requires.some.3 c.requires.some.4 c.lower_leader-low.ensures c.higher_leader-high.ensures in
    let a = r.low_place in let b = r.size in omega (arith, a, b, c.place_of-p.ensures)

pub at-gained-requires-clause-second : goal.at-gained-requires-clause-second
at-gained-requires-clause-second c =
    let r = ready_at c.requires.some.0 c.args.members.now c.args.group.now c.args.place.now c.args.weights.now c.args.apart.now c.requires.some.1 c.args.u c.args.v c.lower_leader-low.result c.higher_leader-high.result c.requires.some.2 c.requires.some.3 c.requires.some.4 c.lower_leader-low.ensures c.higher_leader-high.ensures in
    let a = r.high_place in let b = r.size in omega (arith, a, b, c.place_of-q.ensures)

pub merge_weights-requires-clause-low : goal.merge_weights-requires-clause-low
merge_weights-requires-clause-low c =
    let r = ready_at c.requires.some.0 c.args.members.now c.args.group.now c.args.place.now c.args.weights.now c.args.apart.now c.requires.some.1 c.args.u c.args.v c.lower_leader-low.result c.higher_leader-high.result c.requires.some.2 c.requires.some.3 c.requires.some.4 c.lower_leader-low.ensures c.higher_leader-high.ensures in
    let a = r.low_place in omega (arith, a, c.place_of-p.ensures)

pub merge_weights-requires-clause-high : goal.merge_weights-requires-clause-high
merge_weights-requires-clause-high c =
    let r = ready_at c.requires.some.0 c.args.members.now c.args.group.now c.args.place.now c.args.weights.now c.args.apart.now c.requires.some.1 c.args.u c.args.v c.lower_leader-low.result c.higher_leader-high.result c.requires.some.2 c.requires.some.3 c.requires.some.4 c.lower_leader-low.ensures c.higher_leader-high.ensures in
    let a = r.high_place in omega (arith, a, c.place_of-q.ensures)

pub merge_weights-requires-clause-differ : goal.merge_weights-requires-clause-differ
merge_weights-requires-clause-differ c =
    let r = ready_at c.requires.some.0 c.args.members.now c.args.group.now c.args.place.now c.args.weights.now c.args.apart.now c.requires.some.1 c.args.u c.args.v c.lower_leader-low.result c.higher_leader-high.result c.requires.some.2 c.requires.some.3 c.requires.some.4 c.lower_leader-low.ensures c.higher_leader-high.ensures in
    λ h. r.differ (sym c.place_of-p.ensures ∙ h ∙ c.place_of-q.ensures)

pub merge_weights-requires-clause-small : goal.merge_weights-requires-clause-small
merge_weights-requires-clause-small c =
    let r = ready_at c.requires.some.0 c.args.members.now c.args.group.now c.args.place.now c.args.weights.now c.args.apart.now c.requires.some.1 c.args.u c.args.v c.lower_leader-low.result c.higher_leader-high.result c.requires.some.2 c.requires.some.3 c.requires.some.4 c.lower_leader-low.ensures c.higher_leader-high.ensures in
    λ j l n k e.
    subst (λ x. unsigned_abs (weight_of c.args.weights.now x j +ℤ weight_of c.args.weights.now c.place_of-q.result j) ≤ 2 ^ 88) (sym c.place_of-p.ensures)
    (subst (λ x. unsigned_abs (weight_of c.args.weights.now (slice_index c.args.place.now c.lower_leader-low.result) j +ℤ weight_of c.args.weights.now x j) ≤ 2 ^ 88) (sym c.place_of-q.ensures)
    (r.small j l (λ h. n (h ∙ sym c.place_of-p.ensures)) (λ h. k (h ∙ sym c.place_of-q.ensures)) e))

pub merge-requires-clause-low : goal.merge-requires-clause-low
merge-requires-clause-low c =
    let r = ready_at c.requires.some.0 c.args.members.now c.args.group.now c.args.place.now c.args.weights.now c.args.apart.now c.requires.some.1 c.args.u c.args.v c.lower_leader-low.result c.higher_leader-high.result c.requires.some.2 c.requires.some.3 c.requires.some.4 c.lower_leader-low.ensures c.higher_leader-high.ensures in
    let a = r.low_place in let b = r.marks in omega (arith, a, b, c.place_of-p.ensures)

pub merge-requires-clause-high : goal.merge-requires-clause-high
merge-requires-clause-high c =
    let r = ready_at c.requires.some.0 c.args.members.now c.args.group.now c.args.place.now c.args.weights.now c.args.apart.now c.requires.some.1 c.args.u c.args.v c.lower_leader-low.result c.higher_leader-high.result c.requires.some.2 c.requires.some.3 c.requires.some.4 c.lower_leader-low.ensures c.higher_leader-high.ensures in
    let a = r.high_place in let b = r.marks in omega (arith, a, b, c.place_of-q.ensures)

pub merge-requires-clause-differ : goal.merge-requires-clause-differ
merge-requires-clause-differ c =
    let r = ready_at c.requires.some.0 c.args.members.now c.args.group.now c.args.place.now c.args.weights.now c.args.apart.now c.requires.some.1 c.args.u c.args.v c.lower_leader-low.result c.higher_leader-high.result c.requires.some.2 c.requires.some.3 c.requires.some.4 c.lower_leader-low.ensures c.higher_leader-high.ensures in
    λ h. r.differ (sym c.place_of-p.ensures ∙ h ∙ c.place_of-q.ensures)

pub relabel-requires-clause-whole : goal.relabel-requires-clause-whole
relabel-requires-clause-whole c =
    let r = ready_at c.requires.some.0 c.args.members.now c.args.group.now c.args.place.now c.args.weights.now c.args.apart.now c.requires.some.1 c.args.u c.args.v c.lower_leader-low.result c.higher_leader-high.result c.requires.some.2 c.requires.some.3 c.requires.some.4 c.lower_leader-low.ensures c.higher_leader-high.ensures in
    r.whole

pub returns : goal.returns
returns c = λ s fixed em g f.
    joined_agrees s c.args.members.now c.args.group.now c.relabel.new.group c.args.place.now c.args.weights.now c.merge_weights.new.weights c.args.apart.now c.merge.new.self fixed _ c.args.u c.args.v c.lower_leader-low.result c.higher_leader-high.result c.place_of-p.result c.place_of-q.result em g f
    c.lower_leader-low.ensures c.higher_leader-high.ensures c.relabel.auto.group c.relabel.ensures
    (record { size = c.merge_weights.ensures.size; sums = c.merge_weights.ensures.sums; others = c.merge_weights.ensures.others })
    (record { size = c.merge.ensures.size; joined = c.merge.ensures.joined; others = c.merge.ensures.others })
    c.place_of-p.ensures c.place_of-q.ensures (let e = c.at-gained.ensures.value in omega (arith, ints, e))
