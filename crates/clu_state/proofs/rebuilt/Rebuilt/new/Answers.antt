use Rattle.std.proofs.Common.{◌≡◌, ◌∙◌, sym, ap, arith, subst, ◌≤◌, ◌||◌, length, slice_index, to_z, of_z}
use mir.Syntax.{w128}
use Rattle.std.proofs.lemmas.Int.{ints}
use Rattle.clu_partition.specs.Sums.{pair_total}
use Rattle.clu_partition.specs.Closed.{joins}
use Rattle.clu_state.specs.Building.{ArePlaces, size_between}
use Rattle.clu_partition.specs.PairSets.{has}
use Rattle.clu_state.proofs.Built.{few_members, homes, sizes_small, empty_room, undecided_state, built, built_as}
use Rattle.clu_state.proofs.rebuilt.Rebuilt.new.Goals as goal

pub places-requires-clause-few : goal.places-requires-clause-few
places-requires-clause-few c = let f = few_members c.args.start.now c.args.members.now c.requires.members in omega (arith, f, c.n.ensures.value, c.n.ensures.small)

pub overflow_cast-count : goal.overflow_cast-count
overflow_cast-count c = let f = few_members c.args.start.now c.args.members.now c.requires.members in omega (arith, f, c.n.ensures.value, c.n.ensures.small)

pub new-requires : goal.new-requires
new-requires c = let f = few_members c.args.start.now c.args.members.now c.requires.members in omega (arith, f, c.n.ensures.value, c.n.ensures.small)

pub add_all-fixed-requires-clause-members : goal.add_all-fixed-requires-clause-members
add_all-fixed-requires-clause-members c =
    homes c.args.start.now c.args.members.now c.deref.result.now c.deref-2.result.now c.args.pairs.now.n c.in_ok-weights.weights.n c.requires.members c.requires.one_size (c.deref.ensures.value ∙ c.in_ok-group.ensures)
    (ap length c.deref-2.ensures.value ∙ c.in_ok-place.ensures.size ∙ c.n.ensures.value)
    (subst (ArePlaces c.args.members.now) (sym c.deref-2.ensures.value) c.in_ok-place.ensures.places) c.in_ok-weights.ensures.size

pub add_all-fixed-requires-clause-room : goal.add_all-fixed-requires-clause-room
add_all-fixed-requires-clause-room c = empty_room c.in_ok-weights.weights (pair_total (size_between c.args.pairs.now) c.args.members.now) c.in_ok-weights.ensures.zero (sizes_small c.args.pairs.now c.args.start.now c.args.members.now c.requires.members c.requires.one_size c.requires.total)

pub add_all-fixed-requires-clause-small : goal.add_all-fixed-requires-clause-small
add_all-fixed-requires-clause-small c = sizes_small c.args.pairs.now c.args.start.now c.args.members.now c.requires.members c.requires.one_size c.requires.total

pub invariant_of-result : goal.invariant_of-result
invariant_of-result c =
    let small : c.args.pairs.now.n ≤ 1000 = (let e = c.requires.one_size in omega (arith, e, c.n.ensures.value, c.n.ensures.small)) in
    let s = undecided_state c.args.pairs.now c.args.start.now c.args.members.now c.requires.one_size small c.requires.total c.n.ensures.closed c.requires.members in
    let wk : to_z w128 (of_z w128 c.add_all-fixed.result) ≡ c.add_all-fixed.result = omega (arith, ints) in
    built_as c.args.pairs.now c.args.start.now c.args.members.now _ _ c.deref.result.now _ c.deref-2.result.now _ c.add_all-fixed.new.weights c.mark_pairs.new.marks c.add_all-fixed.result _
    (built c.args.pairs.now c.args.start.now c.args.members.now c.deref.result.now c.deref-2.result.now c.in_ok-weights.weights c.add_all-fixed.new.weights c.in_ok-apart.apart c.mark_pairs.new.marks c.add_all-fixed.result s
    (c.deref.ensures.value ∙ c.in_ok-group.ensures)
    (ap length c.deref-2.ensures.value ∙ c.in_ok-place.ensures.size ∙ c.n.ensures.value)
    (subst (ArePlaces c.args.members.now) (sym c.deref-2.ensures.value) c.in_ok-place.ensures.places)
    c.in_ok-weights.ensures.size c.in_ok-weights.ensures.zero c.add_all-fixed.ensures.size c.add_all-fixed.ensures.sums c.add_all-fixed.ensures.inside
    c.in_ok-apart.ensures.size c.in_ok-apart.ensures.none c.mark_pairs.ensures.size
    (λ x z lx lz. c.mark_pairs.ensures.marked x z lx lz ∙ ap (λ (ps : _). joins (λ v. v) ps (slice_index c.args.members.now x) (slice_index c.args.members.now z) || has c.in_ok-apart.apart x z) c.forbidden.ensures))
    c.in_ok-copied.ensures c.new-3.ensures.items c.deref.ensures.value c.deref-2.ensures.value wk
