use Rattle.std.proofs.Common.{◌≡◌, ◌∙◌, sym, ap, arith, ℕ, ◌<◌, ◌-◌, ◌+◌, subst, slice_index, to_z, of_z, pos, length, get_or, drop}
use mir.Syntax.{w128}
use Rattle.std.proofs.lemmas.Int.{ints}
use Rattle.std.proofs.lemmas.List.{drop_all, get_or_default}
use Rattle.clu_partition.specs.Pairs.{Pairs, weight_of}
use Rattle.clu_state.proofs.Bounds.{few_groups}
use Rattle.clu_cuts.specs.Point.{listed_share}
use Rattle.clu_cuts.proofs.Places.{All-at, pair_places, groups_rise, rise_apart, more_filled}
use Rattle.clu_cuts.proofs.shares.table_of.Goals as goal

pub overflow_cast-groups : goal.overflow_cast-groups
overflow_cast-groups g c = let h = few_groups _ c.args.groups.now c.requires.valid c.requires.leaders in omega (arith, h)

pub new-requires : goal.new-requires
new-requires g c = few_groups _ c.args.groups.now c.requires.valid c.requires.leaders

pub place_in-i-requires-clause-rising : goal.place_in-i-requires-clause-rising
place_in-i-requires-clause-rising g c = groups_rise _ c.args.groups.now c.requires.valid c.requires.leaders

pub place_in-j-requires-clause-rising : goal.place_in-j-requires-clause-rising
place_in-j-requires-clause-rising g c = groups_rise _ c.args.groups.now c.requires.valid c.requires.leaders

pub place_in-i-requires-clause-listed : goal.place_in-i-requires-clause-listed
place_in-i-requires-clause-listed g c =
    (pair_places _ c.args.groups.now c.as_slice-pairs.result.now (c.loop-k.k - 1) c.index-pairs-k.result c.requires.valid c.requires.leaders (c.as_slice-pairs.ensures ∙ c.requires.point.pairs) (omega arith)).first

pub place_in-j-requires-clause-listed : goal.place_in-j-requires-clause-listed
place_in-j-requires-clause-listed g c =
    (pair_places _ c.args.groups.now c.as_slice-pairs.result.now (c.loop-k.k - 1) c.index-pairs-k-in-loop-k.result c.requires.valid c.requires.leaders (c.as_slice-pairs.ensures ∙ c.requires.point.pairs) (omega arith)).second

pub loop-k-init : goal.loop-k-init
loop-k-init g c = record {
  size = c.in_ok-table.ensures.size;
  left = λ i j li lj. c.in_ok-table.ensures.zero i j ∙ sym (ap (λ ps. listed_share ps (drop (length c.as_slice-pairs.result.now) c.as_slice-x.result.now) (slice_index c.args.groups.now i) (slice_index c.args.groups.now j)) (drop_all (length c.as_slice-pairs.result.now) c.as_slice-pairs.result.now (omega arith)));
}

pub loop-k-preserved : goal.loop-k-preserved
loop-k-preserved g c =
    let back : c.loop-k.k - 1 + 1 ≡ c.loop-k.k = omega arith in
    let lp : c.loop-k.k - 1 < length c.as_slice-pairs.result.now = omega arith in
    let same : length c.as_slice-x.result.now ≡ length c.as_slice-pairs.result.now =
    ap length c.as_slice-x.ensures ∙ c.requires.point.each ∙ sym (ap length c.as_slice-pairs.ensures) in
    let lx : c.loop-k.k - 1 < length c.as_slice-x.result.now = omega (arith, same, lp) in
    let both = pair_places _ c.args.groups.now c.as_slice-pairs.result.now (c.loop-k.k - 1) c.index-pairs-k.result c.requires.valid c.requires.leaders (c.as_slice-pairs.ensures ∙ c.requires.point.pairs) lp in
    let turn = get_or_default c.as_slice-pairs.result.now (c.loop-k.k - 1) c.index-pairs-k-in-loop-k.result c.index-pairs-k.result lp in
    let r = All-at c.args.point.now.den c.args.point.now.x c.as_slice-x.result.now (c.loop-k.k - 1) c.requires.point.range c.as_slice-x.ensures lx in
    let low = r.0 in
    let high = r.1 in
    let m = c.requires.common in
    let y : to_z w128 (of_z w128 (get_or c.as_slice-x.result.now (c.loop-k.k - 1) (pos 0))) ≡ get_or c.as_slice-x.result.now (c.loop-k.k - 1) (pos 0) = omega (arith, ints, low, high, m) in
    record {
      size = ap (λ (t : Pairs). t.n) c.set.ensures.changed ∙ c.loop-k.invariant.size;
      left = more_filled c.args.groups.now c.loop-k.table c.set.new.self c.place_in-i.result c.place_in-j.result (c.loop-k.k - 1) c.index-pairs-k.result (pos 0) _ c.as_slice-pairs.result.now c.as_slice-x.result.now
          (rise_apart c.args.groups.now (groups_rise _ c.args.groups.now c.requires.valid c.requires.leaders)) c.loop-k.invariant.size c.set.ensures.grid c.place_in-i.ensures.within c.place_in-j.ensures.within both
          c.place_in-i.ensures.at (c.place_in-j.ensures.at ∙ ap (λ (p : ℕ × ℕ). p.1) turn) lp lx y c.set.ensures.changed
          (subst (λ m. (a b : ℕ) → a < length c.args.groups.now → b < length c.args.groups.now → weight_of c.loop-k.table a b ≡ listed_share (drop m c.as_slice-pairs.result.now) (drop m c.as_slice-x.result.now) (slice_index c.args.groups.now a) (slice_index c.args.groups.now b))
          (sym back) c.loop-k.invariant.left);
    }
