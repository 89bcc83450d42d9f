use Rattle.std.proofs.Common.{◌≡◌, ◌∙◌, arith, to_z, of_z, ap, ℕ, slice_index}
use mir.Syntax.{w128}
use Rattle.std.proofs.lemmas.Int.{ints}
use Rattle.std.proofs.lemmas.Grind.{get_or_default_zero}
use Rattle.clu_state.specs.State.{are_apart, group_weight}
use Rattle.clu_rows.proofs.Tried.{places_of}
use Rattle.clu_rows.proofs.Maximal.{unwrapped}
use Rattle.clu_rows.proofs.filling.free_weight.Goals as goal

pub is_apart-requires-clause-first : goal.is_apart-requires-clause-first
is_apart-requires-clause-first g c = (places_of _ _ c.args.i c.args.j _ _ c.requires.valid c.requires.leaders c.requires.i c.requires.j c.requires.differ
    (c.index-groups-i.is ∙ get_or_default_zero c.args.groups.now c.args.i c.index-groups-i.result c.requires.i) (c.index-groups-j.is ∙ get_or_default_zero c.args.groups.now c.args.j c.index-groups-j.result c.requires.j)).first

pub is_apart-requires-clause-second : goal.is_apart-requires-clause-second
is_apart-requires-clause-second g c = (places_of _ _ c.args.i c.args.j _ _ c.requires.valid c.requires.leaders c.requires.i c.requires.j c.requires.differ
    (c.index-groups-i.is ∙ get_or_default_zero c.args.groups.now c.args.i c.index-groups-i.result c.requires.i) (c.index-groups-j.is ∙ get_or_default_zero c.args.groups.now c.args.j c.index-groups-j.result c.requires.j)).second

pub is_apart-requires-clause-differ : goal.is_apart-requires-clause-differ
is_apart-requires-clause-differ g c = (places_of _ _ c.args.i c.args.j _ _ c.requires.valid c.requires.leaders c.requires.i c.requires.j c.requires.differ
    (c.index-groups-i.is ∙ get_or_default_zero c.args.groups.now c.args.i c.index-groups-i.result c.requires.i) (c.index-groups-j.is ∙ get_or_default_zero c.args.groups.now c.args.j c.index-groups-j.result c.requires.j)).differ

pub weight-requires-clause-first : goal.weight-requires-clause-first
weight-requires-clause-first g c = (places_of _ _ c.args.i c.args.j _ _ c.requires.valid c.requires.leaders c.requires.i c.requires.j c.requires.differ
    (c.index-groups-i.is ∙ get_or_default_zero c.args.groups.now c.args.i c.index-groups-i.result c.requires.i) (c.index-groups-j.is ∙ get_or_default_zero c.args.groups.now c.args.j c.index-groups-j.result c.requires.j)).first

pub weight-requires-clause-second : goal.weight-requires-clause-second
weight-requires-clause-second g c = (places_of _ _ c.args.i c.args.j _ _ c.requires.valid c.requires.leaders c.requires.i c.requires.j c.requires.differ
    (c.index-groups-i.is ∙ get_or_default_zero c.args.groups.now c.args.i c.index-groups-i.result c.requires.i) (c.index-groups-j.is ∙ get_or_default_zero c.args.groups.now c.args.j c.index-groups-j.result c.requires.j)).second

pub weight-requires-clause-differ : goal.weight-requires-clause-differ
weight-requires-clause-differ g c = (places_of _ _ c.args.i c.args.j _ _ c.requires.valid c.requires.leaders c.requires.i c.requires.j c.requires.differ
    (c.index-groups-i.is ∙ get_or_default_zero c.args.groups.now c.args.i c.index-groups-i.result c.requires.i) (c.index-groups-j.is ∙ get_or_default_zero c.args.groups.now c.args.j c.index-groups-j.result c.requires.j)).differ

pub returns : goal.returns
returns g c =
    let s = g.S.Situation.state c.args.state.now in
    let eu = c.index-groups-i.is ∙ get_or_default_zero c.args.groups.now c.args.i c.index-groups-i.result c.requires.i in
    let ev = c.index-groups-j.is ∙ get_or_default_zero c.args.groups.now c.args.j c.index-groups-j.result c.requires.j in
    let wr : to_z w128 (of_z w128 c.unless.result) ≡ c.unless.result = omega (arith, ints) in
    let ww : to_z w128 (of_z w128 c.weight.result) ≡ c.weight.result = omega (arith, ints) in
    wr ∙ unwrapped c.is_apart.result (are_apart s (slice_index c.args.groups.now c.args.i) (slice_index c.args.groups.now c.args.j)) c.unless.result c.weight.result (group_weight s (slice_index c.args.groups.now c.args.i) (slice_index c.args.groups.now c.args.j)) (to_z w128 (of_z w128 c.weight.result))
    (c.is_apart.ensures ∙ ap (λ (x : ℕ). are_apart (g.S.Situation.state c.args.state.now) x c.index-groups-j.result) eu ∙ ap (λ (x : ℕ). are_apart (g.S.Situation.state c.args.state.now) (slice_index c.args.groups.now c.args.i) x) ev)
    c.unless.ensures ww
    (c.weight.ensures ∙ ap (λ (x : ℕ). group_weight (g.S.Situation.state c.args.state.now) x c.index-groups-j.result) eu ∙ ap (λ (x : ℕ). group_weight (g.S.Situation.state c.args.state.now) (slice_index c.args.groups.now c.args.i) x) ev)
