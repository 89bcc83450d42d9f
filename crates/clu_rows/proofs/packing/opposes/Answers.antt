use Rattle.std.proofs.Common.{◌∙◌}
use Rattle.std.proofs.lemmas.Grind.{get_or_default_zero}
use Rattle.clu_rows.proofs.Tried.{places}
use Rattle.clu_rows.proofs.packing.opposes.Goals as goal

pub is_apart-requires-clause-first : goal.is_apart-requires-clause-first
is_apart-requires-clause-first g c = (places _ _ _ _ c.args.b c.args.c _ _ c.requires.some.1 c.requires.b c.requires.c c.requires.bc (c.index-groups-b.is ∙ get_or_default_zero c.args.groups.now c.args.b c.index-groups-b.result c.requires.b) (c.index-groups-c.is ∙ get_or_default_zero c.args.groups.now c.args.c c.index-groups-c.result c.requires.c)).first

pub is_apart-requires-clause-second : goal.is_apart-requires-clause-second
is_apart-requires-clause-second g c = (places _ _ _ _ c.args.b c.args.c _ _ c.requires.some.1 c.requires.b c.requires.c c.requires.bc (c.index-groups-b.is ∙ get_or_default_zero c.args.groups.now c.args.b c.index-groups-b.result c.requires.b) (c.index-groups-c.is ∙ get_or_default_zero c.args.groups.now c.args.c c.index-groups-c.result c.requires.c)).second

pub is_apart-requires-clause-differ : goal.is_apart-requires-clause-differ
is_apart-requires-clause-differ g c = (places _ _ _ _ c.args.b c.args.c _ _ c.requires.some.1 c.requires.b c.requires.c c.requires.bc (c.index-groups-b.is ∙ get_or_default_zero c.args.groups.now c.args.b c.index-groups-b.result c.requires.b) (c.index-groups-c.is ∙ get_or_default_zero c.args.groups.now c.args.c c.index-groups-c.result c.requires.c)).differ
