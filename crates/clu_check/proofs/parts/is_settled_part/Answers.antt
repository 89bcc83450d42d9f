use Rattle.std.proofs.Common.{Contains, sym}
use Rattle.std.proofs.lemmas.List.Elements.{All-contains}
use Rattle.clu_check.proofs.parts.is_settled_part.Goals as goal

pub is_settled_with-requires-clause-within : goal.is_settled_with-requires-clause-within
is_settled_with-requires-clause-within c =
    All-contains (Contains c.args.state.now.members) c.args.part.now c.u-item.result c.requires.within
    (c.loop-u.u-index, c.loop-u-test.true, sym c.u-item.is)
