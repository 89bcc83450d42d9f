use Rattle.std.proofs.Common.{◌≡◌, pos, take}
use Rattle.clu_partition.specs.Sums.{total}
use Rattle.clu_rows.specs.Prices.{uncovered}
use Rattle.clu_rows.proofs.bound.uncovered_with.Given as goal

abbrev pub invariant-loop-b : goal.invariant-loop-b
invariant-loop-b g l = pos l.sum ≡ total (uncovered (g.S.Situation.state l.state) l.den l.prices l.fn.a) (take l.b-index l.later)
