use Rattle.std.proofs.Common.{◌≡◌, ◌+ℤ◌, pos, drop}
use Rattle.clu_rows.specs.Prices.{uncovered_all}
use Rattle.clu_rows.proofs.bound.excess.Given as goal

abbrev pub invariant-loop-i : goal.invariant-loop-i
invariant-loop-i g l = pos l.sum +ℤ uncovered_all (g.S.Situation.state l.state) l.den l.prices (drop l.i l.members) ≡ uncovered_all (g.S.Situation.state l.state) l.den l.prices l.members
