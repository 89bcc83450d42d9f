use Rattle.std.proofs.Common.{◌≡◌, ◌<◌, ◌≤◌, ◌^◌, unsigned_abs, subst, sym, ◌∙◌, arith, pos, to_z, of_z}
use mir.Syntax.{w128}
use Rattle.std.proofs.lemmas.Int.{ints}
use Rattle.clu_partition.specs.Pairs.{Pairs}
use Rattle.clu_partition.proofs.TableLaws.{small_at}
use Rattle.clu_partition.proofs.table.PairTable.at.Goals as goal

pub returns-clause-small : goal.returns-clause-small
returns-clause-small c =
    let same : to_z w128 (of_z w128 c.get.result) ≡ c.get.result = omega (arith, ints) in
    let first = subst (λ (t : Pairs). c.args.p < t.n) (sym c.self.view_is) c.requires.first in
    let second = subst (λ (t : Pairs). c.args.q < t.n) (sym c.self.view_is) c.requires.second in
    let small = small_at c.self.inside.grid c.args.p c.args.q c.self.invariant first second in
    subst (λ w. unsigned_abs w ≤ 2 ^ 88) (sym (same ∙ c.get.ensures (pos 0))) small
