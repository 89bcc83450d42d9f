use Rattle.std.proofs.Common.{◌≡◌, ◌≢◌, ◌<◌, ◌≤◌, ◌^◌, ℕ, ℤ, unsigned_abs, subst, sym, ap, arith, to_z, of_z}
use mir.Syntax.{w128}
use Rattle.std.proofs.lemmas.Int.{ints}
use Rattle.clu_partition.specs.Pairs.{Pairs, with_weight, IsTable}
use Rattle.clu_partition.proofs.TableLaws.{table_set}
use Rattle.clu_partition.proofs.table.PairTable.set_at.Goals as goal

written : (t now new : Pairs) (p q : ℕ) (w : ℤ) → t ≡ now → IsTable t → p < now.n → q < now.n → p ≢ q → unsigned_abs w ≤ 2 ^ 88
    → new ≡ with_weight t p q (to_z w128 (of_z w128 w)) → IsTable new
written t now new p q w e kept first second differ small is =
    let size = ap (λ (s : Pairs). s.n) e in
    let fits : unsigned_abs (to_z w128 (of_z w128 w)) ≤ 2 ^ 88 = omega (arith, ints, small) in
    subst IsTable (sym is) (table_set t p q (to_z w128 (of_z w128 w)) kept (omega (arith, size, first)) (omega (arith, size, second)) differ fits)

pub invariant_of-self : goal.invariant_of-self
invariant_of-self c =
    let r = c.requires in
    written _ _ _ _ _ c.args.w c.self.view_is c.self.invariant r.first r.second r.differ r.small c.set.ensures.changed

pub returns-clause-kept : goal.returns-clause-kept
returns-clause-kept c =
    let r = c.requires in
    written _ _ _ _ _ c.args.w c.self.view_is c.self.invariant r.first r.second r.differ r.small c.set.ensures.changed
