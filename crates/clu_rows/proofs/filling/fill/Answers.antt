use Rattle.std.proofs.Common.{arith}
use Rattle.clu_rows.proofs.Maximal.{first_table}
use Rattle.clu_rows.proofs.filling.fill.Goals as goal

pub returns-clause-packed : goal.returns-clause-packed
returns-clause-packed g c = first_table _ _ c.loop-i.left c.requires.valid c.requires.leaders (let h = c.loop-i.invariant.room in omega (arith, h, c.requires.room)) (λ x z p q. c.loop-i.invariant.done x z (omega arith) p q)
