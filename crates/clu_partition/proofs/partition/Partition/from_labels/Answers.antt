use Rattle.std.proofs.Common.{◌≡◌, ℕ, length, subst, arith}
use Rattle.clu_partition.proofs.Numbering.{Numbering, once}
use Rattle.clu_partition.proofs.partition.Partition.from_labels.Goals as goal

pub returns-clause-once : goal.returns-clause-once
returns-clause-once c =
    let end : c.loop-label.label-index ≡ length c.args.labels.now = omega arith in
    once c.args.labels.now c.loop-label.firsts.items c.loop-label.numbered.items
    (subst (λ (i : ℕ). Numbering c.args.labels.now i c.loop-label.firsts.items c.loop-label.numbered.items) end c.loop-label.invariant)
