use Rattle.std.proofs.Common.{ap, refl}
use Rattle.slab.specs.Slab.{Slab, with_value}
use Rattle.clu_tree.specs.declared.node.Node.{Node}
use Rattle.clu_tree.proofs.Attaching.{attached}
use Rattle.clu_tree.proofs.grow.attach.Goals as goal

pub returns-clause-ok : goal.returns-clause-ok
returns-clause-ok c = attached c.args.nodes.now c.reserve.new.self c.insert_reserved-first.new.self c.insert_reserved-second.new.self
    (with_value c.insert_reserved-second.new.self c.insert_reserved-first.result (record c.index_mut.result.now { next = c.insert_reserved-second.result }))
    c.args.key c.insert_reserved-first.result c.insert_reserved-second.result c.index.result.now.next
    (c.args.u, c.args.v) c.args.together c.args.apart c.index.result.now c.index_mut-node.result.now c.index_mut.result.now c.split_on.result
    (record {
      slots = ap (λ (s : Slab Node). s.slots) c.reserve.ensures.rest_kept;
      had = c.index.ensures;
      first_vacant = c.insert_reserved-first.ensures.was_vacant;
      first = c.insert_reserved-first.ensures.updates;
      first_len = c.insert_reserved-first.ensures.len;
      second_vacant = c.insert_reserved-second.ensures.was_vacant;
      second = c.insert_reserved-second.ensures.updates;
      second_len = c.insert_reserved-second.ensures.len;
      first_there = c.index_mut.ensures.value;
      linked = refl;
      has = c.index_mut-node.ensures.value;
    })
    c.split_on.ensures
