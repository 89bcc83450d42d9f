use Rattle.std.proofs.Common.{◌≡◌, ℕ, List, [], ◌∷◌, ◌+◌, sym, ap, ◌∙◌, subst, rules, IsPermutation, count_by, is_some, None}
use Rattle.std.specs.Int.{w128}
use mir.Val.{SFits}
use Rattle.std.proofs.lemmas.Int.{to_z-of_z}
use Rattle.slab.specs.Slab.{Slab, slab_len}
use Rattle.clu_state.specs.State.{State, IsState}
use Rattle.clu_state.specs.declared.decision.Decision.{Decision}
use Rattle.clu_tree.specs.declared.node.Node.{Node}
use Rattle.clu_tree.specs.Nodes.{MayStand}
use Rattle.clu_tree.specs.Queue.{queue_entry}
use Rattle.clu_tree.specs.Links.{leaf_node}
use Rattle.clu_tree.proofs.Arena.{one_shown}
use Rattle.clu_tree.proofs.RootLaws.{one_whole}
use Rattle.clu_tree.proofs.tree.Tree.new.Goals as goal

pub invariant_of-result : goal.invariant_of-result
invariant_of-result c =
    let slots : c.reserve-2.new.self.slots ≡ [] = ap (λ (t : Slab Node). t.slots) c.reserve-2.ensures.rest_kept ∙ c.new-nodes.ensures.empty in
    let len : slab_len c.insert_reserved-first.new.self ≡ 1 = c.insert_reserved-first.ensures.len ∙ ap (λ l. count_by is_some l + 1) slots in
    let f : SFits w128 c.bound_of-bound.result = search rules in
    let state = λ (members : List ℕ) (given : List Decision).
    let s : State = record { pairs = c.args.pairs.now; start = c.args.start.now; members = members; decisions = given } in s in
    let same : state c.args.members.now c.args.given.now ≡ state c.in_ok-members.members c.in_ok-given.given =
    ap (λ members. state members c.args.given.now) (sym c.in_ok-members.ensures) ∙ ap (state c.in_ok-members.members) (sym c.in_ok-given.ensures) in
    one_whole c.insert_reserved-first.new.self c.insert_reserved-first.result 0 _ _ c.args.root c.reserve.new.self.entries c.push.new.self.entries
    c.insert_reserved-first.ensures.updates.changed len (subst IsState same c.requires.state) (subst (λ s. MayStand s c.args.root) same c.requires.fit)
    (c.reserve.ensures.same ∙ c.new-queue.ensures)
    (subst (λ z. IsPermutation (queue_entry z c.insert_reserved-first.result ∷ c.reserve.new.self.entries) c.push.new.self.entries)
    (to_z-of_z w128 c.bound_of-bound.result f ∙ c.bound_of-bound.ensures) c.push.ensures.entries)

pub returns : goal.returns
returns c =
    let slots : c.reserve-2.new.self.slots ≡ [] = ap (λ (t : Slab Node). t.slots) c.reserve-2.ensures.rest_kept ∙ c.new-nodes.ensures.empty in
    let len : slab_len c.insert_reserved-first.new.self ≡ 1 = c.insert_reserved-first.ensures.len ∙ ap (λ l. count_by is_some l + 1) slots in
    let fits : SFits w128 c.args.floor = search rules in
    let floor = to_z-of_z w128 c.args.floor fits in
    let alone = one_shown c.insert_reserved-first.new.self c.insert_reserved-first.result (leaf_node c.args.root 0 None) c.insert_reserved-first.ensures.updates.changed len in (
      c.insert_reserved-first.result,
      λ i. record {
        root = record { pairs = c.args.pairs.now; start = c.args.start.now; members = c.in_ok-members.ensures i; decisions = c.in_ok-given.ensures i };
        floor = floor i;
        nodes = alone i;
      },
    )
