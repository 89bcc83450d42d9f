use Rattle.std.proofs.Common.{◌∙◌, subst, ◌∷◌, IsPermutation, rules}
use Rattle.std.specs.Int.{w128}
use mir.Val.{SFits}
use Rattle.std.proofs.lemmas.Int.{to_z-of_z}
use Rattle.clu_tree.specs.Queue.{queue_entry}
use Rattle.clu_tree.proofs.QueueLaws.{two_pushed}
use Rattle.clu_tree.proofs.Queued.{keys_there, requeued}
use Rattle.clu_tree.proofs.grow.grow.Goals as goal

pub clear_split-requires : goal.clear_split-requires
clear_split-requires c =
    let f : SFits w128 c.bound_of-together_bound.result = search rules in
    let g : SFits w128 c.bound_of-apart_bound.result = search rules in
    let both = two_pushed c.args.queue.now.entries c.reserve.new.self.entries c.push.new.self.entries c.push-2.new.self.entries
    c.args.together.bound.bound c.args.apart.bound.bound c.in_ok-keys.keys.0 c.in_ok-keys.keys.1 c.reserve.ensures.same
    (subst (λ z. IsPermutation (queue_entry z c.in_ok-keys.keys.0 ∷ c.reserve.new.self.entries) c.push.new.self.entries)
    (to_z-of_z w128 c.bound_of-together_bound.result f ∙ c.bound_of-together_bound.ensures) c.push.ensures.entries)
    (subst (λ z. IsPermutation (queue_entry z c.in_ok-keys.keys.1 ∷ c.push.new.self.entries) c.push-2.new.self.entries)
    (to_z-of_z w128 c.bound_of-apart_bound.result g ∙ c.bound_of-apart_bound.ensures) c.push-2.ensures.entries) in
    keys_there c.args.nodes.now c.attach.new.nodes c.args.key (c.args.u, c.args.v) c.args.together c.args.apart c.in_ok-keys.keys
    c.args.queue.now.entries c.push-2.new.self.entries c.args.together.bound.bound c.args.apart.bound.bound c.requires.key c.in_ok-keys.ensures.ok both c.requires.known

pub returns-clause-queued : goal.returns-clause-queued
returns-clause-queued c =
    let f : SFits w128 c.bound_of-together_bound.result = search rules in
    let g : SFits w128 c.bound_of-apart_bound.result = search rules in
    let both = two_pushed c.args.queue.now.entries c.reserve.new.self.entries c.push.new.self.entries c.push-2.new.self.entries
    c.args.together.bound.bound c.args.apart.bound.bound c.in_ok-keys.keys.0 c.in_ok-keys.keys.1 c.reserve.ensures.same
    (subst (λ z. IsPermutation (queue_entry z c.in_ok-keys.keys.0 ∷ c.reserve.new.self.entries) c.push.new.self.entries)
    (to_z-of_z w128 c.bound_of-together_bound.result f ∙ c.bound_of-together_bound.ensures) c.push.ensures.entries)
    (subst (λ z. IsPermutation (queue_entry z c.in_ok-keys.keys.1 ∷ c.push.new.self.entries) c.push-2.new.self.entries)
    (to_z-of_z w128 c.bound_of-apart_bound.result g ∙ c.bound_of-apart_bound.ensures) c.push-2.ensures.entries) in
    requeued c.attach.new.nodes c.args.queue.now.entries c.push-2.new.self.entries c.clear_split.new.queue.entries
    c.args.together.bound.bound c.args.apart.bound.bound c.in_ok-keys.keys both c.clear_split.ensures.less c.clear_split.ensures.leaves c.clear_split.ensures.best
