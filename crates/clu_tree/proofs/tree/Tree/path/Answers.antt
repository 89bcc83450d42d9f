use Rattle.std.proofs.Common.{◌≡◌, ◌++◌, [], ◌∷◌, ◌∙◌, ℕ, List, Option, Some, None, map, reverse, sym, ap, subst}
use Rattle.slab.specs.Slab.{Slab, get}
use Rattle.clu_state.specs.declared.decision.Decision.{Decision}
use Rattle.clu_reduce.specs.Reduction.{decision_of}
use Rattle.clu_reduce.specs.declared.step.Step.{Step}
use Rattle.clu_tree.specs.declared.node.Node.{Node}
use Rattle.clu_tree.specs.declared.node.Origin.{Origin}
use Rattle.clu_tree.specs.Nodes.{Tree as Shape, HasKey, state_at}
use Rattle.clu_tree.specs.Links.{Comes, AreClimbed}
use Rattle.clu_tree.proofs.Climb.{told_up, told_whole, up_shorter}
use Rattle.clu_tree.proofs.KeyLaws.{ComesFrom, linked_contains, linked_from}
use Rattle.clu_tree.proofs.tree.Tree.path.Goals as goal

-- where the node comes from, said of the tree that the fields show
came : (t u : Shape) (nodes : Slab Node) (key : ℕ) (n : Node) (origin : Option Origin) → AreClimbed nodes t.nodes t.root → t ≡ u → HasKey key u.nodes
    → get nodes key ≡ Some n → n.origin ≡ origin → Comes u.nodes u.root key n.steps origin
came t u nodes key n origin a e h g o =
    subst (Comes u.nodes u.root key n.steps) o (subst (λ (s : Shape). AreClimbed nodes s.nodes s.root) e a key n h g)

pub index-node-requires : goal.index-node-requires
index-node-requires c = linked_contains c.self.inside.nodes c.self.inside.first c.loop-path.at
    (subst (λ (t : Shape). HasKey c.loop-path.at t.nodes) (sym c.self.view_is) c.loop-path.invariant.key)

pub loop-path-smaller : goal.loop-path-smaller
loop-path-smaller c = up_shorter c.args.self.now.nodes c.args.self.now.root c.loop-path.at c.index-node.result.now.steps c.in-Some.origin
    (came _ c.args.self.now c.self.inside.nodes c.loop-path.at c.index-node.result.now (Some c.in-Some.origin) c.self.invariant.climbed c.self.view_is
    c.loop-path.invariant.key c.index-node.ensures c.in-Some.is)

pub loop-path-preserved : goal.loop-path-preserved
loop-path-preserved c =
    let from = came _ c.args.self.now c.self.inside.nodes c.loop-path.at c.index-node.result.now (Some c.in-Some.origin) c.self.invariant.climbed c.self.view_is
    c.loop-path.invariant.key c.index-node.ensures c.in-Some.is in
    let told = c.in_ok-push.ensures.items ∙ ap (λ (ds : List Decision). ds ++ c.in-Some.origin.decision ∷ [])
    (c.in_ok-push_steps_back.ensures ∙ ap (λ (steps : List Step). c.loop-path.path.items ++ reverse (map decision_of steps)) c.as_slice.ensures) in
    record {
      key = from.0;
      whole = subst (λ (ds : List Decision). (state_at c.args.self.now c.args.key).decisions ≡ (state_at c.args.self.now c.in-Some.origin.parent).decisions ++ reverse ds)
          (sym told) (told_up c.args.self.now.nodes c.args.self.now.root c.loop-path.at c.index-node.result.now.steps c.in-Some.origin c.loop-path.path.items
          (state_at c.args.self.now c.args.key).decisions from c.loop-path.invariant.whole);
    }

pub returns-clause-decisions : goal.returns-clause-decisions
returns-clause-decisions c =
    let from = came _ c.args.self.now c.self.inside.nodes c.loop-path.at c.index-node.result.now None c.self.invariant.climbed c.self.view_is
    c.loop-path.invariant.key c.index-node.ensures c.in_default.is in
    let steps = c.in_ok-push_steps_back.ensures ∙ ap (λ (steps : List Step). c.loop-path.path.items ++ reverse (map decision_of steps)) c.as_slice.ensures in
    let given = c.as_slice-2.ensures ∙ ap (λ (t : Shape). t.root.decisions) c.self.view_is in
    c.reverse.ensures.items ∙ ap (λ (ds : List Decision). reverse ds)
    (c.in_ok-push_back.ensures ∙ ap (λ (ds : List Decision). ds ++ reverse c.as_slice-2.result.now) steps
    ∙ ap (λ (ds : List Decision). (c.loop-path.path.items ++ reverse (map decision_of c.index-node.result.now.steps)) ++ reverse ds) given)
    ∙ told_whole c.args.self.now.nodes c.args.self.now.root c.loop-path.at c.index-node.result.now.steps c.loop-path.path.items
    (state_at c.args.self.now c.args.key).decisions from c.loop-path.invariant.whole

pub returns-clause-state : goal.returns-clause-state
returns-clause-state c = (subst (λ (t : Shape). ComesFrom t.root (state_at t c.args.key)) c.self.view_is
    (linked_from c.self.inside.nodes c.self.inside.first _ c.self.inside.floor c.args.key c.self.invariant.linked)).same
    ∙ ap (λ (ds : List Decision). record c.args.self.now.root { decisions = ds }) (sym (returns-clause-decisions c))

pub returns-clause-valid : goal.returns-clause-valid
returns-clause-valid c = (subst (λ (t : Shape). ComesFrom t.root (state_at t c.args.key)) c.self.view_is
    (linked_from c.self.inside.nodes c.self.inside.first _ c.self.inside.floor c.args.key c.self.invariant.linked)).state
