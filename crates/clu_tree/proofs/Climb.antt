-- Each node comes from where it says, also after a split, and the way up gives the decisions of its state.
use Rattle.std.proofs.Common.{◌≡◌, ◌≢◌, ℕ, ℤ, ◌<◌, ⊎_elim, List, [], ◌∷◌, ◌++◌, map, reverse, length, sym, ap, ◌∙◌, subst, arith, Option, Some, None, append_assoc, length-append}
use Rattle.std.proofs.lemmas.Bool.{cases_eq}
use Rattle.std.proofs.lemmas.List.{reverse-append, reverse-reverse}
use Rattle.slab.specs.Slab.{Slab, get}
use Rattle.clu_state.specs.State.{State, decided}
use Rattle.clu_state.specs.declared.decision.Decision.{Decision}
use Rattle.clu_state.specs.declared.decision.Decision.TheVariants.{Together, Apart}
use Rattle.clu_reduce.specs.Reduction.{decision_of}
use Rattle.clu_reduce.specs.declared.step.Step.{Step}
use Rattle.clu_node.specs.declared.bound.NodeBound.{NodeBound}
use Rattle.clu_cert.specs.Valid.{stepped}
use Rattle.clu_cert.proofs.States.{stepped_is}
use Rattle.clu_tree.specs.declared.node.Node.{Node}
use Rattle.clu_tree.specs.declared.node.Origin.{Origin}
use Rattle.clu_tree.specs.Nodes.{Shown, HasKey, HasLeaf, LeafAt, AreTrees, state_from, split_nodes}
use Rattle.clu_tree.specs.Links.{shown, NotAmong, KeysDiffer, Comes, AreClimbed}
use Rattle.clu_tree.proofs.Arena.{some_one}
use Rattle.clu_tree.proofs.SplitLaws.{leaf_key, other_key, key_kept, key_was, state_kept, state_new}

-- ---- after a split
pub comes_kept : (floor : ℤ) (key : ℕ) (node : NodeBound) (pair : ℕ × ℕ) (x y : Shown) (ns : List Shown) (root : State)
    → KeysDiffer ns → LeafAt key node ns → AreTrees floor ns (root ∷ []) → HasLeaf x.standing → HasLeaf y.standing → NotAmong x.key ns → NotAmong y.key ns
    → (k : ℕ) (steps : List Step) (origin : Option Origin) → HasKey k ns → Comes ns root k steps origin
    → Comes (split_nodes key pair x y ns) root k steps origin
comes_kept floor key node pair x y ns root d l t ex ey ax ay k steps None h c =
    state_kept floor k key node pair x y ns (root ∷ []) root d l t ex ey (other_key x.key k ns ax h) (other_key y.key k ns ay h) ∙ c
comes_kept floor key node pair x y ns root d l t ex ey ax ay k steps (Some origin) h c = (
  key_kept origin.parent key pair x y ns c.0,
  state_kept floor k key node pair x y ns (root ∷ []) root d l t ex ey (other_key x.key k ns ax h) (other_key y.key k ns ay h)
      ∙ c.1
      ∙ ap (λ s. stepped (decided s origin.decision) steps) (sym (state_kept floor origin.parent key node pair x y ns (root ∷ []) root d l t ex ey
      (other_key x.key origin.parent ns ax c.0) (other_key y.key origin.parent ns ay c.0))),
)

pub comes_new : (floor : ℤ) (key : ℕ) (node : NodeBound) (pair : ℕ × ℕ) (x y : Shown) (ns : List Shown) (root : State)
    → KeysDiffer ns → LeafAt key node ns → AreTrees floor ns (root ∷ []) → HasLeaf x.standing → HasLeaf y.standing → NotAmong x.key ns → NotAmong y.key ns → x.key ≢ y.key
    → Comes (split_nodes key pair x y ns) root x.key x.steps (Some (record { parent = key; decision = Together pair.0 pair.1 }))
    × Comes (split_nodes key pair x y ns) root y.key y.steps (Some (record { parent = key; decision = Apart pair.0 pair.1 }))
comes_new floor key node pair x y ns root d l t ex ey ax ay n =
    let h = leaf_key key node ns l in
    let w = state_new floor key node pair x y ns (root ∷ []) root d l t ex ax ay n in
    let s = state_kept floor key key node pair x y ns (root ∷ []) root d l t ex ey (other_key x.key key ns ax h) (other_key y.key key ns ay h) in (
      (key_kept key key pair x y ns h, w.0 ∙ ap (λ t. stepped (decided t (Together pair.0 pair.1)) x.steps) (sym s)),
      (key_kept key key pair x y ns h, w.1 ∙ ap (λ t. stepped (decided t (Apart pair.0 pair.1)) y.steps) (sym s)),
    )

-- What the arena tells of a split of the node n: it keeps its steps and its origin, x and y are new and come from it, and the
-- other nodes are as they were.
pub record SplitFrom (old new : Slab Node) (key : ℕ) (pair : ℕ × ℕ) (p q : ℕ) (n m x y : Node) : Type 0 where
  pub had : get old key ≡ Some n
  pub has : get new key ≡ Some m
  pub steps : m.steps ≡ n.steps
  pub origin : m.origin ≡ n.origin
  pub first : get new p ≡ Some x
  pub first_from : x.origin ≡ Some (record { parent = key; decision = Together pair.0 pair.1 })
  pub second : get new q ≡ Some y
  pub second_from : y.origin ≡ Some (record { parent = key; decision = Apart pair.0 pair.1 })
  pub others : (k : ℕ) → k ≢ key → k ≢ p → k ≢ q → get new k ≡ get old k

pub climbed_split : (old new : Slab Node) (floor : ℤ) (key : ℕ) (node : NodeBound) (pair : ℕ × ℕ) (p q : ℕ) (n m x y : Node) (ns : List Shown) (root : State)
    → KeysDiffer ns → LeafAt key node ns → AreTrees floor ns (root ∷ []) → NotAmong p ns → NotAmong q ns → p ≢ q → HasLeaf x.standing → HasLeaf y.standing
    → SplitFrom old new key pair p q n m x y → AreClimbed old ns root → AreClimbed new (split_nodes key pair (shown p x) (shown q y) ns) root
climbed_split old new floor key node pair p q n m x y ns root d l t ap' aq pq ex ey w c k j h g = ⊎_elim
    (λ e. ⊎_elim
    (λ f.
    let i : x ≡ j = some_one (get new p) x j w.first (ap (get new) f ∙ g) in
    subst (λ (z : ℕ). Comes all root z j.steps j.origin) f (subst (λ (z : Node). Comes all root p z.steps z.origin) i (subst (Comes all root p x.steps) (sym w.first_from) made.0)))
    (λ f.
    let i : y ≡ j = some_one (get new q) y j w.second (ap (get new) f ∙ g) in
    subst (λ (z : ℕ). Comes all root z j.steps j.origin) f (subst (λ (z : Node). Comes all root q z.steps z.origin) i (subst (Comes all root q y.steps) (sym w.second_from) made.1)))
    e)
    (λ e. keeps k j e g)
    (key_was k key pair (shown p x) (shown q y) ns h)
  where
    all : List Shown
    all = split_nodes key pair (shown p x) (shown q y) ns

    made : Comes (split_nodes key pair (shown p x) (shown q y) ns) root p x.steps (Some (record { parent = key; decision = Together pair.0 pair.1 }))
        × Comes (split_nodes key pair (shown p x) (shown q y) ns) root q y.steps (Some (record { parent = key; decision = Apart pair.0 pair.1 }))
    made = comes_new floor key node pair (shown p x) (shown q y) ns root d l t ex ey ap' aq pq

    kept : (i : ℕ) (steps : List Step) (origin : Option Origin) → HasKey i ns → Comes ns root i steps origin
        → Comes (split_nodes key pair (shown p x) (shown q y) ns) root i steps origin
    kept = comes_kept floor key node pair (shown p x) (shown q y) ns root d l t ex ey ap' aq

    keeps : (i : ℕ) (j : Node) → HasKey i ns → get new i ≡ Some j → Comes (split_nodes key pair (shown p x) (shown q y) ns) root i j.steps j.origin
    keeps i j e g = ⊎_elim
        (λ f.
        let z : m ≡ j = some_one (get new i) m j (ap (get new) f ∙ w.has) g in
        kept i j.steps j.origin e (subst (λ (u : Node). Comes ns root i u.steps u.origin) z
        (subst (λ o. Comes ns root i m.steps o) (sym w.origin) (subst (λ ss. Comes ns root i ss n.origin) (sym w.steps) (c i n e (ap (get old) f ∙ w.had))))))
        (λ f. kept i j.steps j.origin e (c i j e (sym (w.others i f (λ u. other_key p i ns ap' e (sym u)) (λ u. other_key q i ns aq e (sym u))) ∙ g)))
        (cases_eq i key)

-- ---- the decisions of a node's state
pub stepped_decisions : (s : State) (steps : List Step) → (stepped s steps).decisions ≡ s.decisions ++ map decision_of steps
stepped_decisions s steps = ap (λ (t : State). t.decisions) (stepped_is s steps)

-- those of the root's state are the ones that were given, and then its own
pub top_decisions : (ns : List Shown) (root : State) (key : ℕ) (steps : List Step) → Comes ns root key steps None
    → (state_from key ns (root ∷ []) root).decisions ≡ root.decisions ++ map decision_of steps
top_decisions ns root key steps c = ap (λ (t : State). t.decisions) c ∙ stepped_decisions root steps

-- those of another node's state are its parent's, what the split decides, and then its own
pub up_decisions : (ns : List Shown) (root : State) (key : ℕ) (steps : List Step) (origin : Origin) → Comes ns root key steps (Some origin)
    → (state_from key ns (root ∷ []) root).decisions ≡ (state_from origin.parent ns (root ∷ []) root).decisions ++ origin.decision ∷ map decision_of steps
up_decisions ns root key steps origin c =
    ap (λ (t : State). t.decisions) c.1
    ∙ stepped_decisions (decided (state_from origin.parent ns (root ∷ []) root) origin.decision) steps
    ∙ append_assoc (state_from origin.parent ns (root ∷ []) root).decisions (origin.decision ∷ []) (map decision_of steps)

-- ---- a path that is told from its end, and all the decisions, of which the rest are still to be told
told_back : (path mine : List Decision) → reverse (path ++ reverse mine) ≡ mine ++ reverse path
told_back path mine = reverse-append path (reverse mine) ∙ ap (λ ds. ds ++ reverse path) (reverse-reverse mine)

-- once a node's steps are told and what leads to it, its parent's are left
pub told_up : (ns : List Shown) (root : State) (key : ℕ) (steps : List Step) (origin : Origin) (path all : List Decision) → Comes ns root key steps (Some origin)
    → all ≡ (state_from key ns (root ∷ []) root).decisions ++ reverse path
    → all ≡ (state_from origin.parent ns (root ∷ []) root).decisions ++ reverse ((path ++ reverse (map decision_of steps)) ++ origin.decision ∷ [])
told_up ns root key steps origin path all c h =
    let before = (state_from origin.parent ns (root ∷ []) root).decisions in
    let mine = map decision_of steps in
    h ∙ ap (λ ds. ds ++ reverse path) (up_decisions ns root key steps origin c)
    ∙ append_assoc before (origin.decision ∷ mine) (reverse path)
    ∙ ap (λ ds. before ++ origin.decision ∷ ds) (sym (told_back path mine))
    ∙ ap (λ ds. before ++ ds) (sym (reverse-append (path ++ reverse mine) (origin.decision ∷ [])))

-- once those of the root's node are told and the given ones, none is left
pub told_whole : (ns : List Shown) (root : State) (key : ℕ) (steps : List Step) (path all : List Decision) → Comes ns root key steps None
    → all ≡ (state_from key ns (root ∷ []) root).decisions ++ reverse path
    → reverse ((path ++ reverse (map decision_of steps)) ++ reverse root.decisions) ≡ all
told_whole ns root key steps path all c h =
    let mine = map decision_of steps in
    reverse-append (path ++ reverse mine) (reverse root.decisions)
    ∙ ap (λ ds. ds ++ reverse (path ++ reverse mine)) (reverse-reverse root.decisions)
    ∙ ap (λ ds. root.decisions ++ ds) (told_back path mine)
    ∙ sym (append_assoc root.decisions mine (reverse path))
    ∙ sym (ap (λ ds. ds ++ reverse path) (top_decisions ns root key steps c))
    ∙ sym h

-- the way up is shorter than the way from here
pub up_shorter : (ns : List Shown) (root : State) (key : ℕ) (steps : List Step) (origin : Origin) → Comes ns root key steps (Some origin)
    → length (state_from origin.parent ns (root ∷ []) root).decisions < length (state_from key ns (root ∷ []) root).decisions
up_shorter ns root key steps origin c =
    let before = (state_from origin.parent ns (root ∷ []) root).decisions in
    let e = ap length (up_decisions ns root key steps origin c) in
    let h = length-append before (origin.decision ∷ map decision_of steps) in
    omega (arith, e, h)
