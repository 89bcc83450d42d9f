-- What a key of a tree has: a node in the arena, one bound where it is a leaf, and a state.
use Rattle.std.proofs.Common.{◌≡◌, ℕ, ℤ, ⊎_elim, List, [], ◌∷◌, ◌++◌, map, refl, sym, ap, ◌∙◌, subst, Some, IsSome}
use Rattle.std.proofs.lemmas.Bool.{cases_eq}
use Rattle.slab.specs.Slab.{Slab, get, slab_len, ContainsKey}
use Rattle.clu_partition.proofs.SumLaws.{Each}
use Rattle.clu_state.specs.State.{State, IsState, decided}
use Rattle.clu_state.specs.declared.decision.Decision.TheVariants.{Together, Apart}
use Rattle.clu_state.proofs.Joined.{decided_state}
use Rattle.clu_reduce.specs.Reduction.{decision_of}
use Rattle.clu_reduce.specs.declared.step.Step.{Step}
use Rattle.clu_node.specs.Node.{IsBounded}
use Rattle.clu_node.specs.declared.bound.NodeBound.{NodeBound}
use Rattle.clu_cert.specs.Valid.{StepsHold, stepped}
use Rattle.clu_cert.proofs.States.{stepped_is, stepped_state}
use Rattle.clu_tree.specs.declared.node.Node.{Node}
use Rattle.clu_tree.specs.declared.node.Branch.{Branch}
use Rattle.clu_tree.specs.declared.node.Standing.{Standing}
use Rattle.clu_tree.specs.declared.node.Standing.TheVariants.{Unsplit, Split}
use Rattle.clu_tree.specs.Nodes.{Shown, pending, state_from, HasKey, LeafAt, Stands, AreTrees}
use Rattle.clu_tree.specs.Links.{nodes_from, KeysDiffer, AreNodeLinks}
use Rattle.clu_tree.proofs.Arena.{some_one, key_node, leaf_unsplit}
use Rattle.clu_tree.proofs.SplitLaws.{state_here, state_later, leaf_here, leaf_later}

-- ---- the bound of a leaf
pub split_is : (branch : Branch) (node : NodeBound) → Split branch ≡ Unsplit node → ⊥
split_is branch node e = cc

pub unsplit_once : (node other : NodeBound) → Unsplit node ≡ Unsplit other → node ≡ other
unsplit_once node other e = cc

pub leaf_once : (key : ℕ) (node other : NodeBound) (ns : List Shown) → KeysDiffer ns → LeafAt key node ns → LeafAt key other ns → other ≡ node
leaf_once key node other [] d b c = absurd b
leaf_once key node other (n ∷ ns) d b c = ⊎_elim
    (λ e. unsplit_once other node (sym (leaf_here key other n ns d.0 e c) ∙ leaf_here key node n ns d.0 e b))
    (λ e. leaf_once key node other ns d.1 (leaf_later key node n ns e b) (leaf_later key other n ns e c))
    (cases_eq n.key key)

-- it bounds the state of the key
pub bounded_at : (floor : ℤ) (key : ℕ) (node : NodeBound) (ns : List Shown) (states : List State) (other : State) → KeysDiffer ns → AreTrees floor ns states
    → LeafAt key node ns → IsBounded (state_from key ns states other) node
bounded_at floor key node [] states other d t b = absurd b
bounded_at floor key node (n ∷ ns) [] other d t b = absurd t
bounded_at floor key node (n ∷ ns) (s ∷ later) other d t b = ⊎_elim
    (λ e. subst (λ (u : State). IsBounded u node) (sym (state_here key n ns s other later e))
    (subst (Stands floor (stepped s n.steps)) (leaf_here key node n ns d.0 e b) t.1))
    (λ e. subst (λ (u : State). IsBounded u node) (sym (state_later key n ns s other later e))
    (bounded_at floor key node ns (pending n.standing (stepped s n.steps) later) other d.1 t.2 (leaf_later key node n ns e b)))
    (cases_eq n.key key)

-- ---- the state of a key
-- a valid state that differs from the root's at most in its decisions
pub record ComesFrom (root s : State) : Type 0 where
  pub state : IsState s
  pub same : s ≡ record root { decisions = s.decisions }

pub root_from : (root : State) → IsState root → ComesFrom root root
root_from root i = record { state = i; same = refl }

stepped_from : (root s : State) (steps : List Step) → ComesFrom root s → StepsHold s steps → ComesFrom root (stepped s steps)
stepped_from root s steps f a =
    let e = stepped_is s steps in
    let decisions = s.decisions ++ map decision_of steps in
    record {
      state = stepped_state s steps f.state a;
      same = e ∙ ap (λ (t : State). record t { decisions = decisions }) f.same
          ∙ ap (λ ds. record root { decisions = ds }) (sym (ap (λ (t : State). t.decisions) e));
    }

pending_from : (root s : State) (later : List State) (floor : ℤ) (standing : Standing) → ComesFrom root s → Each (ComesFrom root) later
    → Stands floor s standing → Each (ComesFrom root) (pending standing s later)
pending_from root s later floor (Unsplit node) f e c = e
pending_from root s later floor (Split branch) f e c =
    let pair = branch.pair in (
      record { state = decided_state s (Together pair.0 pair.1) f.state c.0; same = ap (λ (t : State). decided t (Together pair.0 pair.1)) f.same },
      (record { state = decided_state s (Apart pair.0 pair.1) f.state c.0; same = ap (λ (t : State). decided t (Apart pair.0 pair.1)) f.same }, e),
    )

pub state_is_from : (floor : ℤ) (key : ℕ) (ns : List Shown) (states : List State) (other root : State) → ComesFrom root other → Each (ComesFrom root) states
    → AreTrees floor ns states → ComesFrom root (state_from key ns states other)
state_is_from floor key [] states other root o e t = o
state_is_from floor key (n ∷ ns) [] other root o e t = o
state_is_from floor key (n ∷ ns) (s ∷ later) other root o e t =
    let f = stepped_from root s n.steps e.0 t.0 in
    ⊎_elim
    (λ q. subst (ComesFrom root) (sym (state_here key n ns s other later q)) f)
    (λ q. subst (ComesFrom root) (sym (state_later key n ns s other later q))
    (state_is_from floor key ns (pending n.standing (stepped s n.steps) later) other root o
    (pending_from root (stepped s n.steps) later floor n.standing f e.1 t.1) t.2))
    (cases_eq n.key key)

-- ---- in the arena
pub linked_contains : (nodes : Slab Node) (first : ℕ) (key : ℕ) → HasKey key (nodes_from (slab_len nodes) nodes first) → ContainsKey nodes key
linked_contains nodes first key h =
    let w = key_node (slab_len nodes) nodes first key h in
    subst (λ o. IsSome o) (sym w.1) refl

-- a leaf's node isn't split
pub linked_leaf : (nodes : Slab Node) (first : ℕ) (key : ℕ) (node : NodeBound) (n : Node) → LeafAt key node (nodes_from (slab_len nodes) nodes first)
    → get nodes key ≡ Some n → n.standing ≡ Unsplit node
linked_leaf nodes first key node n l e =
    let w = leaf_unsplit (slab_len nodes) nodes first key node l in
    ap (λ (m : Node). m.standing) (some_one (get nodes key) n w.0 e w.1) ∙ w.2

pub linked_from : (nodes : Slab Node) (first : ℕ) (root : State) (floor : ℤ) (key : ℕ) → AreNodeLinks nodes first root floor
    → ComesFrom root (state_from key (nodes_from (slab_len nodes) nodes first) (root ∷ []) root)
linked_from nodes first root floor key a =
    let r = root_from root a.state in
    state_is_from floor key (nodes_from (slab_len nodes) nodes first) (root ∷ []) root root r (r, tt) a.trees

pub linked_bounded : (nodes : Slab Node) (first : ℕ) (root : State) (floor : ℤ) (key : ℕ) (node : NodeBound) → AreNodeLinks nodes first root floor
    → LeafAt key node (nodes_from (slab_len nodes) nodes first)
    → IsBounded (state_from key (nodes_from (slab_len nodes) nodes first) (root ∷ []) root) node
linked_bounded nodes first root floor key node a b = bounded_at floor key node (nodes_from (slab_len nodes) nodes first) (root ∷ []) root a.differ a.trees b
