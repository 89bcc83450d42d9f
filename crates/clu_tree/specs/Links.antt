-- The nodes in the arena, linked in preorder, the way from a node up to the root, and the queue of the leaves.
use Rattle.std.specs.Prelude.{◌≡◌, ◌≢◌, ◌⊎◌, ℕ, ◌+◌, ℤ, List, [], ◌∷◌, length, Contains, Option, Some, None, zero, suc}
use Rattle.std.specs.declared.cmp.Reverse.{Reverse}
use Rattle.slab.specs.Slab.{Slab, get, slab_len}
use Rattle.clu_state.specs.State.{State, IsState, decided}
use Rattle.clu_state.specs.declared.decision.Decision.{Decision}
use Rattle.clu_state.specs.declared.decision.Decision.TheVariants.{Together, Apart}
use Rattle.clu_reduce.specs.declared.step.Step.{Step}
use Rattle.clu_node.specs.declared.bound.NodeBound.{NodeBound}
use Rattle.clu_cert.specs.Valid.{stepped}
use Rattle.clu_tree.specs.Nodes.{Shown, HasKey, HasLeaf, LeafAt, AreTrees, standing_bound, split_on, state_from}
use Rattle.clu_tree.specs.Queue.{queue_entry, IsBest}
use Rattle.clu_tree.specs.declared.node.Fresh.{Fresh}
use Rattle.clu_tree.specs.declared.node.Node.{Node}
use Rattle.clu_tree.specs.declared.node.Origin.{Origin}
use Rattle.clu_tree.specs.declared.node.Standing.TheVariants.{Unsplit}

abbrev pub shown : ℕ → Node → Shown
shown key n = record { key = key; steps = n.steps; standing = n.standing }

abbrev pub then_next : ℕ → Option Node → (ℕ → List Shown) → List Shown
then_next key None go = []
then_next key (Some n) go = shown key n ∷ go n.next

-- so many nodes from this key on, by their links
abbrev pub nodes_from : ℕ → Slab Node → ℕ → List Shown
nodes_from zero nodes key = []
nodes_from (suc more) nodes key = then_next key (get nodes key) (λ next. nodes_from more nodes next)

-- no node has this key
abbrev pub NotAmong : ℕ → List Shown → Type 0
NotAmong key [] = Unit {0}
NotAmong key (n ∷ ns) = (n.key ≢ key) × NotAmong key ns

-- no key comes twice
abbrev pub KeysDiffer : List Shown → Type 0
KeysDiffer [] = Unit {0}
KeysDiffer (n ∷ ns) = NotAmong n.key ns × KeysDiffer ns

-- the links go through all nodes, and the tree that they show stands
pub record AreNodeLinks (nodes : Slab Node) (first : ℕ) (root : State) (floor : ℤ) : Type 0 where
  pub state : IsState root
  pub all : length (nodes_from (slab_len nodes) nodes first) ≡ slab_len nodes
  pub differ : KeysDiffer (nodes_from (slab_len nodes) nodes first)
  pub trees : AreTrees floor (nodes_from (slab_len nodes) nodes first) (root ∷ [])

-- the state of the node with this key, from that of the node that it comes from
abbrev pub Comes : List Shown → State → ℕ → List Step → Option Origin → Type 0
Comes ns root key steps None = state_from key ns (root ∷ []) root ≡ stepped root steps
Comes ns root key steps (Some origin) = HasKey origin.parent ns
    × (state_from key ns (root ∷ []) root ≡ stepped (decided (state_from origin.parent ns (root ∷ []) root) origin.decision) steps)

-- each node comes from where it says
abbrev pub AreClimbed : Slab Node → List Shown → State → Type 0
AreClimbed nodes ns root = (key : ℕ) (n : Node) → HasKey key ns → get nodes key ≡ Some n → Comes ns root key n.steps n.origin

-- ---- the queue
-- the node at this key is a leaf
abbrev pub IsUnsplit : Slab Node → ℕ → Type 0
IsUnsplit nodes key = (n : Node) × (get nodes key ≡ Some n) × HasLeaf n.standing

-- the queue has each leaf and nothing but nodes, and its best entry is a leaf's
pub record AreQueued (nodes : Slab Node) (ns : List Shown) (entries : List (ℤ × Reverse ℕ)) : Type 0 where
  pub leaves : (key : ℕ) (node : NodeBound) → LeafAt key node ns → Contains entries (queue_entry node.bound key)
  pub known : (bound : ℤ) (key : ℕ) → Contains entries (queue_entry bound key)
      → HasKey key ns × ((n : Node) × (get nodes key ≡ Some n) × (standing_bound n.standing ≡ bound))
  pub best : (bound : ℤ) (key : ℕ) → IsBest entries bound key → (node : NodeBound) × LeafAt key node ns × (node.bound ≡ bound)

-- what the fields of a tree keep
pub record IsWholeTree (nodes : Slab Node) (first : ℕ) (root : State) (floor : ℤ) (entries : List (ℤ × Reverse ℕ)) : Type 0 where
  pub linked : AreNodeLinks nodes first root floor
  pub climbed : AreClimbed nodes (nodes_from (slab_len nodes) nodes first) root
  pub queued : AreQueued nodes (nodes_from (slab_len nodes) nodes first) entries

-- ---- a split
-- a new leaf
abbrev pub leaf_node : Fresh → ℕ → Option Origin → Node
leaf_node fresh next origin = record { steps = fresh.steps; standing = Unsplit fresh.bound; next = next; origin = origin }

-- where a new node of a split comes from
abbrev pub side_of : ℕ → Decision → Option Origin
side_of key decision = Some (record { parent = key; decision = decision })

-- two new leaves stand between the node at the key, now split, and what came next
pub record Attached (old new : Slab Node) (key : ℕ) (pair : ℕ × ℕ) (together apart : Fresh) (keys : ℕ × ℕ) : Type 0 where
  pub len : slab_len new ≡ slab_len old + 2
  pub first_vacant : get old keys.0 ≡ None
  pub second_vacant : get old keys.1 ≡ None
  pub differ : keys.0 ≢ keys.1
  pub first : get new keys.0 ≡ Some (leaf_node together keys.1 (side_of key (Together pair.0 pair.1)))
  pub second : (n : Node) → get old key ≡ Some n → get new keys.1 ≡ Some (leaf_node apart n.next (side_of key (Apart pair.0 pair.1)))
  pub split : (n : Node) → get old key ≡ Some n → get new key ≡ Some (record n { standing = split_on pair n.standing; next = keys.0 })
  pub others : (other : ℕ) → other ≢ key → other ≢ keys.0 → other ≢ keys.1 → get new other ≡ get old other

-- the arena has the same nodes
pub record SameNodes (old new : Slab Node) : Type 0 where
  pub len : slab_len new ≡ slab_len old
  pub each : (key : ℕ) → get new key ≡ get old key

-- the queue has got two new entries, may have lost entries of split nodes, and its best entry is a leaf's
pub record Requeued (nodes : Slab Node) (old new : List (ℤ × Reverse ℕ)) (together apart : ℤ) (keys : ℕ × ℕ) : Type 0 where
  pub known : (bound : ℤ) (key : ℕ) → Contains new (queue_entry bound key)
      → (((bound ≡ together) × (key ≡ keys.0)) ⊎ ((bound ≡ apart) × (key ≡ keys.1))) ⊎ Contains old (queue_entry bound key)
  pub kept : (bound : ℤ) (key : ℕ) → Contains old (queue_entry bound key) → IsUnsplit nodes key → Contains new (queue_entry bound key)
  pub first : IsUnsplit nodes keys.0 → Contains new (queue_entry together keys.0)
  pub second : IsUnsplit nodes keys.1 → Contains new (queue_entry apart keys.1)
  pub best : (bound : ℤ) (key : ℕ) → IsBest new bound key → IsUnsplit nodes key
