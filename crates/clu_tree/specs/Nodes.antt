-- A branch tree as the list of its nodes in preorder.
use Rattle.std.specs.Prelude.{◌≡◌, ◌≢◌, ◌⊎◌, ℕ, ℤ, ◌<ℤ◌, List, [], ◌∷◌, ◌++◌, map, Bool, true, false, ◌==◌, if◌then◌else◌}
use Rattle.clu_state.specs.State.{State, IsFree, decided}
use Rattle.clu_state.specs.declared.decision.Decision.TheVariants.{Together, Apart}
use Rattle.clu_reduce.specs.declared.step.Step.{Step}
use Rattle.clu_node.specs.Node.{IsBounded}
use Rattle.clu_node.specs.declared.bound.NodeBound.{NodeBound}
use Rattle.clu_node.specs.declared.bound.How.{How}
use Rattle.clu_node.specs.declared.bound.How.TheVariants.{Closed}
use Rattle.clu_cert.specs.Valid.{StepsHold, stepped}
use Rattle.clu_cert.specs.declared.certificate.Item.{Item}
use Rattle.clu_cert.specs.declared.certificate.Item.TheVariants.{Branch, Reduce, Leaf}
use Rattle.clu_tree.specs.declared.node.Fresh.{Fresh}
use Rattle.clu_tree.specs.declared.node.Standing.{Standing}
use Rattle.clu_tree.specs.declared.node.Standing.TheVariants.{Unsplit, Split}

-- a node: its key, its reductions, and what stands there after them
pub record Shown : Type 0 where
  pub key : ℕ
  pub steps : List Step
  pub standing : Standing

-- the state before the root's reductions, the number that the bound of each split node is above, and the nodes in preorder
pub record Tree : Type 0 where
  pub root : State
  pub floor : ℤ
  pub nodes : List Shown

-- ---- what stands at a node
abbrev pub is_split : Standing → Bool
is_split (Unsplit node) = false
is_split (Split branch) = true

-- there is a leaf
pub record HasLeaf (standing : Standing) : Type 0 where
  pub node : NodeBound
  pub is : standing ≡ Unsplit node

-- the bound that the node has, or had as a leaf
abbrev pub standing_bound : Standing → ℤ
standing_bound (Unsplit node) = node.bound
standing_bound (Split branch) = branch.bound

-- how that bound stood to the best value
abbrev pub standing_how : Standing → How
standing_how (Unsplit node) = node.how
standing_how (Split branch) = branch.how

-- the node once it is split on a pair: its leaf is gone
abbrev pub split_on : ℕ × ℕ → Standing → Standing
split_on pair standing = Split (record { pair = pair; bound = standing_bound standing; how = standing_how standing })

-- ---- states
-- the states of the subtrees that are still to come: a split puts two in front
abbrev pub pending : Standing → State → List State → List State
pending (Unsplit node) s later = later
pending (Split branch) s later = decided s (Together branch.pair.0 branch.pair.1) ∷ decided s (Apart branch.pair.0 branch.pair.1) ∷ later

-- the state of the node with this key after its reductions, where the subtrees begin in these states; `other` where there is none
abbrev pub state_from : ℕ → List Shown → List State → State → State
state_from key [] states other = other
state_from key (n ∷ ns) [] other = other
state_from key (n ∷ ns) (s ∷ later) other =
    if n.key == key then stepped s n.steps else state_from key ns (pending n.standing (stepped s n.steps) later) other

abbrev pub state_at : Tree → ℕ → State
state_at t key = state_from key t.nodes (t.root ∷ []) t.root

-- ---- nodes
-- a node has this key
abbrev pub HasKey : ℕ → List Shown → Type 0
HasKey key [] = ⊥
HasKey key (n ∷ ns) = (n.key ≡ key) ⊎ HasKey key ns

-- what bounds the leaf with this key
abbrev pub LeafAt : ℕ → NodeBound → List Shown → Type 0
LeafAt key node [] = ⊥
LeafAt key node (n ∷ ns) = ((n.key ≡ key) × (n.standing ≡ Unsplit node)) ⊎ LeafAt key node ns

-- the node with this key is a leaf
pub record IsLeaf (key : ℕ) (ns : List Shown) : Type 0 where
  pub node : NodeBound
  pub leaf : LeafAt key node ns

-- a leaf that may be split: it isn't closed, and its bound is above the floor
pub record IsOpenLeaf (t : Tree) (key : ℕ) : Type 0 where
  pub node : NodeBound
  pub leaf : LeafAt key node t.nodes
  pub unclosed : node.how ≢ Closed
  pub above : t.floor <ℤ node.bound

-- ---- what holds of a tree
-- a leaf has its bound, and a node is split on a free pair, and only where it wasn't closed and its bound is above the floor
abbrev pub Stands : ℤ → State → Standing → Type 0
Stands floor s (Unsplit node) = IsBounded s node
Stands floor s (Split branch) = IsFree s branch.pair.0 branch.pair.1 × (branch.how ≢ Closed) × (floor <ℤ branch.bound)

-- The nodes are the trees that begin in these states, one after the other. The reductions of each node hold in turn, and what
-- stands there holds after them.
abbrev pub AreTrees : ℤ → List Shown → List State → Type 0
AreTrees floor [] [] = Unit {0}
AreTrees floor [] (s ∷ later) = ⊥
AreTrees floor (n ∷ ns) [] = ⊥
AreTrees floor (n ∷ ns) (s ∷ later) =
    StepsHold s n.steps × Stands floor (stepped s n.steps) n.standing
    × AreTrees floor ns (pending n.standing (stepped s n.steps) later)

-- ---- what is read off
abbrev pub node_item : Standing → Item
node_item (Unsplit node) = Leaf node.leaf
node_item (Split branch) = Branch branch.pair.0 branch.pair.1

-- the items of a proof: at each node its reductions, then its leaf or its branch
abbrev pub items_of : List Shown → List Item
items_of [] = []
items_of (n ∷ ns) = map Reduce n.steps ++ node_item n.standing ∷ items_of ns

-- ---- a split
-- what stands at a new node of this state: reductions that hold in turn, and then what bounds it
pub record MayStand (s : State) (fresh : Fresh) : Type 0 where
  pub steps : StepsHold s fresh.steps
  pub bounded : IsBounded (stepped s fresh.steps) fresh.bound

-- a new leaf
abbrev pub new_leaf : ℕ → Fresh → Shown
new_leaf key fresh = record { key = key; steps = fresh.steps; standing = Unsplit fresh.bound }

-- the leaf with this key is split on a pair, and its two new subtrees come next
abbrev pub split_nodes : ℕ → ℕ × ℕ → Shown → Shown → List Shown → List Shown
split_nodes key pair together apart [] = []
split_nodes key pair together apart (n ∷ ns) =
    if n.key == key then record n { standing = split_on pair n.standing } ∷ together ∷ apart ∷ ns else n ∷ split_nodes key pair together apart ns
