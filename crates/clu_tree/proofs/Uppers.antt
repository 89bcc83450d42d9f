-- The items of a tree: they are read whole from its root's state, their upper is the greatest bound of a leaf, and half of the
-- nodes are branches.
use Rattle.std.proofs.Common.{◌≡◌, ℕ, ◌+◌, ◌/◌, ℤ, ◌≤ℤ◌, inl, inr, List, [], ◌∷◌, ◌++◌, length, map, All, Contains, refl, sym, ap, ◌∙◌, subst, arith}
use Rattle.std.proofs.lemmas.List.Elements.{All-nil, All-cons, Contains-append_right}
use Rattle.clu_state.specs.State.{State, decided}
use Rattle.clu_state.specs.declared.decision.Decision.TheVariants.{Together, Apart}
use Rattle.clu_reduce.specs.Reduction.{decision_of}
use Rattle.clu_reduce.specs.declared.step.Step.{Step}
use Rattle.clu_node.specs.declared.bound.NodeBound.{NodeBound}
use Rattle.clu_cert.specs.Upper.{ReadsItems, none, branch, reduce, leaf, HasUpper}
use Rattle.clu_cert.specs.Valid.{StepsHold, stepped}
use Rattle.clu_cert.specs.declared.certificate.Item.{Item}
use Rattle.clu_cert.specs.declared.certificate.Item.TheVariants.{Reduce, Leaf}
use Rattle.clu_tree.specs.Items.{branch_items}
use Rattle.clu_tree.specs.declared.node.Standing.{Standing}
use Rattle.clu_tree.specs.declared.node.Standing.TheVariants.{Unsplit, Split}
use Rattle.clu_tree.specs.Nodes.{Shown, pending, Stands, AreTrees, LeafAt, node_item, items_of}

-- ---- the bounds of the leaves
abbrev with_bound : Standing → List ℤ → List ℤ
with_bound (Unsplit node) bounds = node.bound ∷ bounds
with_bound (Split b) bounds = bounds

-- in preorder
abbrev leaf_bounds : List Shown → List ℤ
leaf_bounds [] = []
leaf_bounds (n ∷ ns) = with_bound n.standing (leaf_bounds ns)

-- ---- the reading
steps_read : (steps : List Step) (s : State) (later left : List State) (items : List Item) (bounds : List ℤ) → StepsHold s steps
    → ReadsItems (stepped s steps ∷ later) items bounds left → ReadsItems (s ∷ later) (map Reduce steps ++ items) bounds left
steps_read [] s later left items bounds h r = r
steps_read (step ∷ steps) s later left items bounds h r =
    reduce h.0 (steps_read steps (decided s (decision_of step)) later left items bounds h.1 r)

item_reads : (floor : ℤ) (s : State) (later : List State) (standing : Standing) (items : List Item) (bounds : List ℤ)
    → Stands floor s standing → ReadsItems (pending standing s later) items bounds []
    → ReadsItems (s ∷ later) (node_item standing ∷ items) (with_bound standing bounds) []
item_reads floor s later (Unsplit node) items bounds b r =
    subst (λ bound. ReadsItems (s ∷ later) (Leaf node.leaf ∷ items) (bound ∷ bounds) []) (sym b.bound) (leaf (record { den = b.den; rows = b.rows }) r)
item_reads floor s later (Split _) items bounds b r = branch b.0 r

trees_read : (floor : ℤ) (ns : List Shown) (states : List State) → AreTrees floor ns states → ReadsItems states (items_of ns) (leaf_bounds ns) []
trees_read floor [] [] t = none
trees_read floor [] (s ∷ later) t = absurd t
trees_read floor (n ∷ ns) [] t = absurd t
trees_read floor (n ∷ ns) (s ∷ later) t =
    let here = stepped s n.steps in
    steps_read n.steps s later [] (node_item n.standing ∷ items_of ns) (leaf_bounds (n ∷ ns)) t.0
    (item_reads floor here later n.standing (items_of ns) (leaf_bounds ns) t.1
    (trees_read floor ns (pending n.standing here later) t.2))

-- ---- the upper
first_bound : (standing : Standing) (node : NodeBound) (bounds : List ℤ) → standing ≡ Unsplit node → Contains (with_bound standing bounds) node.bound
first_bound standing node bounds e = subst (λ c. Contains (with_bound c bounds) node.bound) (sym e) (0, omega arith, refl)

later_bound : (standing : Standing) (other : ℤ) (bounds : List ℤ) → Contains bounds other → Contains (with_bound standing bounds) other
later_bound (Unsplit node) other bounds c = Contains-append_right (node.bound ∷ []) bounds other c
later_bound (Split b) other bounds c = c

leaf_reached : (key : ℕ) (node : NodeBound) (ns : List Shown) → LeafAt key node ns → Contains (leaf_bounds ns) node.bound
leaf_reached key node [] l = absurd l
leaf_reached key node (n ∷ ns) (inl l) = first_bound n.standing node (leaf_bounds ns) l.1
leaf_reached key node (n ∷ ns) (inr l) = later_bound n.standing node.bound (leaf_bounds ns) (leaf_reached key node ns l)

one_more : (upper : ℤ) (standing : Standing) (bounds : List ℤ) → ((node : NodeBound) → standing ≡ Unsplit node → node.bound ≤ℤ upper)
    → All (λ b. b ≤ℤ upper) bounds → All (λ b. b ≤ℤ upper) (with_bound standing bounds)
one_more upper (Unsplit node) bounds f a = All-cons (λ b. b ≤ℤ upper) node.bound bounds (f node refl) a
one_more upper (Split b) bounds f a = a

all_most : (upper : ℤ) (ns : List Shown) → ((key : ℕ) (node : NodeBound) → LeafAt key node ns → node.bound ≤ℤ upper)
    → All (λ b. b ≤ℤ upper) (leaf_bounds ns)
all_most upper [] f = All-nil (λ b. b ≤ℤ upper)
all_most upper (n ∷ ns) f = one_more upper n.standing (leaf_bounds ns) (λ node e. f n.key node (inl (refl, e)))
    (all_most upper ns (λ key node l. f key node (inr l)))

-- the bound of a leaf that no leaf's bound passes is the upper
pub greatest_upper : (floor : ℤ) (ns : List Shown) (root : State) (key : ℕ) (node : NodeBound) (upper : ℤ) → AreTrees floor ns (root ∷ [])
    → LeafAt key node ns → node.bound ≡ upper → ((other : ℕ) (m : NodeBound) → LeafAt other m ns → m.bound ≤ℤ upper) → HasUpper root (items_of ns) upper
greatest_upper floor ns root key node upper t l e f = record {
  bounds = leaf_bounds ns;
  tree = trees_read floor ns (root ∷ []) t;
  reached = subst (Contains (leaf_bounds ns)) e (leaf_reached key node ns l);
  greatest = all_most upper ns f;
}

-- trees have a leaf
pub some_leaf : (floor : ℤ) (ns : List Shown) (s : State) (later : List State) → AreTrees floor ns (s ∷ later)
    → (key : ℕ) × (node : NodeBound) × LeafAt key node ns
some_leaf floor [] s later t = absurd t
some_leaf floor (n ∷ ns) s later t = by n.standing refl t.2 (λ r rs u. some_leaf floor ns r rs u)
  where
    by : (standing : Standing) → n.standing ≡ standing → AreTrees floor ns (pending standing (stepped s n.steps) later)
        → ((r : State) (rs : List State) → AreTrees floor ns (r ∷ rs) → (key : ℕ) × (node : NodeBound) × LeafAt key node ns)
        → (key : ℕ) × (node : NodeBound) × LeafAt key node (n ∷ ns)
    by (Unsplit node) e u f = (n.key, node, inl (refl, e))
    by (Split b) e u f =
        let pair = b.pair in
        let w = f (decided (stepped s n.steps) (Together pair.0 pair.1)) (decided (stepped s n.steps) (Apart pair.0 pair.1) ∷ later) u in
        (w.0, w.1, inr w.2)

-- ---- how many branches
abbrev splits_of : Standing → ℕ
splits_of (Unsplit node) = 0
splits_of (Split b) = 1

abbrev splits : List Shown → ℕ
splits [] = 0
splits (n ∷ ns) = splits_of n.standing + splits ns

step_branches : (steps : List Step) (items : List Item) → branch_items (map Reduce steps ++ items) ≡ branch_items items
step_branches [] items = refl
step_branches (step ∷ steps) items = step_branches steps items

item_branches : (standing : Standing) (items : List Item) → branch_items (node_item standing ∷ items) ≡ splits_of standing + branch_items items
item_branches (Unsplit node) items = omega arith
item_branches (Split b) items = omega arith

branches_splits : (ns : List Shown) → branch_items (items_of ns) ≡ splits ns
branches_splits [] = refl
branches_splits (n ∷ ns) = step_branches n.steps (node_item n.standing ∷ items_of ns) ∙ item_branches n.standing (items_of ns)
    ∙ ap (λ k. splits_of n.standing + k) (branches_splits ns)

pending_length : (standing : Standing) (s : State) (later : List State)
    → length (pending standing s later) ≡ splits_of standing + splits_of standing + length later
pending_length (Unsplit node) s later = omega arith
pending_length (Split b) s later = omega arith

trees_length : (floor : ℤ) (ns : List Shown) (states : List State) → AreTrees floor ns states → length ns ≡ splits ns + splits ns + length states
trees_length floor [] [] t = omega arith
trees_length floor [] (s ∷ later) t = absurd t
trees_length floor (n ∷ ns) [] t = absurd t
trees_length floor (n ∷ ns) (s ∷ later) t =
    let h = trees_length floor ns (pending n.standing (stepped s n.steps) later) t.2 in
    let k = pending_length n.standing (stepped s n.steps) later in
    omega (arith, h, k)

-- twice the branches and one more node
pub branches_length : (floor : ℤ) (ns : List Shown) (root : State) → AreTrees floor ns (root ∷ [])
    → length ns ≡ branch_items (items_of ns) + branch_items (items_of ns) + 1
branches_length floor ns root t =
    let h = trees_length floor ns (root ∷ []) t in
    let k = branches_splits ns in
    omega (arith, h, k)

-- half of the nodes
pub half_branches : (floor : ℤ) (ns : List Shown) (root : State) → AreTrees floor ns (root ∷ []) → length ns / 2 ≡ branch_items (items_of ns)
half_branches floor ns root t = let h = branches_length floor ns root t in omega (arith, h)
