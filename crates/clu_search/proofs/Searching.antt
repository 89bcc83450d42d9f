-- The steps of a search: a node is finished, and an open leaf is split on its pair.
use Rattle.std.proofs.Common.{◌≡◌, ◌≢◌, ◌⊎◌, inl, inr, ⊎_elim, ℕ, ◌<◌, ◌≤◌, ◌^◌, ℤ, ◌≤ℤ◌, List, [], ◌∷◌, ◌++◌, None, Some, refl, sym, ap, ◌∙◌, subst, arith, length, map}
use Rattle.std.specs.List.{AllByRecursion}
use Rattle.std.proofs.lemmas.Int.{ints}
use Rattle.clu_partition.specs.Closed.{Closed as Rules, IsClosed}
use Rattle.clu_partition.specs.Pairs.{Pairs}
use Rattle.clu_rows.specs.Packing.{Room}
use Rattle.clu_partition.specs.Partition.{below}
use Rattle.clu_objective.specs.Problem.{Posed, IsPosed}
use Rattle.clu_state.specs.State.{State, CanDecideAll, IsFree, IsState}
use Rattle.clu_state.specs.declared.decision.Decision.{Decision}
use Rattle.clu_node.specs.declared.bound.NodeBound.{NodeBound}
use Rattle.clu_node.specs.declared.bound.How.TheVariants.{Closed}
use Rattle.clu_cert.specs.Fits.{ItemFits}
use Rattle.clu_cert.specs.Upper.{HasUpper}
use Rattle.clu_cert.specs.Valid.{whole_state}
use Rattle.clu_cert.specs.declared.certificate.Item.{Item}
use Rattle.clu_cert.specs.declared.certificate.Item.TheVariants.{Reduce, Leaf}
use Rattle.clu_reduce.specs.declared.step.Step.{Step}
use Rattle.clu_cert.proofs.States.{IsTask, whole_is_state}
use Rattle.clu_tree.specs.Items.{branch_items}
use Rattle.clu_tree.specs.Nodes.{Tree, Shown, HasKey, LeafAt, IsOpenLeaf, items_of, new_leaf, state_at}
use Rattle.clu_tree.specs.declared.node.Fresh.{Fresh}
use Rattle.clu_tree.proofs.KeyLaws.{unsplit_once}
use Rattle.clu_search.specs.Incumbent.{IsIncumbent}
use Rattle.clu_search.specs.Search.{AreChildren, AreRightlyClosed, AreStates, IsAbove, IsCertOfBest, IsSearch, IsRightlyClosed, made}
use Rattle.clu_search.specs.Whole.{certificate_of}
use Rattle.clu_search.specs.declared.incumbent.Incumbent.{Incumbent}
use Rattle.clu_search.specs.declared.search.Search.{Search}
use Rattle.clu_search.specs.declared.states.Children.{Children}
use Rattle.clu_search.specs.declared.states.States.{States}
use Rattle.clu_search.proofs.Certified.{IsFound, found_valid, found_exact, found_fits, found_branchings, found_optimal}

pub task_of : (problem : Posed) (start : Rules) → IsPosed problem → IsState (whole_state problem start) → IsTask problem start
task_of problem start posed i = record { posed = posed; closed = i.closed; size = sym i.one_size; few = i.small }

-- ---- one node
-- a better partition settles no less
pub settled_more : (best more : ℤ) (node : NodeBound) → best ≤ℤ more → IsRightlyClosed best node → IsRightlyClosed more node
settled_more best more node low s = record {
  closed = λ e. let h = s.closed e in omega (arith, ints, h, low);
  paired = s.paired;
}

-- ---- a leaf among the nodes
pub leaf_key : (key : ℕ) (node : NodeBound) (ns : List Shown) → LeafAt key node ns → HasKey key ns
leaf_key key node [] h = absurd h
leaf_key key node (n ∷ ns) h = ⊎_elim (λ e. inl e.0) (λ r. inr (leaf_key key node ns r)) h

-- a leaf with a bound above the best value isn't closed
pub unclosed : (s : Search) (key : ℕ) → IsSearch s → (a : IsAbove s key) → a.node.how ≢ Closed
unclosed s key i a e =
    let h = (i.settled key a.node a.leaf).closed e in
    let above = a.above in
    omega (arith, ints, h, above)

pub open_leaf : (s : Search) (key : ℕ) → IsSearch s → IsAbove s key → IsOpenLeaf s.tree key
open_leaf s key i a = record {
  node = a.node;
  leaf = a.leaf;
  unclosed = unclosed s key i a;
  above = let floor = i.floor in let above = a.above in omega (arith, ints, floor, above);
}

-- and has a free pair
pub no_pair : (s : Search) (key : ℕ) (node : NodeBound) → IsSearch s → IsAbove s key →
    ((other : NodeBound) → LeafAt key other s.tree.nodes → other ≡ node) → node.pair ≡ None → ⊥
no_pair s key node i a only e =
    unclosed s key i a ((i.settled key a.node a.leaf).paired (ap (λ (n : NodeBound). n.pair) (only a.node a.leaf) ∙ e))

-- ---- a split
-- the nodes of the old tree and two new ones are settled
pub settled_split : (best : ℤ) (old new : List Shown) (first second : ℕ) (together apart : NodeBound) →
    ((key : ℕ) (node : NodeBound) → LeafAt key node new →
    LeafAt key node old ⊎ (((key ≡ first) × (node ≡ together)) ⊎ ((key ≡ second) × (node ≡ apart)))) →
    AreRightlyClosed best old → IsRightlyClosed best together → IsRightlyClosed best apart → AreRightlyClosed best new
settled_split best old new first second together apart bounds all one two key node at = ⊎_elim
    (λ b. all key node b)
    (λ r. ⊎_elim
    (λ e. subst (IsRightlyClosed best) (sym e.1) one)
    (λ e. subst (IsRightlyClosed best) (sym e.1) two)
    r)
    (bounds key node at)

-- the same tree but for its nodes
pub with_nodes : (s : Search) (t : Tree) (ns : List Shown) → IsSearch s → t ≡ record s.tree { nodes = ns } → AreRightlyClosed s.incumbent.value t.nodes →
    IsSearch (record s { tree = t })
with_nodes s t ns i e settled = record {
  posed = i.posed;
  state = i.state;
  states = i.states;
  root = ap (λ (r : Tree). r.root) e ∙ i.root;
  floor = subst (λ z. z ≤ℤ s.incumbent.value) (sym (ap (λ (r : Tree). r.floor) e)) i.floor;
  room = i.room;
  known = i.known;
  settled = settled;
}

-- the same search with other states
pub with_states : (s : Search) (states : States) → IsSearch s → AreStates s.states.root states → IsSearch (record s { states = states })
with_states s states i are = record {
  posed = i.posed;
  state = i.state;
  states = subst (λ r. AreStates r states) i.states.root are;
  root = i.root;
  floor = i.floor;
  room = i.room;
  known = i.known;
  settled = i.settled;
}

-- the same search with the children's states of the node that it split
pub with_children : (s : Search) (children : Children) → IsSearch s → AreChildren (whole_state s.problem.now s.start.now) children →
    IsSearch (record s { states = record s.states { children = Some children } })
with_children s children i are = record {
  posed = i.posed;
  state = i.state;
  states = record { undecided = i.states.undecided; root = i.states.root; children = are };
  root = i.root;
  floor = i.floor;
  room = i.room;
  known = i.known;
  settled = i.settled;
}

-- a leaf's path can be taken from the state without decisions, and its free pairs are free there
pub along : (s : Search) (key : ℕ) (path : List Decision) → IsSearch s → IsState (state_at s.tree key) → state_at s.tree key ≡ record s.tree.root { decisions = path } → CanDecideAll s.states.root path
along s key path i state e = subst (λ r. CanDecideAll r path) (sym i.states.root)
    (subst (λ (r : State). CanDecideAll (record r { decisions = [] }) path) i.root (subst IsState e state).made)

pub free_along : (s : Search) (key : ℕ) (path : List Decision) (u v : ℕ) → IsSearch s → IsFree (state_at s.tree key) u v → state_at s.tree key ≡ record s.tree.root { decisions = path } →
    IsFree (record s.states.root { decisions = path }) u v
free_along s key path u v i free e = subst (λ (r : State). IsFree (record r { decisions = path }) u v) (i.root ∙ sym i.states.root) (subst (λ t. IsFree t u v) e free)

-- the same search with a better partition
pub with_best : (s : Search) (best : Incumbent) (scratch : Room) → IsSearch s → s.incumbent.value ≤ℤ best.value → s.problem.now.pairs.n ≤ scratch.n →
    IsIncumbent s.problem.now.pairs s.start.now best → IsSearch (record s { incumbent = best; scratch = scratch })
with_best s best scratch i more room known = record {
  posed = i.posed;
  state = i.state;
  states = i.states;
  root = i.root;
  floor = let floor = i.floor in omega (arith, ints, floor, more);
  room = room;
  known = known;
  settled = λ key node at. settled_more s.incumbent.value best.value node more (i.settled key node at);
}

-- ---- the certificate
pub found_of : (s : Search) (items : List Item) (z upper : ℤ) → IsSearch s → items ≡ items_of s.tree.nodes → z ≡ upper →
    HasUpper s.tree.root (items_of s.tree.nodes) upper → IsFound s.problem.now s.start.now s.incumbent items z
found_of s items z upper i are is h = record {
  task = task_of s.problem.now s.start.now i.posed i.state;
  known = i.known;
  proved = subst (λ v. HasUpper (whole_state s.problem.now s.start.now) items v) (sym is)
      (subst (λ is. HasUpper (whole_state s.problem.now s.start.now) is upper) (sym are)
      (subst (λ t. HasUpper t (items_of s.tree.nodes) upper) i.root h));
}

-- the greatest bound of a leaf
abbrev pub IsReached : Search → ℤ → Type 0
IsReached s upper = (key : ℕ) × (node : NodeBound) × LeafAt key node s.tree.nodes × (node.bound ≡ upper)

pub certified : (s : Search) (items : List Item) (z : ℤ) → IsFound s.problem.now s.start.now s.incumbent items z →
    items ≡ items_of s.tree.nodes → IsReached s z → length items < 2 ^ 64 → AllByRecursion ItemFits items →
    IsCertOfBest s (certificate_of s.problem.now s.incumbent items z)
certified s items z f are reached count each = record {
  valid = found_valid s.problem.now s.start.now s.incumbent items z f;
  exact = found_exact s.problem.now s.start.now s.incumbent items z f;
  fits = found_fits s.problem.now s.start.now s.incumbent items z f count each;
  labels = refl;
  branchings = found_branchings s.problem.now s.start.now s.incumbent items z f ∙ ap branch_items are;
  optimal = λ done. found_optimal s.problem.now s.start.now s.incumbent items z f
      (let h = done reached.0 reached.1 reached.2 in let e = reached.3 in omega (arith, ints, h, e));
}

-- ---- the ends of the steps
-- the groups of a state of the search were tried
pub with_fresh : (s : Search) (t : State) (ds : List Decision) (best : Incumbent) (scratch : Room) → IsSearch s → t ≡ record (whole_state s.problem.now s.start.now) { decisions = ds } →
    IsIncumbent t.pairs t.start best → s.incumbent.value ≤ℤ best.value → scratch.n ≡ s.scratch.n → IsSearch (record s { incumbent = best; scratch = scratch })
with_fresh s t ds best scratch i e known more room =
    with_best s best scratch i more (let had = i.room in omega (arith, had, room)) (subst (λ (u : State). IsIncumbent u.pairs u.start best) e known)

-- the rules are for the problem
pub state_for : (problem seen : Posed) (start : Rules) (n : ℕ) → seen ≡ problem → IsPosed seen → IsClosed start → n ≡ seen.pairs.n → n ≤ 1000 →
    length start.group ≡ problem.pairs.n → IsState (whole_state problem start)
state_for problem seen start n e posed closed size few for = whole_is_state problem start (record {
  posed = subst IsPosed e posed;
  closed = closed;
  size = for;
  few = let same = ap (λ (p : Posed). p.pairs.n) e in omega (arith, same, size, few);
})

-- ---- the root
-- the tree of all vertices, of which the root alone stands
abbrev pub IsRoot : Posed → Rules → ℤ → Fresh → Tree → Type 0
IsRoot problem start floor fresh t =
    (key : ℕ) × (t ≡ record { root = whole_state problem start; floor = floor; nodes = new_leaf key fresh ∷ [] })

pub root_of : (problem : Posed) (start : Rules) (pairs : Pairs) (members : List ℕ) (floor : ℤ) (fresh : Fresh) (t : Tree) → pairs ≡ problem.pairs →
    members ≡ below problem.pairs.n → (key : ℕ) × (t ≡ record {
      root = record { pairs = pairs; start = start; members = members; decisions = [] };
      floor = floor;
      nodes = new_leaf key fresh ∷ [];
    }) → IsRoot problem start floor fresh t
root_of problem start pairs members floor fresh t e f is = (
  is.0,
  is.1 ∙ (λ i. record {
    root = record { pairs = e i; start = start; members = f i; decisions = [] };
    floor = floor;
    nodes = new_leaf is.0 fresh ∷ [];
  }),
)

pub first_search : (s : Search) (fresh : Fresh) (floor : ℤ) → IsPosed s.problem.now → IsState (whole_state s.problem.now s.start.now) →
    AreStates (whole_state s.problem.now s.start.now) s.states → IsRoot s.problem.now s.start.now floor fresh s.tree → floor ≡ s.incumbent.value →
    s.problem.now.pairs.n ≤ s.scratch.n → IsIncumbent s.problem.now.pairs s.start.now s.incumbent → IsRightlyClosed s.incumbent.value fresh.bound →
    IsSearch s
first_search s fresh floor posed state states root is room known settled = record {
  posed = posed;
  state = state;
  states = states;
  root = ap (λ (t : Tree). t.root) root.1;
  floor = let e = ap (λ (t : Tree). t.floor) root.1 in omega (arith, ints, e, is);
  room = room;
  known = known;
  settled = subst (AreRightlyClosed s.incumbent.value) (sym (ap (λ (t : Tree). t.nodes) root.1)) one;
}
  where
    one : AreRightlyClosed s.incumbent.value (new_leaf root.0 fresh ∷ [])
    one key node at = ⊎_elim (λ e. subst (IsRightlyClosed s.incumbent.value) (unsplit_once fresh.bound node e.1) settled) absurd at

pub none_made : (s : Search) (fresh : Fresh) (floor : ℤ) →
    IsRoot s.problem.now s.start.now floor fresh s.tree → made s ≡ 0
none_made s fresh floor root =
    ap (λ (t : Tree). branch_items (items_of t.nodes)) root.1 ∙ no_branch fresh.steps
  where
    no_branch : (steps : List Step) → branch_items (map Reduce steps ++ Leaf fresh.bound.leaf ∷ []) ≡ 0
    no_branch [] = refl
    no_branch (step ∷ steps) = no_branch steps
