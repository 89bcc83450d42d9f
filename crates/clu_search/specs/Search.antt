-- How far a search is: the branch tree of all vertices, and the best partition so far.
use Rattle.std.specs.Prelude.{◌≡◌, ◌⊎◌, ℕ, ◌≤◌, ℤ, ◌≤ℤ◌, ◌<ℤ◌, List, [], None, IfSome}
use Rattle.clu_objective.specs.Problem.{IsPosed}
use Rattle.clu_state.specs.State.{State, IsState}
use Rattle.clu_node.specs.declared.bound.NodeBound.{NodeBound}
use Rattle.clu_node.specs.declared.bound.How.TheVariants.{Closed}
use Rattle.clu_cert.specs.Fits.{Fits}
use Rattle.clu_cert.specs.Valid.{IsValid, whole_state}
use Rattle.clu_cert.specs.declared.certificate.Certificate.{Certificate}
use Rattle.clu_tree.specs.Items.{branch_items}
use Rattle.clu_tree.specs.Nodes.{LeafAt, Shown, items_of}
use Rattle.clu_search.specs.Incumbent.{IsIncumbent}
use Rattle.clu_search.specs.Outcome.{StatesItsBound, branchings_of}
use Rattle.clu_search.specs.declared.search.Search.{Search}
use Rattle.clu_search.specs.declared.states.Children.{Children}
use Rattle.clu_search.specs.declared.states.States.{States}

-- the leaf is closed only where its bound is no more than this value, and it is closed where it has no free pair
pub record IsRightlyClosed (best : ℤ) (node : NodeBound) : Type 0 where
  pub closed : node.how ≡ Closed → node.bound ≤ℤ best
  pub paired : node.pair ≡ None → node.how ≡ Closed

-- each leaf is closed rightly
abbrev pub AreRightlyClosed : ℤ → List Shown → Type 0
AreRightlyClosed best nodes = (key : ℕ) (node : NodeBound) → LeafAt key node nodes → IsRightlyClosed best node

-- two states of the same problem, with any decisions
pub record AreChildren (first : State) (children : Children) : Type 0 where
  pub together : children.together ≡ record first { decisions = children.together.decisions }
  pub apart : children.apart ≡ record first { decisions = children.apart.decisions }

-- a state without decisions, and the two children's, where they are there
pub record AreStates (first : State) (states : States) : Type 0 where
  pub undecided : first.decisions ≡ []
  pub root : states.root ≡ first
  pub children : IfSome states.children (AreChildren first)

-- the rules are for the problem, the tree is that of all its vertices, and its bounds were found beside partitions no better
-- than the best one
pub record IsSearch (s : Search) : Type 0 where
  pub posed : IsPosed s.problem.now
  pub state : IsState (whole_state s.problem.now s.start.now)
  pub states : AreStates (whole_state s.problem.now s.start.now) s.states
  pub root : s.tree.root ≡ whole_state s.problem.now s.start.now
  pub floor : s.tree.floor ≤ℤ s.incumbent.value
  pub room : s.problem.now.pairs.n ≤ s.scratch.n
  pub known : IsIncumbent s.problem.now.pairs s.start.now s.incumbent
  pub settled : AreRightlyClosed s.incumbent.value s.tree.nodes

-- both are of one problem and its rules
pub record SameTask (old new : Search) : Type 0 where
  pub problem : new.problem.now ≡ old.problem.now
  pub start : new.start.now ≡ old.start.now

-- how many branchings were made
abbrev pub made : Search → ℕ
made s = branch_items (items_of s.tree.nodes)

-- the leaf with this key has a bound above the best value
pub record IsAbove (s : Search) (key : ℕ) : Type 0 where
  pub node : NodeBound
  pub leaf : LeafAt key node s.tree.nodes
  pub above : s.incumbent.value <ℤ node.bound

-- no leaf has a bound above the best value
abbrev pub IsDone : Search → Type 0
IsDone s = (key : ℕ) (node : NodeBound) → LeafAt key node s.tree.nodes → node.bound ≤ℤ s.incumbent.value

-- all allowed branchings were made, or no leaf has a bound above the best value
abbrev pub IsStopped : Search → ℕ → Type 0
IsStopped s allowed = (made s ≡ allowed) ⊎ IsDone s

-- the certificate of the best partition, with the tree as its proof
pub record IsCertOfBest (s : Search) (cert : Certificate) : Type 0 where
  pub valid : IsValid s.problem.now s.start.now cert
  pub exact : StatesItsBound s.problem.now s.start.now cert
  pub fits : Fits cert
  pub labels : cert.labels ≡ s.incumbent.partition
  pub branchings : branchings_of cert ≡ made s
  pub optimal : IsDone s → cert.value ≡ cert.bound
