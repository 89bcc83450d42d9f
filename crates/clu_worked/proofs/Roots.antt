-- The root of a tree that a test grows: what stands above a node, what a new tree has, and that a split keeps it.
use Rattle.std.proofs.Common.{◌≡◌, ◌≢◌, ℕ, pos, List, [], ap, ◌∙◌}
use Rattle.clu_partition.specs.Closed.{Closed}
use Rattle.clu_partition.specs.Pairs.{Pairs}
use Rattle.clu_state.specs.State.{State}
use Rattle.clu_state.specs.declared.decision.Decision.{Decision}
use Rattle.clu_node.specs.declared.bound.How.{How}
use Rattle.clu_node.specs.declared.bound.How.TheVariants.{Closed as Shut, Unclosed}
use Rattle.clu_tree.specs.Nodes.{Tree, Shown}
use Rattle.clu_worked.specs.Roots.{GrowsFrom}

-- the root's state with other decisions
pub after : (pairs : Pairs) (start : Closed) (members : List ℕ) (t : Tree) (ds : List Decision) → GrowsFrom pairs start members t
    → record t.root { decisions = ds } ≡ record { pairs = pairs; start = start; members = members; decisions = ds }
after pairs start members t ds h = ap (λ (s : State). record s { decisions = ds }) h.root

-- a new tree
pub planted : (pairs : Pairs) (start : Closed) (members : List ℕ) (given : List Decision) (t : Tree) (ns : List Shown)
    → t ≡ record { root = record { pairs = pairs; start = start; members = members; decisions = given }; floor = pos 0; nodes = ns }
    → GrowsFrom pairs start members t
planted pairs start members given t ns e = record {
  root = ap (λ (t : Tree). record t.root { decisions = [] }) e;
  floor = ap (λ (t : Tree). t.floor) e;
}

-- a split changes the nodes alone
pub with_nodes : (pairs : Pairs) (start : Closed) (members : List ℕ) (t u : Tree) (ns : List Shown)
    → u ≡ record t { nodes = ns } → GrowsFrom pairs start members t → GrowsFrom pairs start members u
with_nodes pairs start members t u ns e h = record {
  root = ap (λ (t : Tree). record t.root { decisions = [] }) e ∙ h.root;
  floor = ap (λ (t : Tree). t.floor) e ∙ h.floor;
}

pub not_closed : (how : How) → how ≡ Unclosed → how ≢ Shut
not_closed how e f = cc
