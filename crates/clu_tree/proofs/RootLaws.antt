-- The root, and a tree of the root alone.
use Rattle.std.proofs.Common.{◌≡◌, ℕ, ℤ, ⊎_elim, inl, inr, List, [], ◌∷◌, refl, sym, ap, ◌∙◌, subst, zero, suc, Some, None}
use Rattle.std.specs.List.Sorted.{IsPermutation}
use Rattle.std.specs.declared.cmp.Reverse.{Reverse}
use Rattle.slab.specs.Slab.{Slab, get, slab_len}
use Rattle.clu_state.specs.State.{State, IsState}
use Rattle.clu_cert.specs.Valid.{stepped}
use Rattle.clu_tree.specs.declared.node.Fresh.{Fresh}
use Rattle.clu_tree.specs.declared.node.Node.{Node}
use Rattle.clu_tree.specs.Nodes.{Shown, HasKey, AreTrees, MayStand, state_from}
use Rattle.clu_tree.specs.Links.{shown, then_next, nodes_from, Comes, AreClimbed, IsWholeTree, leaf_node}
use Rattle.clu_tree.specs.Queue.{queue_entry}
use Rattle.clu_tree.proofs.SplitLaws.{state_here}
use Rattle.clu_tree.proofs.Arena.{options, some_one, one_shown, one_linked}
use Rattle.clu_tree.proofs.Queued.{one_queued}

-- what the links show begins with the root
begins : (more : ℕ) (nodes : Slab Node) (first : ℕ) (root : State) (floor : ℤ) → AreTrees floor (nodes_from more nodes first) (root ∷ [])
    → (n : Node) × (later : List Shown) × (nodes_from more nodes first ≡ shown first n ∷ later)
begins zero nodes first root floor t = absurd t
begins (suc more) nodes first root floor t = ⊎_elim
    (λ e. absurd (subst (λ ns. AreTrees floor ns (root ∷ [])) (ap (λ o. then_next first o (λ next. nodes_from more nodes next)) e) t))
    (λ w. (w.0, nodes_from more nodes w.0.next, ap (λ o. then_next first o (λ next. nodes_from more nodes next)) w.1))
    (options (get nodes first))

pub root_key : (more : ℕ) (nodes : Slab Node) (first : ℕ) (root : State) (floor : ℤ) → AreTrees floor (nodes_from more nodes first) (root ∷ [])
    → HasKey first (nodes_from more nodes first)
root_key more nodes first root floor t = let w = begins more nodes first root floor t in subst (HasKey first) (sym w.2) (inl refl)

pub root_state : (more : ℕ) (nodes : Slab Node) (first : ℕ) (root : State) (floor : ℤ) → AreTrees floor (nodes_from more nodes first) (root ∷ [])
    → (n : Shown) (ns : List Shown) → nodes_from more nodes first ≡ n ∷ ns → state_from first (nodes_from more nodes first) (root ∷ []) root ≡ stepped root n.steps
root_state more nodes first root floor t n ns e =
    let w = begins more nodes first root floor t in
    let same : shown first w.0 ≡ n = heads (shown first w.0) n w.1 ns (sym w.2 ∙ e) in
    ap (λ ms. state_from first ms (root ∷ []) root) e ∙ state_here first n ns root root [] (ap (λ (m : Shown). m.key) (sym same))
  where
    heads : (a b : Shown) (as' bs : List Shown) → a ∷ as' ≡ b ∷ bs → a ≡ b
    heads a b as' bs e = cc

-- ---- the root alone
comes_top : (n : Shown) (root : State) (k : ℕ) (m : Node) → HasKey k (n ∷ []) → n.steps ≡ m.steps → m.origin ≡ None
    → Comes (n ∷ []) root k m.steps m.origin
comes_top n root k m (inl e) s o = subst (Comes (n ∷ []) root k m.steps) (sym o)
    (state_here k n [] root root [] e ∙ ap (stepped root) s)
comes_top n root k m (inr h) s o = absurd h

one_climbed : (nodes : Slab Node) (first : ℕ) (n : Node) (root : State) → get nodes first ≡ Some n → slab_len nodes ≡ 1 → n.origin ≡ None
    → AreClimbed nodes (nodes_from (slab_len nodes) nodes first) root
one_climbed nodes first n root e l o = subst (λ ns. AreClimbed nodes ns root) (sym (one_shown nodes first n e l))
    (λ k m h g.
    let same : n ≡ m = some_one (get nodes k) n m (ap (get nodes) (sym (only k h)) ∙ e) g in
    comes_top (shown first n) root k m h (ap (λ (r : Node). r.steps) same) (sym (ap (λ (r : Node). r.origin) same) ∙ o))
  where
    only : (k : ℕ) → HasKey k (shown first n ∷ []) → first ≡ k
    only k (inl q) = q
    only k (inr q) = absurd q

pub one_whole : (nodes : Slab Node) (first next : ℕ) (root : State) (floor : ℤ) (fresh : Fresh) (es fs : List (ℤ × Reverse ℕ))
    → get nodes first ≡ Some (leaf_node fresh next None) → slab_len nodes ≡ 1 → IsState root → MayStand root fresh
    → es ≡ [] → IsPermutation (queue_entry fresh.bound.bound first ∷ es) fs → IsWholeTree nodes first root floor fs
one_whole nodes first next root floor fresh es fs e l i f s p = record {
  linked = one_linked nodes first next root floor fresh e l i f;
  climbed = one_climbed nodes first (leaf_node fresh next None) root e l refl;
  queued = one_queued nodes first (leaf_node fresh next None) fresh.bound es fs e l refl s p;
}
