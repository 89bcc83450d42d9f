-- What the answer of a split, of either kind, says of the tree.
use Rattle.std.proofs.Common.{◌≡◌, ℕ, ℤ, ◌+◌, ◌⊎◌, ⊎_elim, inl, inr, List, [], ◌∷◌, refl, sym, ap, ◌∙◌, subst, arith, Result, Ok, Err, IfOk, OnOk, OnErr}
use Rattle.std.proofs.lemmas.Bool.{cases_eq}
use Rattle.std.specs.declared.cmp.Reverse.{Reverse}
use Rattle.slab.specs.Slab.{Slab, slab_len}
use Rattle.clu_state.specs.State.{State, IsFree, decided}
use Rattle.clu_state.specs.declared.decision.Decision.TheVariants.{Together, Apart}
use Rattle.clu_node.specs.declared.bound.NodeBound.{NodeBound}
use Rattle.clu_tree.specs.declared.node.Fresh.{Fresh}
use Rattle.clu_tree.specs.declared.node.Node.{Node}
use Rattle.clu_tree.specs.Items.{branch_items}
use Rattle.clu_tree.specs.declared.node.Standing.TheVariants.{Unsplit}
use Rattle.clu_tree.specs.Nodes.{Shown, Tree, items_of, split_on, state_at, LeafAt, IsOpenLeaf, MayStand, new_leaf, split_nodes}
use Rattle.clu_tree.specs.Links.{nodes_from, AreNodeLinks, AreClimbed, IsWholeTree, Attached, SameNodes, Requeued, leaf_node, side_of}
use Rattle.clu_tree.proofs.SplitLaws.{split_here, split_later}
use Rattle.clu_tree.proofs.Climb.{climbed_split}
use Rattle.clu_tree.proofs.Arena.{leaf_unsplit, vacant_not_among, split_shown, split_linked, same_shown, same_linked}
use Rattle.clu_tree.proofs.KeyLaws.{split_is, unsplit_once}
use Rattle.clu_tree.proofs.Queued.{split_queued, same_queued}
use Rattle.clu_tree.proofs.Uppers.{branches_length}

-- the tree that the fields show
abbrev pub tree_of : Slab Node → ℕ → State → ℤ → Tree
tree_of nodes first root floor = record { root = root; floor = floor; nodes = nodes_from (slab_len nodes) nodes first }

-- ---- each node still comes from where it says
split_climbed : (old new : Slab Node) (first : ℕ) (root : State) (floor : ℤ) (key : ℕ) (node : NodeBound) (pair : ℕ × ℕ) (together apart : Fresh) (keys : ℕ × ℕ)
    → AreNodeLinks old first root floor → LeafAt key node (nodes_from (slab_len old) old first) → Attached old new key pair together apart keys
    → AreClimbed old (nodes_from (slab_len old) old first) root → AreClimbed new (nodes_from (slab_len new) new first) root
split_climbed old new first root floor key node pair together apart keys l o a c =
    let w = leaf_unsplit (slab_len old) old first key node o in
    subst (λ ns. AreClimbed new ns root) (sym (split_shown old new first root floor key node pair together apart keys l o a))
    (climbed_split old new floor key node pair keys.0 keys.1 w.0 (record w.0 { standing = split_on pair w.0.standing; next = keys.0 })
    (leaf_node together keys.1 (side_of key (Together pair.0 pair.1))) (leaf_node apart w.0.next (side_of key (Apart pair.0 pair.1)))
    (nodes_from (slab_len old) old first) root l.differ o l.trees
    (vacant_not_among (slab_len old) old first keys.0 a.first_vacant) (vacant_not_among (slab_len old) old first keys.1 a.second_vacant) a.differ
    (record { node = together.bound; is = refl }) (record { node = apart.bound; is = refl })
    (record {
      had = w.1;
      has = a.split w.0 w.1;
      steps = refl;
      origin = refl;
      first = a.first;
      first_from = refl;
      second = a.second w.0 w.1;
      second_from = refl;
      others = a.others;
    })
    c)

same_climbed : (old new : Slab Node) (first : ℕ) (root : State) → SameNodes old new → AreClimbed old (nodes_from (slab_len old) old first) root
    → AreClimbed new (nodes_from (slab_len new) new first) root
same_climbed old new first root s c = subst (λ ns. AreClimbed new ns root) (sym (same_shown old new first s))
    (λ k n h e. c k n h (sym (s.each k) ∙ e))

-- ---- the whole
pub split_whole : {E : Type 0} (r : Result (ℕ × ℕ) E) (old new : Slab Node) (first : ℕ) (root : State) (floor : ℤ) (key : ℕ) (pair : ℕ × ℕ) (together apart : Fresh)
    (es fs : List (ℤ × Reverse ℕ)) → IsWholeTree old first root floor es → IsOpenLeaf (tree_of old first root floor) key
    → IsFree (state_at (tree_of old first root floor) key) pair.0 pair.1
    → MayStand (decided (state_at (tree_of old first root floor) key) (Together pair.0 pair.1)) together
    → MayStand (decided (state_at (tree_of old first root floor) key) (Apart pair.0 pair.1)) apart
    → IfOk r (λ keys. Attached old new key pair together apart keys)
    → IfOk r (λ keys. Requeued new es fs together.bound.bound apart.bound.bound keys)
    → OnErr r (SameNodes old new) → OnErr r (fs ≡ es) → IsWholeTree new first root floor fs
split_whole (Ok keys) old new first root floor key pair together apart es fs w o f t p a q same none = record {
  linked = split_linked old new first root floor key o.node pair together apart keys w.linked o.leaf a o.unclosed o.above f t p;
  climbed = split_climbed old new first root floor key o.node pair together apart keys w.linked o.leaf a w.climbed;
  queued = split_queued old new first root floor key o.node pair together apart keys es fs w.linked o.leaf a w.queued q;
}
split_whole (Err e) old new first root floor key pair together apart es fs w o f t p a q same none = record {
  linked = same_linked old new first root floor same w.linked;
  climbed = same_climbed old new first root same w.climbed;
  queued = same_queued old new first es fs same none w.queued;
}

-- the tree is that of the split, or as it was
pub split_value : {E : Type 0} (r : Result (ℕ × ℕ) E) (old new : Slab Node) (first : ℕ) (root : State) (floor : ℤ) (key : ℕ) (pair : ℕ × ℕ) (together apart : Fresh)
    (now : Tree) → AreNodeLinks old first root floor → tree_of old first root floor ≡ now → IsOpenLeaf now key
    → IfOk r (λ keys. Attached old new key pair together apart keys)
    → IfOk r (λ keys. tree_of new first root floor ≡ record now { nodes = split_nodes key pair (new_leaf keys.0 together) (new_leaf keys.1 apart) now.nodes })
split_value (Ok keys) old new first root floor key pair together apart now l v o a =
    let was = subst (λ (t : Tree). IsOpenLeaf t key) (sym v) o in
    ap (λ ns. record { root = root; floor = floor; nodes = ns }) (split_shown old new first root floor key was.node pair together apart keys l was.leaf a)
    ∙ ap (λ (t : Tree). record t { nodes = split_nodes key pair (new_leaf keys.0 together) (new_leaf keys.1 apart) t.nodes }) v
split_value (Err e) old new first root floor key pair together apart now l v o a = tt

pub same_value : {E : Type 0} (r : Result (ℕ × ℕ) E) (old new : Slab Node) (first : ℕ) (root : State) (floor : ℤ) (now : Tree)
    → tree_of old first root floor ≡ now → OnErr r (SameNodes old new) → OnErr r (tree_of new first root floor ≡ now)
same_value (Ok keys) old new first root floor now v s = tt
same_value (Err e) old new first root floor now v s = ap (λ ns. record { root = root; floor = floor; nodes = ns }) (same_shown old new first s) ∙ v

-- ---- what bounds the leaves
leaf_was : (other : ℕ) (node : NodeBound) (key : ℕ) (pair : ℕ × ℕ) (x y : Shown) (ns : List Shown) → LeafAt other node (split_nodes key pair x y ns)
    → LeafAt other node ns ⊎ (((other ≡ x.key) × (x.standing ≡ Unsplit node)) ⊎ ((other ≡ y.key) × (y.standing ≡ Unsplit node)))
leaf_was other node key pair x y [] h = absurd h
leaf_was other node key pair x y (n ∷ ns) h = ⊎_elim
    (λ e. here (subst (LeafAt other node) (split_here key pair x y n ns e) h))
    (λ e. later (subst (LeafAt other node) (split_later key pair x y n ns e) h) (λ i. leaf_was other node key pair x y ns i))
    (cases_eq n.key key)
  where
    here : LeafAt other node (record n { standing = split_on pair n.standing } ∷ x ∷ y ∷ ns)
        → LeafAt other node (n ∷ ns) ⊎ (((other ≡ x.key) × (x.standing ≡ Unsplit node)) ⊎ ((other ≡ y.key) × (y.standing ≡ Unsplit node)))
    here (inl e) = absurd (split_is _ node e.1)
    here (inr (inl e)) = inr (inl (sym e.0, e.1))
    here (inr (inr (inl e))) = inr (inr (sym e.0, e.1))
    here (inr (inr (inr e))) = inl (inr e)

    later : LeafAt other node (n ∷ split_nodes key pair x y ns)
        → (LeafAt other node (split_nodes key pair x y ns)
        → LeafAt other node ns ⊎ (((other ≡ x.key) × (x.standing ≡ Unsplit node)) ⊎ ((other ≡ y.key) × (y.standing ≡ Unsplit node))))
        → LeafAt other node (n ∷ ns) ⊎ (((other ≡ x.key) × (x.standing ≡ Unsplit node)) ⊎ ((other ≡ y.key) × (y.standing ≡ Unsplit node)))
    later (inl e) f = inl (inl e)
    later (inr i) f = ⊎_elim (λ j. inl (inr j)) (λ j. inr j) (f i)

pub bounds_were : {E : Type 0} (r : Result (ℕ × ℕ) E) (now new : Tree) (key : ℕ) (pair : ℕ × ℕ) (together apart : Fresh)
    → IfOk r (λ keys. new ≡ record now { nodes = split_nodes key pair (new_leaf keys.0 together) (new_leaf keys.1 apart) now.nodes })
    → IfOk r (λ keys. (other : ℕ) (node : NodeBound) → LeafAt other node new.nodes
    → LeafAt other node now.nodes ⊎ (((other ≡ keys.0) × (node ≡ together.bound)) ⊎ ((other ≡ keys.1) × (node ≡ apart.bound))))
bounds_were (Ok keys) now new key pair together apart e = λ other node h. ⊎_elim
    (λ i. inl i)
    (λ i. ⊎_elim
    (λ f. inr (inl (f.0, sym (unsplit_once together.bound node f.1))))
    (λ f. inr (inr (f.0, sym (unsplit_once apart.bound node f.1))))
    i)
    (leaf_was other node key pair (new_leaf keys.0 together) (new_leaf keys.1 apart) now.nodes (subst (λ (t : Tree). LeafAt other node t.nodes) e h))
bounds_were (Err x) now new key pair together apart e = tt

-- ---- the branches
pub one_branch : {E : Type 0} (r : Result (ℕ × ℕ) E) (old new : Slab Node) (first : ℕ) (root : State) (floor : ℤ) (key : ℕ) (pair : ℕ × ℕ) (together apart : Fresh)
    (now : Tree) → AreNodeLinks old first root floor → AreNodeLinks new first root floor → tree_of old first root floor ≡ now
    → IfOk r (λ keys. Attached old new key pair together apart keys)
    → OnOk r (branch_items (items_of (nodes_from (slab_len new) new first)) ≡ branch_items (items_of now.nodes) + 1)
one_branch (Ok keys) old new first root floor key pair together apart now l k v a =
    let h = branches_length floor (nodes_from (slab_len old) old first) root l.trees in
    let i = branches_length floor (nodes_from (slab_len new) new first) root k.trees in
    let b = l.all in
    let c = k.all in
    let d = a.len in
    let e : branch_items (items_of (nodes_from (slab_len new) new first)) ≡ branch_items (items_of (nodes_from (slab_len old) old first)) + 1 =
    omega (arith, h, i, b, c, d) in
    e ∙ ap (λ (t : Tree). branch_items (items_of t.nodes) + 1) v
one_branch (Err x) old new first root floor key pair together apart now l k v a = tt
