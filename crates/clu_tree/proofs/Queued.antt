-- The queue has the leaves, also after a split.
use Rattle.std.proofs.Common.{◌≡◌, ◌≢◌, ℕ, ℤ, ◌≤ℤ◌, ◌≤◌, ◌<◌, List, [], ◌∷◌, length, Contains, refl, sym, ap, ◌∙◌, subst, arith, Some, None, Option, IsSome, IfSome, true, false, ◌⊎◌, inl, inr, ⊎_elim}
use Rattle.std.proofs.lemmas.Bool.{cases_eq, false≢true}
use Rattle.std.specs.List.Sorted.{IsPermutation}
use Rattle.std.specs.declared.cmp.Reverse.{Reverse}
use Rattle.slab.specs.Slab.{Slab, get, slab_len}
use Rattle.clu_state.specs.State.{State}
use Rattle.clu_state.specs.declared.decision.Decision.TheVariants.{Together, Apart}
use Rattle.clu_node.specs.declared.bound.NodeBound.{NodeBound}
use Rattle.clu_tree.specs.declared.node.Fresh.{Fresh}
use Rattle.clu_tree.specs.declared.node.Node.{Node}
use Rattle.clu_cert.specs.Upper.{HasUpper}
use Rattle.clu_tree.specs.declared.node.Standing.{Standing}
use Rattle.clu_tree.specs.declared.node.Standing.TheVariants.{Unsplit, Split}
use Rattle.clu_tree.specs.Nodes.{Shown, Tree, HasKey, HasLeaf, LeafAt, is_split, standing_bound, split_on, AreTrees, items_of, new_leaf, split_nodes}
use Rattle.clu_tree.specs.Links.{shown, nodes_from, AreNodeLinks, AreQueued, IsWholeTree, IsUnsplit, Attached, SameNodes, Requeued, leaf_node, side_of}
use Rattle.clu_tree.specs.Queue.{queue_entry, IsBest}
use Rattle.clu_tree.proofs.SplitLaws.{leaf_key, key_kept, key_new, key_was}
use Rattle.clu_tree.proofs.Arena.{some_one, key_node, unsplit_leaf, leaf_unsplit, one_shown, replaced, stays, split_shown, same_shown}
use Rattle.clu_tree.proofs.KeyLaws.{split_is, unsplit_once}
use Rattle.clu_tree.proofs.Uppers.{some_leaf, greatest_upper}
use Rattle.clu_tree.proofs.QueueLaws.{Pushed, best_order, same_key, same_bound, pushed_was, pushed_in}

-- ---- in a split
pub there_is : {A : Type 0} (o : Option A) (x : A) → o ≡ Some x → IsSome o
there_is o x e = subst (λ p. IsSome p) (sym e) refl

pub is_there : {A : Type 0} (o : Option A) → IsSome o → (x : A) × (o ≡ Some x)
is_there None h = absurd (cc)
is_there (Some x) h = (x, refl)

pub not_unsplit : (nodes : Slab Node) (k j : ℕ) (n : Node) → get nodes k ≡ Some n → is_split n.standing ≡ true → IsUnsplit nodes j → k ≡ j → ⊥
not_unsplit nodes k j n e c u i =
    let same = some_one (get nodes k) n u.0 e (ap (get nodes) i ∙ u.1) in
    false≢true (sym (ap is_split u.2.is) ∙ sym (ap (λ (m : Node). is_split m.standing) same) ∙ c)

pub leaf_of : (standing : Standing) → is_split standing ≡ false → HasLeaf standing
leaf_of (Unsplit node) e = record { node = node; is = refl }
leaf_of (Split branch) e = absurd (false≢true (sym e))

-- the keys that were there are there, and the two new ones
pub keys_there : (old new : Slab Node) (key : ℕ) (pair : ℕ × ℕ) (together apart : Fresh) (keys : ℕ × ℕ) (es fs : List (ℤ × Reverse ℕ)) (b c : ℤ)
    → IsSome (get old key) → Attached old new key pair together apart keys → Pushed es fs b c keys.0 keys.1
    → ((d : ℤ) (k : ℕ) → Contains es (queue_entry d k) → IsSome (get old k)) → (d : ℤ) (k : ℕ) → Contains fs (queue_entry d k) → IsSome (get new k)
keys_there old new key pair together apart keys es fs b c h a p f d k i =
    let n = is_there (get old key) h in
    ⊎_elim
    (λ e. ⊎_elim
    (λ e. there_is (get new k) (leaf_node together keys.1 (side_of key (Together pair.0 pair.1))) (ap (get new) e.1 ∙ a.first))
    (λ e. there_is (get new k) (leaf_node apart n.0.next (side_of key (Apart pair.0 pair.1))) (ap (get new) e.1 ∙ a.second n.0 n.1))
    e)
    (λ j. ⊎_elim
    (λ e. there_is (get new k) (record n.0 { standing = split_on pair n.0.standing; next = keys.0 }) (ap (get new) e ∙ a.split n.0 n.1))
    (λ e.
    let m = is_there (get old k) (f d k j) in
    there_is (get new k) m.0 (stays old new key pair keys n.0 _ _ (replaced old new key pair together apart keys n.0 n.1 a) k m.0 m.1 e))
    (cases_eq k key))
    (p.was d k i)

-- the entries after two pushes, less those of split nodes
pub requeued : (nodes : Slab Node) (old two new : List (ℤ × Reverse ℕ)) (b c : ℤ) (keys : ℕ × ℕ) → Pushed old two b c keys.0 keys.1
    → ((d : ℤ) (k : ℕ) → Contains new (queue_entry d k) → Contains two (queue_entry d k))
    → ((d : ℤ) (k : ℕ) → Contains two (queue_entry d k) → IsUnsplit nodes k → Contains new (queue_entry d k))
    → ((d : ℤ) (k : ℕ) → IsBest new d k → IsUnsplit nodes k) → Requeued nodes old new b c keys
requeued nodes old two new b c keys p less leaves best = record {
  known = λ d k h. p.was d k (less d k h);
  kept = λ d k h u. leaves d k (p.keeps d k h) u;
  first = λ u. leaves b keys.0 p.first u;
  second = λ u. leaves c keys.1 p.second u;
  best = best;
}

-- ---- after a split
module _ (old new : Slab Node) (first : ℕ) (root : State) (floor : ℤ) (key : ℕ) (node : NodeBound) (pair : ℕ × ℕ) (together apart : Fresh) (keys : ℕ × ℕ)
    (es fs : List (ℤ × Reverse ℕ)) (l : AreNodeLinks old first root floor) (o : LeafAt key node (nodes_from (slab_len old) old first))
    (a : Attached old new key pair together apart keys) (z : AreQueued old (nodes_from (slab_len old) old first) es)
    (g : Requeued new es fs together.bound.bound apart.bound.bound keys) where
  now_split : nodes_from (slab_len new) new first ≡ split_nodes key pair (new_leaf keys.0 together) (new_leaf keys.1 apart) (nodes_from (slab_len old) old first)
  now_split = split_shown old new first root floor key node pair together apart keys l o a

  -- the node that is split
  has : (n : Node) × (get old key ≡ Some n) × (n.standing ≡ Unsplit node)
  has = leaf_unsplit (slab_len old) old first key node o

  same_node : (k : ℕ) (m : Node) → get old k ≡ Some m → k ≢ key → get new k ≡ Some m
  same_node k m e d = stays old new key pair keys has.0 _ _ (replaced old new key pair together apart keys has.0 has.1 a) k m e d

  -- a leaf is queued: a new one,
  new_queued : (k : ℕ) (n : Node) (m : NodeBound) → get new k ≡ Some n → n.standing ≡ Unsplit m → (keys.0 ≡ k) ⊎ (keys.1 ≡ k) → Contains fs (queue_entry m.bound k)
  new_queued k n m e c (inl i) =
      let x = leaf_node together keys.1 (side_of key (Together pair.0 pair.1)) in
      let same : x ≡ n = some_one (get new k) x n (ap (get new) (sym i) ∙ a.first) e in
      subst (λ (r : NodeBound). Contains fs (queue_entry r.bound k)) (unsplit_once together.bound m (ap (λ (r : Node). r.standing) same ∙ c))
      (subst (λ (j : ℕ). Contains fs (queue_entry together.bound.bound j)) i (g.first (x, a.first, record { node = together.bound; is = refl })))
  new_queued k n m e c (inr i) =
      let y = leaf_node apart has.0.next (side_of key (Apart pair.0 pair.1)) in
      let same : y ≡ n = some_one (get new k) y n (ap (get new) (sym i) ∙ a.second has.0 has.1) e in
      subst (λ (r : NodeBound). Contains fs (queue_entry r.bound k)) (unsplit_once apart.bound m (ap (λ (r : Node). r.standing) same ∙ c))
      (subst (λ (j : ℕ). Contains fs (queue_entry apart.bound.bound j)) i (g.second (y, a.second has.0 has.1, record { node = apart.bound; is = refl })))

  -- and an old one
  old_queued : (k : ℕ) (n : Node) (m : NodeBound) → get new k ≡ Some n → n.standing ≡ Unsplit m → HasKey k (nodes_from (slab_len old) old first)
      → Contains fs (queue_entry m.bound k)
  old_queued k n m e c h = ⊎_elim
      (λ i.
      let was = record has.0 { standing = split_on pair has.0.standing; next = keys.0 } in
      let same : was ≡ n = some_one (get new k) was n (ap (get new) i ∙ a.split has.0 has.1) e in
      absurd (split_is _ m (ap (λ (r : Node). r.standing) same ∙ c)))
      (λ i.
      let r = key_node (slab_len old) old first k h in
      let same : r.0 ≡ n = some_one (get new k) r.0 n (same_node k r.0 r.1 i) e in
      let was = unsplit_leaf (slab_len old) old first k m r.0 h r.1 (ap (λ (r : Node). r.standing) same ∙ c) in
      g.kept m.bound k (z.leaves k m was) (n, e, record { node = m; is = c }))
      (cases_eq k key)

  leaves : (k : ℕ) (m : NodeBound) → LeafAt k m (nodes_from (slab_len new) new first) → Contains fs (queue_entry m.bound k)
  leaves k m h =
      let w = leaf_unsplit (slab_len new) new first k m h in
      ⊎_elim (new_queued k w.0 m w.1 w.2) (old_queued k w.0 m w.1 w.2)
      (key_was k key pair (new_leaf keys.0 together) (new_leaf keys.1 apart) (nodes_from (slab_len old) old first)
      (subst (HasKey k) now_split (leaf_key k m (nodes_from (slab_len new) new first) h)))

  -- an entry is a node's: a new one's,
  new_known : (b : ℤ) (k : ℕ) → ((b ≡ together.bound.bound) × (k ≡ keys.0)) ⊎ ((b ≡ apart.bound.bound) × (k ≡ keys.1))
      → HasKey k (nodes_from (slab_len new) new first) × ((n : Node) × (get new k ≡ Some n) × (standing_bound n.standing ≡ b))
  new_known b k (inl e) = (
    subst (HasKey k) (sym now_split) (subst (λ j. HasKey j (split_nodes key pair (new_leaf keys.0 together) (new_leaf keys.1 apart) (nodes_from (slab_len old) old first)))
        (sym e.1) (key_new key node pair (new_leaf keys.0 together) (new_leaf keys.1 apart) (nodes_from (slab_len old) old first) o).0),
    (leaf_node together keys.1 (side_of key (Together pair.0 pair.1)), ap (get new) e.1 ∙ a.first, sym e.0),
  )
  new_known b k (inr e) = (
    subst (HasKey k) (sym now_split) (subst (λ j. HasKey j (split_nodes key pair (new_leaf keys.0 together) (new_leaf keys.1 apart) (nodes_from (slab_len old) old first)))
        (sym e.1) (key_new key node pair (new_leaf keys.0 together) (new_leaf keys.1 apart) (nodes_from (slab_len old) old first) o).1),
    (leaf_node apart has.0.next (side_of key (Apart pair.0 pair.1)), ap (get new) e.1 ∙ a.second has.0 has.1, sym e.0),
  )

  -- or an old one's
  old_known : (b : ℤ) (k : ℕ) → Contains es (queue_entry b k)
      → HasKey k (nodes_from (slab_len new) new first) × ((n : Node) × (get new k ≡ Some n) × (standing_bound n.standing ≡ b))
  old_known b k h =
      let w = z.known b k h in (
        subst (HasKey k) (sym now_split) (key_kept k key pair (new_leaf keys.0 together) (new_leaf keys.1 apart) (nodes_from (slab_len old) old first) w.0),
        ⊎_elim
            (λ e. (
              record has.0 { standing = split_on pair has.0.standing; next = keys.0 },
              ap (get new) e ∙ a.split has.0 has.1,
              ap (λ (m : Node). standing_bound m.standing) (some_one (get old k) has.0 w.1.0 (ap (get old) e ∙ has.1) w.1.1) ∙ w.1.2,
            ))
            (λ e. (w.1.0, same_node k w.1.0 w.1.1 e, w.1.2))
            (cases_eq k key),
      )

  known : (b : ℤ) (k : ℕ) → Contains fs (queue_entry b k)
      → HasKey k (nodes_from (slab_len new) new first) × ((n : Node) × (get new k ≡ Some n) × (standing_bound n.standing ≡ b))
  known b k h = ⊎_elim (new_known b k) (old_known b k) (g.known b k h)

  best : (b : ℤ) (k : ℕ) → IsBest fs b k → (m : NodeBound) × LeafAt k m (nodes_from (slab_len new) new first) × (m.bound ≡ b)
  best b k h =
      let u = g.best b k h in
      let w = known b k h.there in
      let same : w.1.0 ≡ u.0 = some_one (get new k) w.1.0 u.0 w.1.1 u.1 in
      let is = ap (λ (m : Node). m.standing) same ∙ u.2.is in
      (u.2.node, unsplit_leaf (slab_len new) new first k u.2.node w.1.0 w.0 w.1.1 is, sym (ap standing_bound is) ∙ w.1.2)

  pub split_queued : AreQueued new (nodes_from (slab_len new) new first) fs
  split_queued = record { leaves = leaves; known = known; best = best }

-- ---- an arena that has the same nodes
pub same_queued : (old new : Slab Node) (first : ℕ) (es fs : List (ℤ × Reverse ℕ)) → SameNodes old new → fs ≡ es
    → AreQueued old (nodes_from (slab_len old) old first) es → AreQueued new (nodes_from (slab_len new) new first) fs
same_queued old new first es fs s e z =
    subst (AreQueued new (nodes_from (slab_len new) new first)) (sym e)
    (subst (λ ns. AreQueued new ns es) (sym (same_shown old new first s)) (record {
      leaves = z.leaves;
      known = λ b k h. let w = z.known b k h in (w.0, (w.1.0, s.each k ∙ w.1.1, w.1.2));
      best = z.best;
    }))

-- ---- a new tree
pub one_queued : (nodes : Slab Node) (first : ℕ) (n : Node) (node : NodeBound) (es fs : List (ℤ × Reverse ℕ)) → get nodes first ≡ Some n → slab_len nodes ≡ 1 → n.standing ≡ Unsplit node
    → es ≡ [] → IsPermutation (queue_entry node.bound first ∷ es) fs → AreQueued nodes (nodes_from (slab_len nodes) nodes first) fs
one_queued nodes first n node es fs e l c s p = subst (λ ns. AreQueued nodes ns fs) (sym (one_shown nodes first n e l)) (record {
  leaves = λ k m h. by_leaf k m h;
  known = λ b k h. let w = only b k h in
      let key = same_key node.bound b first k w in
      (inl key, (n, ap (get nodes) (sym key) ∙ e, ap standing_bound c ∙ same_bound node.bound b first k w));
  best = λ b k h. let w = only b k h.there in
      (node, inl (same_key node.bound b first k w, c), same_bound node.bound b first k w);
})
  where
    empty : (x : ℤ × Reverse ℕ) → Contains [] x → ⊥
    empty x i = let h = i.1 in omega (arith, h)

    only : (b : ℤ) (k : ℕ) → Contains fs (queue_entry b k) → queue_entry node.bound first ≡ queue_entry b k
    only b k h = ⊎_elim (λ i. i) (λ i. absurd (empty (queue_entry b k) (subst (λ xs. Contains xs (queue_entry b k)) s i)))
        (pushed_was es fs (queue_entry node.bound first) (queue_entry b k) p h)

    by_leaf : (k : ℕ) (m : NodeBound) → LeafAt k m (shown first n ∷ []) → Contains fs (queue_entry m.bound k)
    by_leaf k m (inl h) = subst (λ (b : NodeBound). Contains fs (queue_entry b.bound k)) (unsplit_once node m (sym c ∙ h.1))
        (subst (λ (j : ℕ). Contains fs (queue_entry node.bound j)) h.0 (pushed_in es fs (queue_entry node.bound first) p))
    by_leaf k m (inr h) = absurd h

-- ---- the best entry
pub best_there : (nodes : Slab Node) (ns : List Shown) (es : List (ℤ × Reverse ℕ)) (floor : ℤ) (root : State) → AreQueued nodes ns es → AreTrees floor ns (root ∷ [])
    → 0 < length es
best_there nodes ns es floor root q t =
    let w = some_leaf floor ns root [] t in
    let h = (q.leaves w.0 w.1 w.2).1 in
    omega (arith, h)

-- the best entry against the leaves of the tree
pub record IsGreatest (t : Tree) (bound : ℤ) (key : ℕ) : Type 0 where
  pub leaf : (node : NodeBound) × LeafAt key node t.nodes × (node.bound ≡ bound)
  pub others : (other : ℕ) (node : NodeBound) → LeafAt other node t.nodes → (node.bound ≤ℤ bound) × (node.bound ≡ bound → key ≤ other)
  pub upper : HasUpper t.root (items_of t.nodes) bound

best_greatest : (nodes : Slab Node) (t : Tree) (es : List (ℤ × Reverse ℕ)) (b : ℤ) (k : ℕ) → AreQueued nodes t.nodes es → AreTrees t.floor t.nodes (t.root ∷ [])
    → IsBest es b k → IsGreatest t b k
best_greatest nodes t es b k q r h =
    let l = q.best b k h in
    let others = λ (other : ℕ) (node : NodeBound) (m : LeafAt other node t.nodes). best_order es node.bound b k other h (q.leaves other node m) in
    record {
      leaf = l;
      others = others;
      upper = greatest_upper t.floor t.nodes t.root k l.0 b r l.1 l.2 (λ other node m. (others other node m).0);
    }

-- for the answer of the queue
pub top_greatest : (nodes : Slab Node) (first : ℕ) (root : State) (floor : ℤ) (es : List (ℤ × Reverse ℕ)) (now : Tree) (o : Option (ℤ × ℕ)) (x : ℤ × ℕ)
    → IsWholeTree nodes first root floor es → record { root = root; floor = floor; nodes = nodes_from (slab_len nodes) nodes first } ≡ now
    → IfSome o (λ top. IsBest es top.0 top.1) → o ≡ Some x → IsGreatest now x.0 x.1
top_greatest nodes first root floor es now None x w v b e = absurd (cc)
top_greatest nodes first root floor es now (Some top) x w v b e =
    let same : top ≡ x = cc in
    subst (λ (t : Tree). IsGreatest t x.0 x.1) v
    (subst (λ (p : ℤ × ℕ). IsGreatest (record { root = root; floor = floor; nodes = nodes_from (slab_len nodes) nodes first }) p.0 p.1) same
    (best_greatest nodes (record { root = root; floor = floor; nodes = nodes_from (slab_len nodes) nodes first }) es top.0 top.1 w.queued w.linked.trees b))
