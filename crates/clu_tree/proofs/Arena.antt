-- The list that the links show, before and after two nodes are put in.
use Rattle.std.proofs.Common.{◌≡◌, ◌≢◌, ℕ, ◌+◌, ◌<ℤ◌, ℤ, ◌⊎◌, ⊎_elim, inl, inr, List, [], ◌∷◌, ◌++◌, map, length, append_assoc, append-nil, refl, sym, ap, ◌∙◌, subst, arith, zero, suc, Option, Some, None}
use Rattle.std.proofs.lemmas.Bool.{cases_eq}
use Rattle.slab.specs.Slab.{Slab, get, slab_len, Updates}
use Rattle.clu_state.specs.State.{State, IsState, IsFree, decided}
use Rattle.clu_state.specs.declared.decision.Decision.TheVariants.{Together, Apart}
use Rattle.clu_node.specs.declared.bound.NodeBound.{NodeBound}
use Rattle.clu_node.specs.declared.bound.How.TheVariants.{Closed}
use Rattle.clu_cert.specs.declared.certificate.Item.{Item}
use Rattle.clu_cert.specs.declared.certificate.Item.TheVariants.{Reduce}
use Rattle.clu_tree.specs.declared.node.Fresh.{Fresh}
use Rattle.clu_tree.specs.declared.node.Node.{Node}
use Rattle.clu_tree.specs.declared.node.Standing.TheVariants.{Unsplit}
use Rattle.clu_tree.specs.Nodes.{Shown, HasKey, LeafAt, AreTrees, MayStand, split_on, state_from, new_leaf, split_nodes, node_item, items_of}
use Rattle.clu_tree.specs.Links.{shown, then_next, nodes_from, NotAmong, KeysDiffer, AreNodeLinks, Attached, SameNodes, leaf_node, side_of}
use Rattle.clu_tree.proofs.SplitLaws.{split_here, split_later, leaf_later, split_length, split_differ, split_trees}

-- ---- the links
pub options : {A : Type 0} (o : Option A) → (o ≡ None) ⊎ ((x : A) × (o ≡ Some x))
options None = inl refl
options (Some x) = inr (x, refl)

pub not_none : {A : Type 0} (o : Option A) (x : A) → o ≡ Some x → o ≡ None → ⊥
not_none o x e f = cc

pub some_one : {A : Type 0} (o : Option A) (x y : A) → o ≡ Some x → o ≡ Some y → x ≡ y
some_one o x y e f = cc

pub follow_some : (more : ℕ) (s : Slab Node) (key : ℕ) (n : Node) → get s key ≡ Some n → nodes_from (suc more) s key ≡ shown key n ∷ nodes_from more s n.next
follow_some more s key n e = ap (λ o. then_next key o (λ next. nodes_from more s next)) e

follow_none : (more : ℕ) (s : Slab Node) (key : ℕ) → get s key ≡ None → nodes_from (suc more) s key ≡ []
follow_none more s key e = ap (λ o. then_next key o (λ next. nodes_from more s next)) e

-- links that are long enough begin with a node
pub first_there : (more : ℕ) (s : Slab Node) (key : ℕ) → length (nodes_from (suc more) s key) ≡ suc more
    → (n : Node) × (get s key ≡ Some n) × (length (nodes_from more s n.next) ≡ more)
first_there more s key l = ⊎_elim
    (λ e. let h = ap length (follow_none more s key e) in absurd (omega (arith, l, h)))
    (λ w. let h = ap length (follow_some more s key w.0 w.1) in (w.0, w.1, omega (arith, l, h)))
    (options (get s key))

same_follow : (more : ℕ) (s t : Slab Node) (key : ℕ) → ((k : ℕ) → get t k ≡ get s k) → nodes_from more t key ≡ nodes_from more s key
same_follow zero s t key e = refl
same_follow (suc more) s t key e = ⊎_elim
    (λ h. follow_none more t key (e key ∙ h) ∙ sym (follow_none more s key h))
    (λ w. follow_some more t key w.0 (e key ∙ w.1) ∙ ap (λ ns. shown key w.0 ∷ ns) (same_follow more s t w.0.next e) ∙ sym (follow_some more s key w.0 w.1))
    (options (get s key))

-- a vacant key isn't shown
pub vacant_not_among : (more : ℕ) (s : Slab Node) (key k : ℕ) → get s k ≡ None → NotAmong k (nodes_from more s key)
vacant_not_among zero s key k e = tt
vacant_not_among (suc more) s key k e = ⊎_elim
    (λ h. subst (NotAmong k) (sym (follow_none more s key h)) tt)
    (λ w. subst (NotAmong k) (sym (follow_some more s key w.0 w.1))
    ((λ p. not_none (get s k) w.0 (ap (get s) (sym p) ∙ w.1) e), vacant_not_among more s w.0.next k e))
    (options (get s key))

-- ---- a split
-- the nodes at the keys of a split, before and after it
pub record Replaced (old new : Slab Node) (key : ℕ) (pair : ℕ × ℕ) (keys : ℕ × ℕ) (n x y : Node) : Type 0 where
  pub had : get old key ≡ Some n
  pub first_vacant : get old keys.0 ≡ None
  pub second_vacant : get old keys.1 ≡ None
  pub split : get new key ≡ Some (record n { standing = split_on pair n.standing; next = keys.0 })
  pub first : get new keys.0 ≡ Some x
  pub first_next : x.next ≡ keys.1
  pub second : get new keys.1 ≡ Some y
  pub second_next : y.next ≡ n.next
  pub others : (other : ℕ) → other ≢ key → other ≢ keys.0 → other ≢ keys.1 → get new other ≡ get old other

module _ (old new : Slab Node) (key : ℕ) (pair keys : ℕ × ℕ) (n x y : Node) (a : Replaced old new key pair keys n x y) where
  pub stays : (k : ℕ) (m : Node) → get old k ≡ Some m → k ≢ key → get new k ≡ Some m
  stays k m e d = a.others k d (λ p. not_none (get old k) m e (ap (get old) p ∙ a.first_vacant))
      (λ p. not_none (get old k) m e (ap (get old) p ∙ a.second_vacant)) ∙ e

  -- links that don't come to the key stay
  later_stays : (more k : ℕ) → length (nodes_from more old k) ≡ more → NotAmong key (nodes_from more old k) → nodes_from more new k ≡ nodes_from more old k
  later_stays zero k l d = refl
  later_stays (suc more) k l d =
      let w = first_there more old k l in
      let p = follow_some more old k w.0 w.1 in
      let e = subst (NotAmong key) p d in
      follow_some more new k w.0 (stays k w.0 w.1 e.0) ∙ ap (λ ns. shown k w.0 ∷ ns) (later_stays more w.0.next w.2 e.1) ∙ sym p

  -- the links from the key on
  from_key : (more : ℕ) → length (nodes_from more old n.next) ≡ more → NotAmong key (nodes_from more old n.next)
      → nodes_from (suc (suc (suc more))) new key
      ≡ record (shown key n) { standing = split_on pair n.standing } ∷ shown keys.0 x ∷ shown keys.1 y ∷ nodes_from more old n.next
  from_key more l d =
      follow_some (suc (suc more)) new key (record n { standing = split_on pair n.standing; next = keys.0 }) a.split
      ∙ ap (λ ns. record (shown key n) { standing = split_on pair n.standing } ∷ ns) (follow_some (suc more) new keys.0 x a.first
      ∙ ap (λ ns. shown keys.0 x ∷ ns) (ap (λ j. nodes_from (suc more) new j) a.first_next ∙ follow_some more new keys.1 y a.second
      ∙ ap (λ ns. shown keys.1 y ∷ ns) (ap (λ j. nodes_from more new j) a.second_next ∙ later_stays more n.next l d)))

  grown : (node : NodeBound) (more k : ℕ) → length (nodes_from more old k) ≡ more → KeysDiffer (nodes_from more old k) → LeafAt key node (nodes_from more old k)
      → nodes_from (suc (suc more)) new k ≡ split_nodes key pair (shown keys.0 x) (shown keys.1 y) (nodes_from more old k)
  grown node zero k l d o = absurd o
  grown node (suc more) k l d o =
      let w = first_there more old k l in
      let p = follow_some more old k w.0 w.1 in
      let e = subst KeysDiffer p d in
      let q = subst (LeafAt key node) p o in
      let later = nodes_from more old w.0.next in
      ⊎_elim
      (λ s.
      let i : w.0 ≡ n = some_one (get old key) w.0 n (ap (get old) (sym s) ∙ w.1) a.had in
      ap (nodes_from (suc (suc (suc more))) new) s
      ∙ from_key more (subst (λ (m : Node). length (nodes_from more old m.next) ≡ more) i w.2)
      (subst (λ (m : Node). NotAmong key (nodes_from more old m.next)) i (subst (λ j. NotAmong j later) s e.0))
      ∙ ap (λ (m : Node). record (shown key m) { standing = split_on pair m.standing } ∷ shown keys.0 x ∷ shown keys.1 y ∷ nodes_from more old m.next) (sym i)
      ∙ ap (λ j. record (shown j w.0) { standing = split_on pair w.0.standing } ∷ shown keys.0 x ∷ shown keys.1 y ∷ later) (sym s)
      ∙ sym (split_here key pair (shown keys.0 x) (shown keys.1 y) (shown k w.0) later s)
      ∙ ap (split_nodes key pair (shown keys.0 x) (shown keys.1 y)) (sym p))
      (λ s.
      follow_some (suc (suc more)) new k w.0 (stays k w.0 w.1 s)
      ∙ ap (λ ns. shown k w.0 ∷ ns) (grown node more w.0.next w.2 e.1 (leaf_later key node (shown k w.0) later s q))
      ∙ sym (split_later key pair (shown keys.0 x) (shown keys.1 y) (shown k w.0) later s)
      ∙ ap (split_nodes key pair (shown keys.0 x) (shown keys.1 y)) (sym p))
      (cases_eq k key)

-- ---- keys and nodes
-- the node in the arena with a key that the links show
pub key_node : (more : ℕ) (s : Slab Node) (at k : ℕ) → HasKey k (nodes_from more s at) → (n : Node) × (get s k ≡ Some n)
key_node zero s at k h = absurd h
key_node (suc more) s at k h = ⊎_elim
    (λ e. absurd (subst (HasKey k) (follow_none more s at e) h))
    (λ w. by w.0 w.1 (subst (HasKey k) (follow_some more s at w.0 w.1) h) (λ g. key_node more s w.0.next k g))
    (options (get s at))
  where
    by : (m : Node) → get s at ≡ Some m → HasKey k (shown at m ∷ nodes_from more s m.next)
        → (HasKey k (nodes_from more s m.next) → (n : Node) × (get s k ≡ Some n)) → (n : Node) × (get s k ≡ Some n)
    by m g (inl q) f = (m, ap (get s) (sym q) ∙ g)
    by m g (inr q) f = f q

-- a shown node that isn't split is a leaf
pub unsplit_leaf : (more : ℕ) (s : Slab Node) (at k : ℕ) (node : NodeBound) (n : Node) → HasKey k (nodes_from more s at) → get s k ≡ Some n
    → n.standing ≡ Unsplit node → LeafAt k node (nodes_from more s at)
unsplit_leaf zero s at k node n h e c = absurd h
unsplit_leaf (suc more) s at k node n h e c = ⊎_elim
    (λ g. absurd (subst (HasKey k) (follow_none more s at g) h))
    (λ w.
    let p = follow_some more s at w.0 w.1 in
    subst (LeafAt k node) (sym p) (by w.0 w.1 (subst (HasKey k) p h) (λ g. unsplit_leaf more s w.0.next k node n g e c)))
    (options (get s at))
  where
    by : (m : Node) → get s at ≡ Some m → HasKey k (shown at m ∷ nodes_from more s m.next)
        → (HasKey k (nodes_from more s m.next) → LeafAt k node (nodes_from more s m.next)) → LeafAt k node (shown at m ∷ nodes_from more s m.next)
    by m g (inl q) f =
        let i : m ≡ n = some_one (get s k) m n (ap (get s) (sym q) ∙ g) e in
        inl (q, ap (λ (r : Node). r.standing) i ∙ c)
    by m g (inr q) f = inr (f q)

-- and a leaf is a shown node that isn't split
pub leaf_unsplit : (more : ℕ) (s : Slab Node) (at k : ℕ) (node : NodeBound) → LeafAt k node (nodes_from more s at)
    → (n : Node) × (get s k ≡ Some n) × (n.standing ≡ Unsplit node)
leaf_unsplit zero s at k node h = absurd h
leaf_unsplit (suc more) s at k node h = ⊎_elim
    (λ g. absurd (subst (LeafAt k node) (follow_none more s at g) h))
    (λ w. by w.0 w.1 (subst (LeafAt k node) (follow_some more s at w.0 w.1) h) (λ g. leaf_unsplit more s w.0.next k node g))
    (options (get s at))
  where
    by : (m : Node) → get s at ≡ Some m → LeafAt k node (shown at m ∷ nodes_from more s m.next)
        → (LeafAt k node (nodes_from more s m.next) → (n : Node) × (get s k ≡ Some n) × (n.standing ≡ Unsplit node))
        → (n : Node) × (get s k ≡ Some n) × (n.standing ≡ Unsplit node)
    by m g (inl q) f = (m, ap (get s) (sym q.0) ∙ g, q.1)
    by m g (inr q) f = f q

-- ---- the tree after a split
pub replaced : (old new : Slab Node) (key : ℕ) (pair : ℕ × ℕ) (together apart : Fresh) (keys : ℕ × ℕ) (n : Node) → get old key ≡ Some n
    → Attached old new key pair together apart keys
    → Replaced old new key pair keys n (leaf_node together keys.1 (side_of key (Together pair.0 pair.1))) (leaf_node apart n.next (side_of key (Apart pair.0 pair.1)))
replaced old new key pair together apart keys n e a = record {
  had = e;
  first_vacant = a.first_vacant;
  second_vacant = a.second_vacant;
  split = a.split n e;
  first = a.first;
  first_next = refl;
  second = a.second n e;
  second_next = refl;
  others = a.others;
}

-- the list is the one of the split
pub split_shown : (old new : Slab Node) (first : ℕ) (root : State) (floor : ℤ) (key : ℕ) (node : NodeBound) (pair : ℕ × ℕ) (together apart : Fresh) (keys : ℕ × ℕ)
    → AreNodeLinks old first root floor → LeafAt key node (nodes_from (slab_len old) old first) → Attached old new key pair together apart keys
    → nodes_from (slab_len new) new first ≡ split_nodes key pair (new_leaf keys.0 together) (new_leaf keys.1 apart) (nodes_from (slab_len old) old first)
split_shown old new first root floor key node pair together apart keys l o a =
    let w = leaf_unsplit (slab_len old) old first key node o in
    ap (λ k. nodes_from k new first) (two_more (slab_len new) (slab_len old) a.len)
    ∙ grown old new key pair keys w.0 (leaf_node together keys.1 (side_of key (Together pair.0 pair.1))) (leaf_node apart w.0.next (side_of key (Apart pair.0 pair.1)))
    (replaced old new key pair together apart keys w.0 w.1 a) node (slab_len old) first l.all l.differ o
  where
    two_more : (a b : ℕ) → a ≡ b + 2 → a ≡ suc (suc b)
    two_more a b e = omega (arith, e)

pub split_linked : (old new : Slab Node) (first : ℕ) (root : State) (floor : ℤ) (key : ℕ) (node : NodeBound) (pair : ℕ × ℕ) (together apart : Fresh) (keys : ℕ × ℕ)
    → AreNodeLinks old first root floor → LeafAt key node (nodes_from (slab_len old) old first) → Attached old new key pair together apart keys
    → node.how ≢ Closed → floor <ℤ node.bound
    → IsFree (state_from key (nodes_from (slab_len old) old first) (root ∷ []) root) pair.0 pair.1
    → MayStand (decided (state_from key (nodes_from (slab_len old) old first) (root ∷ []) root) (Together pair.0 pair.1)) together
    → MayStand (decided (state_from key (nodes_from (slab_len old) old first) (root ∷ []) root) (Apart pair.0 pair.1)) apart
    → AreNodeLinks new first root floor
split_linked old new first root floor key node pair together apart keys l o a w z f g h =
    let ns = nodes_from (slab_len old) old first in
    let same = split_shown old new first root floor key node pair together apart keys l o a in
    let x = new_leaf keys.0 together in
    let y = new_leaf keys.1 apart in record {
      state = l.state;
      all = ap length same ∙ split_length key node pair x y ns o ∙ (let b = l.all in let c = a.len in omega (arith, b, c));
      differ = subst KeysDiffer (sym same) (split_differ key pair x y ns l.differ
          (vacant_not_among (slab_len old) old first keys.0 a.first_vacant) (vacant_not_among (slab_len old) old first keys.1 a.second_vacant) a.differ);
      trees = subst (λ ms. AreTrees floor ms (root ∷ [])) (sym same)
          (split_trees floor key node pair x y ns (root ∷ []) root l.differ o l.trees (record { node = together.bound; is = refl })
          (record { node = apart.bound; is = refl }) w z f g h);
    }

-- ---- an arena that has the same nodes
pub same_shown : (old new : Slab Node) (first : ℕ) → SameNodes old new → nodes_from (slab_len new) new first ≡ nodes_from (slab_len old) old first
same_shown old new first s = ap (λ k. nodes_from k new first) s.len ∙ same_follow (slab_len old) old new first s.each

pub same_linked : (old new : Slab Node) (first : ℕ) (root : State) (floor : ℤ) → SameNodes old new → AreNodeLinks old first root floor → AreNodeLinks new first root floor
same_linked old new first root floor s l =
    let same = same_shown old new first s in record {
      state = l.state;
      all = ap length same ∙ l.all ∙ sym s.len;
      differ = subst KeysDiffer (sym same) l.differ;
      trees = subst (λ ns. AreTrees floor ns (root ∷ [])) (sym same) l.trees;
    }

-- ---- a new tree
pub one_shown : (nodes : Slab Node) (first : ℕ) (n : Node) → get nodes first ≡ Some n → slab_len nodes ≡ 1
    → nodes_from (slab_len nodes) nodes first ≡ shown first n ∷ []
one_shown nodes first n e l = ap (λ k. nodes_from k nodes first) l ∙ follow_some 0 nodes first n e

pub one_linked : (nodes : Slab Node) (first next : ℕ) (root : State) (floor : ℤ) (fresh : Fresh) → get nodes first ≡ Some (leaf_node fresh next None)
    → slab_len nodes ≡ 1 → IsState root → MayStand root fresh → AreNodeLinks nodes first root floor
one_linked nodes first next root floor fresh e l i f =
    let p = one_shown nodes first (leaf_node fresh next None) e l in record {
      state = i;
      all = ap length p ∙ sym l;
      differ = subst KeysDiffer (sym p) (tt, tt);
      trees = subst (λ ns. AreTrees floor ns (root ∷ [])) (sym p) (f.steps, f.bounded, tt);
    }

-- ---- the walk along the links, on which each node is taken out
-- links that don't come to the key that is taken out stay
out_stays : (more : ℕ) (old new : Slab Node) (key k : ℕ) → Updates old new key None → length (nodes_from more old k) ≡ more → NotAmong key (nodes_from more old k)
    → nodes_from more new k ≡ nodes_from more old k
out_stays zero old new key k u l d = refl
out_stays (suc more) old new key k u l d =
    let w = first_there more old k l in
    let p = follow_some more old k w.0 w.1 in
    let e = subst (NotAmong key) p d in
    follow_some more new k w.0 (u.others k e.0 ∙ w.1) ∙ ap (λ ns. shown k w.0 ∷ ns) (out_stays more old new key w.0.next u w.2 e.1) ∙ sym p

-- the nodes along the links are all that the arena has, and the items that are told and theirs are the whole
pub record AreLeft (nodes : Slab Node) (at : ℕ) (told items : List Item) : Type 0 where
  pub whole : told ++ items_of (nodes_from (slab_len nodes) nodes at) ≡ items
  pub all : length (nodes_from (slab_len nodes) nodes at) ≡ slab_len nodes
  pub differ : KeysDiffer (nodes_from (slab_len nodes) nodes at)

-- one node is taken out and its items are told
pub left_step : (old new : Slab Node) (at : ℕ) (n : Node) (told more all : List Item) → AreLeft old at told all → get old at ≡ Some n
    → Updates old new at None → slab_len new + 1 ≡ slab_len old → more ≡ (told ++ map Reduce n.steps) ++ node_item n.standing ∷ []
    → AreLeft new n.next more all
left_step old new at n told more all a g u l f = record {
  whole = ap (λ ns. more ++ items_of ns) same ∙ ap (λ xs. xs ++ items_of rest) f
      ∙ shift told (map Reduce n.steps) (node_item n.standing) (items_of rest) ∙ ap (λ ns. told ++ items_of ns) (sym shows) ∙ a.whole;
  all = ap length same ∙ (let h = ap length shows in let i = a.all in omega (arith, h, i, l));
  differ = subst KeysDiffer (sym same) (subst KeysDiffer shows a.differ).1;
}
  where
    rest : List Shown
    rest = nodes_from (slab_len new) old n.next

    shows : nodes_from (slab_len old) old at ≡ shown at n ∷ nodes_from (slab_len new) old n.next
    shows = ap (λ k. nodes_from k old at) (one_more (slab_len old) (slab_len new) l) ∙ follow_some (slab_len new) old at n g
      where
        one_more : (b c : ℕ) → c + 1 ≡ b → b ≡ suc c
        one_more b c e = omega (arith, e)

    same : nodes_from (slab_len new) new n.next ≡ nodes_from (slab_len new) old n.next
    same = out_stays (slab_len new) old new at n.next u (let h = ap length shows in let i = a.all in omega (arith, h, i, l))
        (subst KeysDiffer shows a.differ).0

    shift : (xs ys : List Item) (z : Item) (zs : List Item) → ((xs ++ ys) ++ (z ∷ [])) ++ zs ≡ xs ++ (ys ++ (z ∷ zs))
    shift xs ys z zs = append_assoc (xs ++ ys) (z ∷ []) zs ∙ append_assoc xs ys (z ∷ zs)

-- where no node has the key, all are told
pub left_none : (nodes : Slab Node) (at : ℕ) (told all : List Item) → AreLeft nodes at told all → get nodes at ≡ None → told ≡ all
left_none nodes at told all a e =
    sym (append-nil told) ∙ ap (λ ns. told ++ items_of ns) (sym (nothing (slab_len nodes))) ∙ a.whole
  where
    nothing : (more : ℕ) → nodes_from more nodes at ≡ []
    nothing zero = refl
    nothing (suc more) = follow_none more nodes at e
