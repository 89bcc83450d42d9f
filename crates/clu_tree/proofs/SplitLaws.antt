-- The nodes of a tree after a leaf is split: their keys, their states, and what holds of them.
use Rattle.std.proofs.Common.{◌≡◌, ◌≢◌, ℕ, ℤ, ◌+◌, ◌<ℤ◌, ◌⊎◌, ⊎_elim, inl, inr, List, [], ◌∷◌, length, refl, sym, ap, ◌∙◌, subst, arith, if◌then◌else◌}
use Rattle.std.proofs.lemmas.Bool.{cases_eq, eq-eqb, ne_eqb}
use Rattle.clu_state.specs.State.{State, IsFree, decided}
use Rattle.clu_state.specs.declared.decision.Decision.TheVariants.{Together, Apart}
use Rattle.clu_node.specs.declared.bound.NodeBound.{NodeBound}
use Rattle.clu_node.specs.declared.bound.How.TheVariants.{Closed}
use Rattle.clu_cert.specs.Valid.{stepped}
use Rattle.clu_tree.specs.declared.node.Fresh.{Fresh}
use Rattle.clu_tree.specs.declared.node.Standing.{Standing}
use Rattle.clu_tree.specs.declared.node.Standing.TheVariants.{Unsplit}
use Rattle.clu_tree.specs.Nodes.{Shown, standing_bound, standing_how, split_on, pending, state_from, HasKey, HasLeaf, LeafAt, Stands, AreTrees, MayStand, split_nodes}
use Rattle.clu_tree.specs.Links.{NotAmong, KeysDiffer}

-- what stands at a leaf
abbrev pub fresh_of : Shown → NodeBound → Fresh
fresh_of n node = record { steps = n.steps; bound = node }

-- ---- the two cases of a walk to a key
pub split_here : (key : ℕ) (pair : ℕ × ℕ) (x y n : Shown) (ns : List Shown) → n.key ≡ key
    → split_nodes key pair x y (n ∷ ns) ≡ record n { standing = split_on pair n.standing } ∷ x ∷ y ∷ ns
split_here key pair x y n ns e = ap (λ b. if b then record n { standing = split_on pair n.standing } ∷ x ∷ y ∷ ns else n ∷ split_nodes key pair x y ns) (eq-eqb n.key key e)

pub split_later : (key : ℕ) (pair : ℕ × ℕ) (x y n : Shown) (ns : List Shown) → n.key ≢ key
    → split_nodes key pair x y (n ∷ ns) ≡ n ∷ split_nodes key pair x y ns
split_later key pair x y n ns e = ap (λ b. if b then record n { standing = split_on pair n.standing } ∷ x ∷ y ∷ ns else n ∷ split_nodes key pair x y ns) (ne_eqb n.key key e)

pub state_here : (key : ℕ) (n : Shown) (ns : List Shown) (s other : State) (later : List State) → n.key ≡ key
    → state_from key (n ∷ ns) (s ∷ later) other ≡ stepped s n.steps
state_here key n ns s other later e =
    ap (λ b. if b then stepped s n.steps else state_from key ns (pending n.standing (stepped s n.steps) later) other) (eq-eqb n.key key e)

pub state_later : (key : ℕ) (n : Shown) (ns : List Shown) (s other : State) (later : List State) → n.key ≢ key
    → state_from key (n ∷ ns) (s ∷ later) other ≡ state_from key ns (pending n.standing (stepped s n.steps) later) other
state_later key n ns s other later e =
    ap (λ b. if b then stepped s n.steps else state_from key ns (pending n.standing (stepped s n.steps) later) other) (ne_eqb n.key key e)

-- ---- leaves and keys
pub leaf_key : (key : ℕ) (node : NodeBound) (ns : List Shown) → LeafAt key node ns → HasKey key ns
leaf_key key node [] l = l
leaf_key key node (n ∷ ns) (inl l) = inl l.0
leaf_key key node (n ∷ ns) (inr l) = inr (leaf_key key node ns l)

pub not_key : (key : ℕ) (ns : List Shown) → NotAmong key ns → HasKey key ns → ⊥
not_key key [] a h = h
not_key key (n ∷ ns) a (inl h) = a.0 h
not_key key (n ∷ ns) a (inr h) = not_key key ns a.1 h

-- a key that no node has is another than one that a node has
pub other_key : (k key : ℕ) (ns : List Shown) → NotAmong k ns → HasKey key ns → k ≢ key
other_key k key ns a h e = not_key k ns a (subst (λ j. HasKey j ns) (sym e) h)

leaf_among : (key : ℕ) (n : Shown) (ns : List Shown) (node : NodeBound) → NotAmong n.key ns → n.key ≡ key → LeafAt key node ns → ⊥
leaf_among key n ns node a e l = not_key key ns (subst (λ k. NotAmong k ns) e a) (leaf_key key node ns l)

pub leaf_here : (key : ℕ) (node : NodeBound) (n : Shown) (ns : List Shown) → NotAmong n.key ns → n.key ≡ key → LeafAt key node (n ∷ ns)
    → n.standing ≡ Unsplit node
leaf_here key node n ns a e (inl l) = l.1
leaf_here key node n ns a e (inr l) = absurd (leaf_among key n ns node a e l)

pub leaf_later : (key : ℕ) (node : NodeBound) (n : Shown) (ns : List Shown) → n.key ≢ key → LeafAt key node (n ∷ ns) → LeafAt key node ns
leaf_later key node n ns e (inl l) = absurd (e l.0)
leaf_later key node n ns e (inr l) = l

-- ---- the length and the keys
pub split_length : (key : ℕ) (node : NodeBound) (pair : ℕ × ℕ) (x y : Shown) (ns : List Shown) → LeafAt key node ns
    → length (split_nodes key pair x y ns) ≡ 2 + length ns
split_length key node pair x y [] l = absurd l
split_length key node pair x y (n ∷ ns) l = ⊎_elim
    (λ e. let h = ap length (split_here key pair x y n ns e) in omega (arith, h))
    (λ e.
    let h = ap length (split_later key pair x y n ns e) in
    let k = split_length key node pair x y ns (leaf_later key node n ns e l) in
    omega (arith, h, k))
    (cases_eq n.key key)

pub split_not_among : (k key : ℕ) (pair : ℕ × ℕ) (x y : Shown) (ns : List Shown) → NotAmong k ns → x.key ≢ k → y.key ≢ k
    → NotAmong k (split_nodes key pair x y ns)
split_not_among k key pair x y [] a p q = tt
split_not_among k key pair x y (n ∷ ns) a p q = ⊎_elim
    (λ e. subst (NotAmong k) (sym (split_here key pair x y n ns e)) (a.0, (p, (q, a.1))))
    (λ e. subst (NotAmong k) (sym (split_later key pair x y n ns e)) (a.0, split_not_among k key pair x y ns a.1 p q))
    (cases_eq n.key key)

pub split_differ : (key : ℕ) (pair : ℕ × ℕ) (x y : Shown) (ns : List Shown) → KeysDiffer ns → NotAmong x.key ns → NotAmong y.key ns → x.key ≢ y.key
    → KeysDiffer (split_nodes key pair x y ns)
split_differ key pair x y [] d a b n = tt
split_differ key pair x y (m ∷ ns) d a b n = ⊎_elim
    (λ e. subst KeysDiffer (sym (split_here key pair x y m ns e)) (((λ p. a.0 (sym p)), ((λ p. b.0 (sym p)), d.0)), (((λ p. n (sym p)), a.1), (b.1, d.1))))
    (λ e. subst KeysDiffer (sym (split_later key pair x y m ns e))
    (split_not_among m.key key pair x y ns d.0 (λ p. a.0 (sym p)) (λ p. b.0 (sym p)), split_differ key pair x y ns d.1 a.1 b.1 n))
    (cases_eq m.key key)

-- each key is kept, and the two new ones are there
pub key_kept : (k key : ℕ) (pair : ℕ × ℕ) (x y : Shown) (ns : List Shown) → HasKey k ns → HasKey k (split_nodes key pair x y ns)
key_kept k key pair x y [] h = absurd h
key_kept k key pair x y (n ∷ ns) h = ⊎_elim
    (λ e. subst (HasKey k) (sym (split_here key pair x y n ns e)) (⊎_elim (λ i. inl i) (λ i. inr (inr (inr i))) h))
    (λ e. subst (HasKey k) (sym (split_later key pair x y n ns e)) (⊎_elim (λ i. inl i) (λ i. inr (key_kept k key pair x y ns i)) h))
    (cases_eq n.key key)

pub key_new : (key : ℕ) (node : NodeBound) (pair : ℕ × ℕ) (x y : Shown) (ns : List Shown) → LeafAt key node ns
    → HasKey x.key (split_nodes key pair x y ns) × HasKey y.key (split_nodes key pair x y ns)
key_new key node pair x y [] l = absurd l
key_new key node pair x y (n ∷ ns) l = ⊎_elim
    (λ e. (
      subst (HasKey x.key) (sym (split_here key pair x y n ns e)) (inr (inl refl)),
      subst (HasKey y.key) (sym (split_here key pair x y n ns e)) (inr (inr (inl refl))),
    ))
    (λ e.
    let h = key_new key node pair x y ns (leaf_later key node n ns e l) in (
      subst (HasKey x.key) (sym (split_later key pair x y n ns e)) (inr h.0),
      subst (HasKey y.key) (sym (split_later key pair x y n ns e)) (inr h.1),
    ))
    (cases_eq n.key key)

-- a key after a split is a new one or was there
pub key_was : (k key : ℕ) (pair : ℕ × ℕ) (x y : Shown) (ns : List Shown) → HasKey k (split_nodes key pair x y ns)
    → ((x.key ≡ k) ⊎ (y.key ≡ k)) ⊎ HasKey k ns
key_was k key pair x y [] h = absurd h
key_was k key pair x y (n ∷ ns) h = ⊎_elim
    (λ e. by_here (subst (HasKey k) (split_here key pair x y n ns e) h))
    (λ e. by_later (subst (HasKey k) (split_later key pair x y n ns e) h) (λ i. key_was k key pair x y ns i))
    (cases_eq n.key key)
  where
    by_here : HasKey k (record n { standing = split_on pair n.standing } ∷ x ∷ y ∷ ns) → ((x.key ≡ k) ⊎ (y.key ≡ k)) ⊎ HasKey k (n ∷ ns)
    by_here (inl e) = inr (inl e)
    by_here (inr (inl e)) = inl (inl e)
    by_here (inr (inr (inl e))) = inl (inr e)
    by_here (inr (inr (inr i))) = inr (inr i)

    by_later : HasKey k (n ∷ split_nodes key pair x y ns) → (HasKey k (split_nodes key pair x y ns) → ((x.key ≡ k) ⊎ (y.key ≡ k)) ⊎ HasKey k ns)
        → ((x.key ≡ k) ⊎ (y.key ≡ k)) ⊎ HasKey k (n ∷ ns)
    by_later (inl e) f = inr (inl e)
    by_later (inr i) f = ⊎_elim (λ j. inl j) (λ j. inr (inr j)) (f i)

-- ---- the trees
-- a new leaf in front of trees
leaf_tree : (floor : ℤ) (n : Shown) (ns : List Shown) (s : State) (later : List State) (e : HasLeaf n.standing) → MayStand s (fresh_of n e.node)
    → AreTrees floor ns later → AreTrees floor (n ∷ ns) (s ∷ later)
leaf_tree floor n ns s later e f r = (
  f.steps,
  subst (Stands floor (stepped s n.steps)) (sym e.is) f.bounded,
  subst (λ c. AreTrees floor ns (pending c (stepped s n.steps) later)) (sym e.is) r,
)

pub split_trees : (floor : ℤ) (key : ℕ) (node : NodeBound) (pair : ℕ × ℕ) (x y : Shown) (ns : List Shown) (states : List State) (other : State)
    → KeysDiffer ns → LeafAt key node ns → AreTrees floor ns states → (ex : HasLeaf x.standing) → (ey : HasLeaf y.standing) → node.how ≢ Closed → floor <ℤ node.bound
    → IsFree (state_from key ns states other) pair.0 pair.1
    → MayStand (decided (state_from key ns states other) (Together pair.0 pair.1)) (fresh_of x ex.node)
    → MayStand (decided (state_from key ns states other) (Apart pair.0 pair.1)) (fresh_of y ey.node)
    → AreTrees floor (split_nodes key pair x y ns) states
split_trees floor key node pair x y [] states other d l r ex ey w z f a b = absurd l
split_trees floor key node pair x y (n ∷ ns) [] other d l r ex ey w z f a b = absurd r
split_trees floor key node pair x y (n ∷ ns) (s ∷ later) other d l r ex ey w z f a b = ⊎_elim
    (λ e.
    let p = state_here key n ns s other later e in
    let h = leaf_here key node n ns d.0 e l in
    subst (λ ms. AreTrees floor ms (s ∷ later)) (sym (split_here key pair x y n ns e)) (
      r.0,
      (subst (λ t. IsFree t pair.0 pair.1) p f, subst (λ (c : Standing). standing_how c ≢ Closed) (sym h) w, subst (λ (c : Standing). floor <ℤ standing_bound c) (sym h) z),
      leaf_tree floor x (y ∷ ns) (decided (stepped s n.steps) (Together pair.0 pair.1)) (decided (stepped s n.steps) (Apart pair.0 pair.1) ∷ later) ex
          (subst (λ t. MayStand (decided t (Together pair.0 pair.1)) (fresh_of x ex.node)) p a)
          (leaf_tree floor y ns (decided (stepped s n.steps) (Apart pair.0 pair.1)) later ey
          (subst (λ t. MayStand (decided t (Apart pair.0 pair.1)) (fresh_of y ey.node)) p b)
          (subst (λ c. AreTrees floor ns (pending c (stepped s n.steps) later)) h r.2)),
    ))
    (λ e.
    let p = state_later key n ns s other later e in
    subst (λ ms. AreTrees floor ms (s ∷ later)) (sym (split_later key pair x y n ns e)) (
      r.0,
      r.1,
      split_trees floor key node pair x y ns (pending n.standing (stepped s n.steps) later) other d.1 (leaf_later key node n ns e l) r.2 ex ey w z
          (subst (λ t. IsFree t pair.0 pair.1) p f)
          (subst (λ t. MayStand (decided t (Together pair.0 pair.1)) (fresh_of x ex.node)) p a)
          (subst (λ t. MayStand (decided t (Apart pair.0 pair.1)) (fresh_of y ey.node)) p b),
    ))
    (cases_eq n.key key)

-- ---- the states after a split
-- each old key keeps its state
pub state_kept : (floor : ℤ) (k key : ℕ) (node : NodeBound) (pair : ℕ × ℕ) (x y : Shown) (ns : List Shown) (states : List State) (other : State)
    → KeysDiffer ns → LeafAt key node ns → AreTrees floor ns states → HasLeaf x.standing → HasLeaf y.standing → x.key ≢ k → y.key ≢ k
    → state_from k (split_nodes key pair x y ns) states other ≡ state_from k ns states other
state_kept floor k key node pair x y [] states other d l r ex ey nx ny = absurd l
state_kept floor k key node pair x y (n ∷ ns) [] other d l r ex ey nx ny = absurd r
state_kept floor k key node pair x y (n ∷ ns) (s ∷ later) other d l r ex ey nx ny = ⊎_elim
    (λ e. ap (λ ms. state_from k ms (s ∷ later) other) (split_here key pair x y n ns e) ∙ ⊎_elim
    (λ f. state_here k (record n { standing = split_on pair n.standing }) (x ∷ y ∷ ns) s other later f ∙ sym (state_here k n ns s other later f))
    (λ f.
    let together = decided (stepped s n.steps) (Together pair.0 pair.1) in
    let apart = decided (stepped s n.steps) (Apart pair.0 pair.1) in
    state_later k (record n { standing = split_on pair n.standing }) (x ∷ y ∷ ns) s other later f
    ∙ state_later k x (y ∷ ns) together other (apart ∷ later) nx
    ∙ ap (λ c. state_from k (y ∷ ns) (pending c (stepped together x.steps) (apart ∷ later)) other) ex.is
    ∙ state_later k y ns apart other later ny
    ∙ ap (λ c. state_from k ns (pending c (stepped apart y.steps) later) other) ey.is
    ∙ ap (λ c. state_from k ns (pending c (stepped s n.steps) later) other) (sym (leaf_here key node n ns d.0 e l))
    ∙ sym (state_later k n ns s other later f))
    (cases_eq n.key k))
    (λ e. ap (λ ms. state_from k ms (s ∷ later) other) (split_later key pair x y n ns e) ∙ ⊎_elim
    (λ f. state_here k n (split_nodes key pair x y ns) s other later f ∙ sym (state_here k n ns s other later f))
    (λ f. state_later k n (split_nodes key pair x y ns) s other later f
    ∙ state_kept floor k key node pair x y ns (pending n.standing (stepped s n.steps) later) other d.1 (leaf_later key node n ns e l) r.2 ex ey nx ny
    ∙ sym (state_later k n ns s other later f))
    (cases_eq n.key k))
    (cases_eq n.key key)

-- the two new keys have the states of the pair's two decisions, after their steps
pub state_new : (floor : ℤ) (key : ℕ) (node : NodeBound) (pair : ℕ × ℕ) (x y : Shown) (ns : List Shown) (states : List State) (other : State)
    → KeysDiffer ns → LeafAt key node ns → AreTrees floor ns states → HasLeaf x.standing → NotAmong x.key ns → NotAmong y.key ns → x.key ≢ y.key
    → (state_from x.key (split_nodes key pair x y ns) states other ≡ stepped (decided (state_from key ns states other) (Together pair.0 pair.1)) x.steps)
    × (state_from y.key (split_nodes key pair x y ns) states other ≡ stepped (decided (state_from key ns states other) (Apart pair.0 pair.1)) y.steps)
state_new floor key node pair x y [] states other d l r ex ax ay nxy = absurd l
state_new floor key node pair x y (n ∷ ns) [] other d l r ex ax ay nxy = absurd r
state_new floor key node pair x y (n ∷ ns) (s ∷ later) other d l r ex ax ay nxy = ⊎_elim
    (λ e.
    let p = state_here key n ns s other later e in
    let q = split_here key pair x y n ns e in
    let together = decided (stepped s n.steps) (Together pair.0 pair.1) in
    let apart = decided (stepped s n.steps) (Apart pair.0 pair.1) in (
      ap (λ ms. state_from x.key ms (s ∷ later) other) q
          ∙ state_later x.key (record n { standing = split_on pair n.standing }) (x ∷ y ∷ ns) s other later ax.0
          ∙ state_here x.key x (y ∷ ns) together other (apart ∷ later) refl
          ∙ ap (λ t. stepped (decided t (Together pair.0 pair.1)) x.steps) (sym p),
      ap (λ ms. state_from y.key ms (s ∷ later) other) q
          ∙ state_later y.key (record n { standing = split_on pair n.standing }) (x ∷ y ∷ ns) s other later ay.0
          ∙ state_later y.key x (y ∷ ns) together other (apart ∷ later) nxy
          ∙ ap (λ c. state_from y.key (y ∷ ns) (pending c (stepped together x.steps) (apart ∷ later)) other) ex.is
          ∙ state_here y.key y ns apart other later refl
          ∙ ap (λ t. stepped (decided t (Apart pair.0 pair.1)) y.steps) (sym p),
    ))
    (λ e.
    let p = state_later key n ns s other later e in
    let q = split_later key pair x y n ns e in
    let h = state_new floor key node pair x y ns (pending n.standing (stepped s n.steps) later) other d.1 (leaf_later key node n ns e l) r.2 ex ax.1 ay.1 nxy in (
      ap (λ ms. state_from x.key ms (s ∷ later) other) q ∙ state_later x.key n (split_nodes key pair x y ns) s other later ax.0 ∙ h.0
          ∙ ap (λ t. stepped (decided t (Together pair.0 pair.1)) x.steps) (sym p),
      ap (λ ms. state_from y.key ms (s ∷ later) other) q ∙ state_later y.key n (split_nodes key pair x y ns) s other later ay.0 ∙ h.1
          ∙ ap (λ t. stepped (decided t (Apart pair.0 pair.1)) y.steps) (sym p),
    ))
    (cases_eq n.key key)
