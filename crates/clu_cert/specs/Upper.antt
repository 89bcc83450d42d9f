-- What the items of a proof say: read in order from a state, they make a tree whose leaves bound every partition.
use Rattle.std.specs.Prelude.{◌≡◌, ℕ, ◌+◌, ℤ, ◌≤ℤ◌, List, [], ◌∷◌, ◌++◌, All, Contains, length}
use Rattle.clu_state.specs.State.{State, IsFree, decided}
use Rattle.clu_state.specs.declared.decision.Decision.TheVariants.{Together, Apart}
use Rattle.clu_reduce.specs.Reduction.{StepHolds, decision_of}
use Rattle.clu_rows.specs.declared.row.Leaf.{Leaf as LeafOf}
use Rattle.clu_rows.specs.Rows.{leaf_bound_of}
use Rattle.clu_rows.specs.Faults.{AreRows, IsDenominator}
use Rattle.clu_cert.specs.declared.certificate.Item.{Item}
use Rattle.clu_cert.specs.declared.certificate.Item.TheVariants.{Branch, Reduce, Leaf}

-- the leaf has a bound in the state
pub record HasBound (s : State) (leaf : LeafOf) : Type 0 where
  pub den : IsDenominator leaf.den
  pub rows : AreRows s leaf.rows

-- The items can be read where these subtrees are open, each to be read from its state, the first one next. They leave these
-- subtrees open, and their leaves have these bounds, in order. A branch on a free pair opens two subtrees, the first with
-- the pair together, the second with it apart. A reduction that holds adds its decision. A leaf ends a subtree.
pub data ReadsItems : List State → List Item → List ℤ → List State → Type 0 where
  none : {open' : List State} → ReadsItems open' [] [] open'
  branch : {s : State} {open' left : List State} {u v : ℕ} {items : List Item} {bounds : List ℤ} → IsFree s u v
      → ReadsItems (decided s (Together u v) ∷ decided s (Apart u v) ∷ open') items bounds left
      → ReadsItems (s ∷ open') (Branch u v ∷ items) bounds left
  reduce : {s : State} {open' left : List State} {step : _} {items : List Item} {bounds : List ℤ} → StepHolds s step
      → ReadsItems (decided s (decision_of step) ∷ open') items bounds left
      → ReadsItems (s ∷ open') (Reduce step ∷ items) bounds left
  leaf : {s : State} {open' left : List State} {l : LeafOf} {items : List Item} {bounds : List ℤ} → HasBound s l
      → ReadsItems open' items bounds left
      → ReadsItems (s ∷ open') (Leaf l ∷ items) (leaf_bound_of s l.den l.rows ∷ bounds) left

-- the items are a whole tree from the state, and the greatest of its leaves' bounds is the upper
pub record HasUpper (s : State) (items : List Item) (upper : ℤ) : Type 0 where
  pub bounds : List ℤ
  pub tree : ReadsItems (s ∷ []) items bounds []
  pub reached : Contains bounds upper
  pub greatest : All (λ bound. bound ≤ℤ upper) bounds

-- ---- where a reading fails
-- the item can't be read in the state, since it is a branch on a pair that isn't free or a reduction that doesn't hold
abbrev pub IsBadStep : State → Item → Type 0
IsBadStep s (Branch u v) = IsFree s u v → ⊥
IsBadStep s (Reduce step) = StepHolds s step → ⊥
IsBadStep s (Leaf l) = ⊥

-- the item can't be read in the state, since it is a leaf without a bound
abbrev pub IsBadLeaf : State → Item → Type 0
IsBadLeaf s (Branch u v) = ⊥
IsBadLeaf s (Reduce step) = ⊥
IsBadLeaf s (Leaf l) = HasBound s l → ⊥

-- the items before this one, counted from 1, can be read from the state, and it is to be read next in a state where it is bad
pub record FailsAt (Bad : State → Item → Type 0) (s : State) (items : List Item) (number : ℕ) : Type 0 where
  pub before : List Item
  pub item : Item
  pub after : List Item
  pub items_are : items ≡ before ++ item ∷ after
  pub counted : number ≡ length before + 1
  pub bounds : List ℤ
  pub here : State
  pub open' : List State
  pub read : ReadsItems (s ∷ []) before bounds (here ∷ open')
  pub bad : Bad here item

-- all items can be read, and a subtree is still open
pub record EndsEarly (s : State) (items : List Item) : Type 0 where
  pub bounds : List ℤ
  pub here : State
  pub open' : List State
  pub read : ReadsItems (s ∷ []) items bounds (here ∷ open')

-- the tree is whole before the last item
pub record GoesOn (s : State) (items : List Item) : Type 0 where
  pub before : List Item
  pub item : Item
  pub after : List Item
  pub items_are : items ≡ before ++ item ∷ after
  pub bounds : List ℤ
  pub read : ReadsItems (s ∷ []) before bounds []
