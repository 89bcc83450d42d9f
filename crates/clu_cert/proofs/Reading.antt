-- Readings of items: what the first item needs, one reading behind another, and that items are read in one way.
use Rattle.std.proofs.Common.{◌≡◌, ℕ, ℤ, List, [], ◌∷◌, ◌++◌, refl, sym, ap, ◌∙◌, subst, append-nil}
use Rattle.clu_state.specs.State.{State, IsFree, decided}
use Rattle.clu_state.specs.declared.decision.Decision.TheVariants.{Together, Apart}
use Rattle.clu_reduce.specs.Reduction.{StepHolds, decision_of}
use Rattle.clu_reduce.specs.declared.step.Step.{Step}
use Rattle.clu_rows.specs.declared.row.Leaf.{Leaf as LeafOf}
use Rattle.clu_rows.specs.Rows.{leaf_bound_of}
use Rattle.clu_cert.specs.declared.certificate.Item.{Item}
use Rattle.clu_cert.specs.declared.certificate.Item.TheVariants.{Branch, Reduce, Leaf}
use Rattle.clu_cert.specs.Upper.{HasBound, ReadsItems, none, branch, reduce, leaf}

-- what a reading says of its first item
abbrev pub Begins : List State → List Item → List ℤ → List State → Type 0
Begins open' [] bounds left = (bounds ≡ []) × (left ≡ open')
Begins [] (item ∷ items) bounds left = ⊥
Begins (s ∷ open') (Branch u v ∷ items) bounds left =
    IsFree s u v × ReadsItems (decided s (Together u v) ∷ decided s (Apart u v) ∷ open') items bounds left
Begins (s ∷ open') (Reduce step ∷ items) bounds left = StepHolds s step × ReadsItems (decided s (decision_of step) ∷ open') items bounds left
Begins (s ∷ open') (Leaf l ∷ items) bounds left =
    HasBound s l × (later : List ℤ) × (bounds ≡ leaf_bound_of s l.den l.rows ∷ later) × ReadsItems open' items later left

pub begins : {open' left : List State} {items : List Item} {bounds : List ℤ} → ReadsItems open' items bounds left → Begins open' items bounds left
begins none = (refl, refl)
begins (branch f r) = (f, r)
begins (reduce h r) = (h, r)
begins (leaf {bounds} h r) = (h, bounds, refl, r)

-- ---- one reading behind another
pub reads_join : {open' middle left : List State} {items more : List Item} {bounds others : List ℤ} →
    ReadsItems open' items bounds middle → ReadsItems middle more others left → ReadsItems open' (items ++ more) (bounds ++ others) left
reads_join none q = q
reads_join (branch f r) q = branch f (reads_join r q)
reads_join (reduce h r) q = reduce h (reads_join r q)
reads_join (leaf h r) q = leaf h (reads_join r q)

-- a reading is prolonged by a branch on a free pair
pub more_branch : {open' left : List State} {s : State} {items : List Item} {bounds : List ℤ} (u v : ℕ) → ReadsItems open' items bounds (s ∷ left) →
    IsFree s u v →
    ReadsItems open' (items ++ Branch u v ∷ []) bounds (decided s (Together u v) ∷ decided s (Apart u v) ∷ left)
more_branch {open'} {left} {s} {items} {bounds} u v r f =
    subst (λ bs. ReadsItems open' (items ++ Branch u v ∷ []) bs (decided s (Together u v) ∷ decided s (Apart u v) ∷ left)) (append-nil bounds)
    (reads_join r (branch f none))

-- by a reduction that holds
pub more_reduce : {open' left : List State} {s : State} {items : List Item} {bounds : List ℤ} (step : Step) →
    ReadsItems open' items bounds (s ∷ left) → StepHolds s step →
    ReadsItems open' (items ++ Reduce step ∷ []) bounds (decided s (decision_of step) ∷ left)
more_reduce {open'} {left} {s} {items} {bounds} step r h =
    subst (λ bs. ReadsItems open' (items ++ Reduce step ∷ []) bs (decided s (decision_of step) ∷ left)) (append-nil bounds)
    (reads_join r (reduce h none))

-- and by a leaf that has a bound
pub more_leaf : {open' left : List State} {s : State} {items : List Item} {bounds : List ℤ} (l : LeafOf) → ReadsItems open' items bounds (s ∷ left) →
    HasBound s l →
    ReadsItems open' (items ++ Leaf l ∷ []) (bounds ++ leaf_bound_of s l.den l.rows ∷ []) left
more_leaf l r h = reads_join r (leaf h none)

-- ---- items are read in one way
pub record SameReading (bounds bounds' : List ℤ) (left left' : List State) : Type 0 where
  pub bounds_are : bounds ≡ bounds'
  pub left_is : left ≡ left'

pub reads_once : (items : List Item) (open' left left' : List State) (bounds bounds' : List ℤ) → ReadsItems open' items bounds left →
    ReadsItems open' items bounds' left' →
    SameReading bounds bounds' left left'
reads_once [] open' left left' bounds bounds' r q =
    let a = begins r in
    let b = begins q in
    record { bounds_are = a.0 ∙ sym b.0; left_is = a.1 ∙ sym b.1 }
reads_once (item ∷ items) [] left left' bounds bounds' r q = absurd (begins r)
reads_once (Branch u v ∷ items) (s ∷ open') left left' bounds bounds' r q =
    reads_once items (decided s (Together u v) ∷ decided s (Apart u v) ∷ open') left left' bounds bounds' (begins r).1 (begins q).1
reads_once (Reduce step ∷ items) (s ∷ open') left left' bounds bounds' r q =
    reads_once items (decided s (decision_of step) ∷ open') left left' bounds bounds' (begins r).1 (begins q).1
reads_once (Leaf l ∷ items) (s ∷ open') left left' bounds bounds' r q =
    let a = begins r in
    let b = begins q in
    let h = reads_once items open' left left' a.1 b.1 a.3 b.3 in
    record { bounds_are = a.2 ∙ ap (λ bs. leaf_bound_of s l.den l.rows ∷ bs) h.bounds_are ∙ sym b.2; left_is = h.left_is }

-- ---- a reading of two lists of items in two
pub record ReadInTwo (open' : List State) (items more : List Item) (left : List State) : Type 0 where
  pub bounds : List ℤ
  pub middle : List State
  pub others : List ℤ
  pub first : ReadsItems open' items bounds middle
  pub second : ReadsItems middle more others left

pub reads_split : (items more : List Item) (open' left : List State) (bounds : List ℤ) → ReadsItems open' (items ++ more) bounds left →
    ReadInTwo open' items more left
reads_split [] more open' left bounds r = record { bounds = []; middle = open'; others = bounds; first = none; second = r }
reads_split (item ∷ items) more [] left bounds r = absurd (begins r)
reads_split (Branch u v ∷ items) more (s ∷ open') left bounds r =
    let b = begins r in
    let h = reads_split items more (decided s (Together u v) ∷ decided s (Apart u v) ∷ open') left bounds b.1 in
    record { bounds = h.bounds; middle = h.middle; others = h.others; first = branch b.0 h.first; second = h.second }
reads_split (Reduce step ∷ items) more (s ∷ open') left bounds r =
    let b = begins r in
    let h = reads_split items more (decided s (decision_of step) ∷ open') left bounds b.1 in
    record { bounds = h.bounds; middle = h.middle; others = h.others; first = reduce b.0 h.first; second = h.second }
reads_split (Leaf l ∷ items) more (s ∷ open') left bounds r =
    let b = begins r in
    let h = reads_split items more open' left b.1 b.3 in
    record { bounds = leaf_bound_of s l.den l.rows ∷ h.bounds; middle = h.middle; others = h.others; first = leaf b.0 h.first; second = h.second }
