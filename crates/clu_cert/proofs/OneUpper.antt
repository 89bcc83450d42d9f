-- A proof has one upper at most, and none where its reading fails.
use Rattle.std.proofs.Common.{◌≡◌, ℕ, ℤ, ◌≤ℤ◌, List, [], ◌∷◌, ◌++◌, Contains, All, refl, sym, ap, ◌∙◌, subst, arith}
use Rattle.std.proofs.lemmas.Int.{ints}
use Rattle.std.proofs.lemmas.List.Elements.{All-contains}
use Rattle.clu_partition.specs.Closed.{Closed}
use Rattle.clu_objective.specs.Problem.{Posed}
use Rattle.clu_state.specs.State.{State}
use Rattle.clu_reduce.specs.declared.step.Step.{Step}
use Rattle.clu_cert.specs.declared.certificate.Item.{Item}
use Rattle.clu_cert.specs.declared.certificate.Item.TheVariants.{Branch, Reduce, Leaf}
use Rattle.clu_cert.specs.declared.certificate.Proof.{Proof}
use Rattle.clu_cert.specs.Upper.{ReadsItems, HasUpper, IsBadStep, IsBadLeaf, FailsAt, EndsEarly, GoesOn}
use Rattle.clu_cert.specs.Valid.{part_state, HaveUppers}
use Rattle.clu_cert.proofs.Reading.{begins, reads_once, reads_split}

-- the greatest of the bounds is one
greatest_once : (bounds : List ℤ) (a b : ℤ) → Contains bounds a → Contains bounds b → All (λ bound. bound ≤ℤ a) bounds →
    All (λ bound. bound ≤ℤ b) bounds → a ≡ b
greatest_once bounds a b ca cb fa fb =
    let h = All-contains (λ bound. bound ≤ℤ b) bounds a fb ca in
    let k = All-contains (λ bound. bound ≤ℤ a) bounds b fa cb in
    omega (arith, ints, h, k)

pub upper_once : (s : State) (items : List Item) (a b : ℤ) → HasUpper s items a → HasUpper s items b → a ≡ b
upper_once s items a b p q =
    let same = (reads_once items (s ∷ []) [] [] p.bounds q.bounds p.tree q.tree).bounds_are in
    greatest_once p.bounds a b p.reached (subst (λ bs. Contains bs b) (sym same) q.reached) p.greatest
    (subst (λ bs. All (λ bound. bound ≤ℤ b) bs) (sym same) q.greatest)

pub uppers_once : (problem : Posed) (start : Closed) (steps : List Step) (proofs : List Proof) (uppers others : List ℤ) →
    HaveUppers problem start steps proofs uppers → HaveUppers problem start steps proofs others → uppers ≡ others
uppers_once problem start steps [] [] [] p q = refl
uppers_once problem start steps [] [] (b ∷ bs) p q = absurd q
uppers_once problem start steps [] (a ∷ as') bs p q = absurd p
uppers_once problem start steps (proof ∷ proofs) [] bs p q = absurd p
uppers_once problem start steps (proof ∷ proofs) (a ∷ as') [] p q = absurd q
uppers_once problem start steps (proof ∷ proofs) (a ∷ as') (b ∷ bs) p q =
    ap (λ z. z ∷ as') (upper_once (part_state problem start steps proof.part) proof.items a b p.0 q.0)
    ∙ ap (λ zs. b ∷ zs) (uppers_once problem start steps proofs as' bs p.1 q.1)

-- ---- a reading that fails
-- the item that is to be read next in a whole tree begins the rest of the reading
next_read : (s here : State) (open' : List State) (before after : List Item) (item : Item) (bounds : List ℤ) (items : List Item) (upper : ℤ) →
    items ≡ before ++ item ∷ after → ReadsItems (s ∷ []) before bounds (here ∷ open') → HasUpper s items upper →
    (others : List ℤ) × ReadsItems (here ∷ open') (item ∷ after) others []
next_read s here open' before after item bounds items upper e r h =
    let two = reads_split before (item ∷ after) (s ∷ []) [] h.bounds (subst (λ xs. ReadsItems (s ∷ []) xs h.bounds []) e h.tree) in
    let same = (reads_once before (s ∷ []) two.middle (here ∷ open') two.bounds bounds two.first r).left_is in
    (two.others, subst (λ xs. ReadsItems xs (item ∷ after) two.others []) same two.second)

pub no_bad_step : (s : State) (items : List Item) (number : ℕ) (upper : ℤ) → FailsAt IsBadStep s items number → HasUpper s items upper → ⊥
no_bad_step s items number upper f h =
    good f.item f.bad (next_read s f.here f.open' f.before f.after f.item f.bounds items upper f.items_are f.read h)
  where
    good : (item : Item) → IsBadStep f.here item → (others : List ℤ) × ReadsItems (f.here ∷ f.open') (item ∷ f.after) others [] → ⊥
    good (Branch u v) bad n = bad (begins n.1).0
    good (Reduce step) bad n = bad (begins n.1).0
    good (Leaf l) bad n = bad

pub no_bad_leaf : (s : State) (items : List Item) (number : ℕ) (upper : ℤ) → FailsAt IsBadLeaf s items number → HasUpper s items upper → ⊥
no_bad_leaf s items number upper f h =
    good f.item f.bad (next_read s f.here f.open' f.before f.after f.item f.bounds items upper f.items_are f.read h)
  where
    good : (item : Item) → IsBadLeaf f.here item → (others : List ℤ) × ReadsItems (f.here ∷ f.open') (item ∷ f.after) others [] → ⊥
    good (Branch u v) bad n = bad
    good (Reduce step) bad n = bad
    good (Leaf l) bad n = bad (begins n.1).0

pub no_early_end : (s : State) (items : List Item) (upper : ℤ) → EndsEarly s items → HasUpper s items upper → ⊥
no_early_end s items upper f h =
    let same = (reads_once items (s ∷ []) (f.here ∷ f.open') [] f.bounds h.bounds f.read h.tree).left_is in
    never f.here f.open' same
  where
    never : (here : State) (open' : List State) → here ∷ open' ≡ [] → ⊥
    never here open' e = cc

pub no_going_on : (s : State) (items : List Item) (upper : ℤ) → GoesOn s items → HasUpper s items upper → ⊥
no_going_on s items upper f h =
    let two = reads_split f.before (f.item ∷ f.after) (s ∷ []) [] h.bounds (subst (λ xs. ReadsItems (s ∷ []) xs h.bounds []) f.items_are h.tree) in
    let same = (reads_once f.before (s ∷ []) two.middle [] two.bounds f.bounds two.first f.read).left_is in
    begins (subst (λ xs. ReadsItems xs (f.item ∷ f.after) two.others []) same two.second)
