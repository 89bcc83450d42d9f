-- Labels that are linked and stable divide the members into connected parts that settle.
use Rattle.std.proofs.Common.{◌≡◌, ◌≢◌, ◌⊎◌, inl, inr, ⊎_elim, ℕ, pos, ◌≤ℤ◌, ◌<ℤ◌, ◌<◌, min, max, Bool, true, false, ◌==◌, if◌then◌else◌, Contains, refl, sym, ap, ◌∙◌, subst, arith}
use Rattle.std.proofs.lemmas.Int.{by_lt_z}
use Rattle.std.proofs.lemmas.Bool.{cases_eq}
use Rattle.clu_partition.specs.Pairs.{weight_of}
use Rattle.clu_partition.specs.Groups.{between}
use Rattle.clu_partition.proofs.PairLaws.{one_less}
use Rattle.clu_state.specs.State.{State, IsState, IsFree, merged, leader, are_apart, group_weight}
use Rattle.clu_state.proofs.GroupLaws.{Groups, state_groups, merged_high, merged_other, merged_groups, min_either}
use Rattle.clu_reduce.specs.Components.{Linked, grouped, near, back, chain, AreLinked, AreStable, Attract, IsLeast, AreLabels}
use Rattle.clu_reduce.proofs.FreeLaws.{free_turn, weight_turn, free_least}

-- ---- parts that settle
either : (b : Bool) → (b ≡ true) ⊎ (b ≡ false)
either true = inl refl
either false = inr refl

pub settled : (s : State) (label : ℕ → ℕ) → AreStable s label → (u v : ℕ) → Contains s.members u → Contains s.members v → label u ≢ label v →
    (are_apart s u v ≡ true) ⊎ (group_weight s u v ≤ℤ pos 0)
settled s label t u v cu cv n = ⊎_elim
    (λ a. inl a)
    (λ f. inr (by_lt_z {P = group_weight s u v ≤ℤ pos 0} (pos 0) (group_weight s u v)
    (λ l. absurd (n (t.near u v (record { first = cu; second = cv; differ = λ e. n (t.groups u v cu cv e); allowed = f }) l)))
    (λ l. l)))
    (either (are_apart s u v))

-- ---- connected parts
pub connected : (s : State) (label : ℕ → ℕ) → AreLinked s label → (u v : ℕ) → Contains s.members u → Contains s.members v → label u ≡ label v →
    Linked s u v
connected s label h u v cu cv e = chain (back (h u cu)) (subst (λ x. Linked s x v) (sym e) (h v cv))

-- ---- the labels at first, and two that become one
pub linked_first : (s : State) → IsState s → AreLinked s (leader s)
linked_first s i v c = grouped ((state_groups s i).into v c) c ((state_groups s i).idem v c)

pub linked_more : (s : State) (label : ℕ → ℕ) (u v : ℕ) → AreLinked s label → IsFree s u v → pos 0 <ℤ group_weight s u v →
    AreLinked s (merged label u v)
linked_more s label u v h f l x c = ⊎_elim
    (λ e. subst (λ y. Linked s y x) (sym (merged_high label u v x e)) (min_either (λ y. Linked s y x) (label u) (label v) (low_u e) (low_v e)))
    (λ n. subst (λ y. Linked s y x) (sym (merged_other label u v x n)) (h x c))
    (cases_eq (label x) (max (label u) (label v)))
  where
    u_to_v : Linked s (label u) (label v)
    u_to_v = chain (h u f.first) (chain (near f l) (back (h v f.second)))

    which : (a b m : ℕ) → m ≡ max a b → (m ≡ a) ⊎ (m ≡ b)
    which a b m e = grind (arith)

    low_u : label x ≡ max (label u) (label v) → Linked s (label u) x
    low_u e = ⊎_elim
        (λ k. subst (λ y. Linked s y x) k (h x c))
        (λ k. chain u_to_v (subst (λ y. Linked s y x) k (h x c)))
        (which (label u) (label v) (label x) e)

    low_v : label x ≡ max (label u) (label v) → Linked s (label v) x
    low_v e = ⊎_elim
        (λ k. chain (back u_to_v) (subst (λ y. Linked s y x) k (h x c)))
        (λ k. subst (λ y. Linked s y x) k (h x c))
        (which (label u) (label v) (label x) e)

-- labels that are one stay one
pub merged_stays : (label : ℕ → ℕ) (u v x y : ℕ) → label x ≡ label y → merged label u v x ≡ merged label u v y
merged_stays label u v x y e = ap (λ k. if k == max (label u) (label v) then min (label u) (label v) else k) e

-- and those of the two become one
pub merged_one : (label : ℕ → ℕ) (u v : ℕ) → merged label u v u ≡ merged label u v v
merged_one label u v = by (which (label u) (label v))
  where
    which : (a b : ℕ) → ((a ≡ max a b) × (a ≢ b) × (b ≡ min a b) × (b ≢ max a b)) ⊎ (((b ≡ max a b) × (a ≢ b) × (a ≡ min a b) × (a ≢ max a b)) ⊎ (a ≡ b))
    which a b = grind (arith)

    by : ((label u ≡ max (label u) (label v)) × (label u ≢ label v) × (label v ≡ min (label u) (label v)) × (label v ≢ max (label u) (label v)))
        ⊎ (((label v ≡ max (label u) (label v)) × (label u ≢ label v) × (label u ≡ min (label u) (label v)) × (label u ≢ max (label u) (label v)))
        ⊎ (label u ≡ label v)) → merged label u v u ≡ merged label u v v
    by (inl h) = merged_high label u v u h.0 ∙ sym h.2 ∙ sym (merged_other label u v v h.3)
    by (inr (inl h)) = merged_other label u v u h.3 ∙ h.2 ∙ sym (merged_high label u v v h.0)
    by (inr (inr e)) = merged_stays label u v u v e

-- ---- labels on the way
groups_of : (s : State) (label : ℕ → ℕ) → IsLeast s label → Groups label s.members
groups_of s label l = record { into = l.into; idem = l.idem; low = l.low }

least_of : (s : State) (label : ℕ → ℕ) → Groups label s.members → IsLeast s label
least_of s label l = record { into = l.into; idem = l.idem; low = l.low }

pub labels_first : (s : State) → IsState s → AreLabels s (leader s)
labels_first s i = record { least = least_of s (leader s) (state_groups s i); linked = linked_first s i; whole = λ u v cu cv e. e }

pub labels_more : (s : State) (label : ℕ → ℕ) (u v : ℕ) → AreLabels s label → IsFree s u v → pos 0 <ℤ group_weight s u v → AreLabels s (merged label u v)
labels_more s label u v a f l = record {
  least = least_of s (merged label u v) (merged_groups label u v s.members f.first f.second (groups_of s label a.least));
  linked = linked_more s label u v a.linked f l;
  whole = λ x y cx cy e. merged_stays label u v x y (a.whole x y cx cy e);
}

-- labels that are others on the members
pub labels_same : (s : State) (label other : ℕ → ℕ) → ((v : ℕ) → Contains s.members v → other v ≡ label v) → AreLabels s label → AreLabels s other
labels_same s label other e a = record {
  least = record {
    into = λ v c. subst (Contains s.members) (sym (e v c)) (a.least.into v c);
    idem = λ v c. ap other (e v c) ∙ e (label v) (a.least.into v c) ∙ a.least.idem v c ∙ sym (e v c);
    low = λ v c. let h = a.least.low v c in let k = e v c in omega (arith, h, k);
  };
  linked = λ v c. subst (λ x. Linked s x v) (sym (e v c)) (a.linked v c);
  whole = λ u v cu cv l. e u cu ∙ a.whole u v cu cv l ∙ sym (e v cv);
}

near_turn : (s : State) (u v : ℕ) → Attract s u v → Attract s v u
near_turn s u v n = record { free = free_turn s u v n.free; above = subst (λ z. pos 0 <ℤ z) (weight_turn s u v) n.above }

-- what holds of the groups' least vertices holds of all members
pub stable_from : (s : State) → IsState s → (label : ℕ → ℕ) → AreLabels s label
    → ((a b : ℕ) → Contains s.members a → Contains s.members b → leader s a ≡ a → leader s b ≡ b → a < b → Attract s a b → label a ≡ label b)
    → AreStable s label
stable_from s i label a h = record {
  groups = a.whole;
  near = λ u v f l.
      let g = state_groups s i in
      let cu = g.into u f.first in
      let cv = g.into v f.second in
      let eu = g.idem u f.first in
      let ev = g.idem v f.second in
      let free = free_least s u v (leader s u) (leader s v) i f refl refl in
      let weight : group_weight s (leader s u) (leader s v) ≡ group_weight s u v =
      ap (λ x. between (weight_of s.pairs) (leader s) s.members x (leader s (leader s v))) eu
      ∙ ap (λ x. between (weight_of s.pairs) (leader s) s.members (leader s u) x) ev in
      let is : Attract s (leader s u) (leader s v) = record { free = free; above = subst (λ z. pos 0 <ℤ z) (sym weight) l } in
      sym (a.whole (leader s u) u cu f.first eu)
      ∙ ⊎_elim
      (λ k. h (leader s u) (leader s v) cu cv eu ev k is)
      (λ k. sym (h (leader s v) (leader s u) cv cu ev eu k (near_turn s (leader s u) (leader s v) is)))
      (one_less (leader s u) (leader s v) f.differ)
      ∙ a.whole (leader s v) v cv f.second ev;
}
