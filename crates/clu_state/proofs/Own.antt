-- The partition into its groups is in a state's class, and a partition of the class of a state of all vertices is permitted.
use Rattle.std.proofs.Common.{◌≡◌, ℕ, ◌<◌, ◌≢◌, ◌⊎◌, ⊎_elim, inl, inr, min, max, List, [], ◌∷◌, ◌++◌, length, slice_index, Contains, All, refl, sym, ◌∙◌, subst, arith, append_assoc, append-nil, true}
use Rattle.std.proofs.lemmas.Bool.{cases_eq, true≢false}
use Rattle.std.proofs.lemmas.List.Elements.{All-nil, All-cons, All-head, All-tail, All-push, All-weaker, All-contains, Contains-append_left, Contains-append_right, Contains-get_or}
use Rattle.clu_partition.specs.Closed.{joins, IsPermitted}
use Rattle.clu_partition.specs.Partition.{below}
use Rattle.clu_partition.proofs.JoinLaws.{joins_listed, joins_same, joins_turn}
use Rattle.clu_partition.proofs.ClosedLaws.{own_permitted}
use Rattle.clu_state.specs.State.{State, IsState, InClass, ObeysDecision, IsFree, CanDecideAll, merged, leader, kept_apart, apart_decisions, decided}
use Rattle.clu_state.specs.declared.decision.Decision.{Decision}
use Rattle.clu_state.specs.declared.decision.Decision.TheVariants.{Together, Apart}
use Rattle.clu_state.proofs.GroupLaws.{merged_high, merged_other}
use Rattle.clu_state.proofs.ChainLaws.{joined_equal, stays_equal}
use Rattle.clu_state.proofs.Joined.{groups_push, leader_apart, kept_together, kept_more}
use Rattle.clu_state.proofs.Whole.{among_below}

-- the pairs that are kept apart are of different groups
KeepsApart : State → Type 0
KeepsApart s = All (λ p. leader s p.0 ≢ leader s p.1) (kept_apart s)

-- two groups that a merge makes one were the two, or one before
merged_one : (group : ℕ → ℕ) (u v x y : ℕ) → merged group u v x ≡ merged group u v y →
    (group x ≡ group y) ⊎ (((group x ≡ group u) × (group y ≡ group v)) ⊎ ((group x ≡ group v) × (group y ≡ group u)))
merged_one group u v x y e = ⊎_elim
    (λ p. ⊎_elim
    (λ q. inl (p ∙ sym q))
    (λ n. sort p (sym (sym (merged_high group u v x p) ∙ e ∙ merged_other group u v y n)))
    (cases_eq (group y) (max (group u) (group v))))
    (λ m. ⊎_elim
    (λ q. swapped (sort q (sym (merged_other group u v x m) ∙ e ∙ merged_high group u v y q)))
    (λ n. inl (sym (merged_other group u v x m) ∙ e ∙ merged_other group u v y n))
    (cases_eq (group y) (max (group u) (group v))))
    (cases_eq (group x) (max (group u) (group v)))
  where
    pick : (a b : ℕ) → ((max a b ≡ a) × (min a b ≡ b)) ⊎ ((max a b ≡ b) × (min a b ≡ a))
    pick a b = grind arith

    sort : {h l : ℕ} → h ≡ max (group u) (group v) → l ≡ min (group u) (group v) →
        (h ≡ l) ⊎ (((h ≡ group u) × (l ≡ group v)) ⊎ ((h ≡ group v) × (l ≡ group u)))
    sort p q = inr (⊎_elim (λ k. inl (p ∙ k.0, q ∙ k.1)) (λ k. inr (p ∙ k.0, q ∙ k.1)) (pick (group u) (group v)))

    swapped : {h l : ℕ} → (h ≡ l) ⊎ (((h ≡ group u) × (l ≡ group v)) ⊎ ((h ≡ group v) × (l ≡ group u))) →
        (l ≡ h) ⊎ (((l ≡ group u) × (h ≡ group v)) ⊎ ((l ≡ group v) × (h ≡ group u)))
    swapped d = ⊎_elim (λ e. inl (sym e)) (λ r. inr (⊎_elim (λ k. inr (k.1, k.0)) (λ k. inl (k.1, k.0)) r)) d

-- a pair that is kept apart stays so where a free pair is put together
still_apart : (s : State) (u v : ℕ) → IsFree s u v → (p : ℕ × ℕ) → Contains (kept_apart s) p → leader s p.0 ≢ leader s p.1 →
    merged (leader s) u v p.0 ≢ merged (leader s) u v p.1
still_apart s u v f p c n e = ⊎_elim n
    (λ r. ⊎_elim
    (λ k. clash (joins_same (leader s) (kept_apart s) u v p.0 p.1 (sym k.0) (sym k.1) ∙ listed))
    (λ k. clash (joins_same (leader s) (kept_apart s) u v p.1 p.0 (sym k.1) (sym k.0) ∙ joins_turn (leader s) (kept_apart s) p.1 p.0 ∙ listed))
    r)
    (merged_one (leader s) u v p.0 p.1 e)
  where
    listed : joins (leader s) (kept_apart s) p.0 p.1 ≡ true
    listed = joins_listed (leader s) (kept_apart s) p c

    clash : joins (leader s) (kept_apart s) u v ≡ true → ⊥
    clash t = true≢false (sym t ∙ f.allowed)

together_keeps : (s : State) (u v : ℕ) → IsFree s u v → KeepsApart s → KeepsApart (decided s (Together u v))
unfolding KeepsApart
together_keeps s u v f all =
    subst (λ ps. All (λ p. leader (decided s (Together u v)) p.0 ≢ leader (decided s (Together u v)) p.1) ps) (sym (kept_together s u v))
    (subst (λ (h : ℕ → ℕ). All (λ p. h p.0 ≢ h p.1) (kept_apart s)) (sym (groups_push (slice_index s.start.group) s.decisions (Together u v)))
    (λ k d l. still_apart s u v f _ (Contains-get_or (kept_apart s) k d l) (all k d l)))

apart_keeps : (s : State) (u v : ℕ) → IsFree s u v → KeepsApart s → KeepsApart (decided s (Apart u v))
unfolding KeepsApart
apart_keeps s u v f all =
    subst (λ ps. All (λ p. leader (decided s (Apart u v)) p.0 ≢ leader (decided s (Apart u v)) p.1) ps) (sym (kept_more s u v))
    (subst (λ (h : ℕ → ℕ). All (λ p. h p.0 ≢ h p.1) (kept_apart s ++ (u, v) ∷ [])) (sym (leader_apart s u v))
    (All-push (λ p. leader s p.0 ≢ leader s p.1) (kept_apart s) (u, v) all f.differ))

all_keep : (s : State) (ds : List Decision) → CanDecideAll s ds → KeepsApart s → KeepsApart (record s { decisions = s.decisions ++ ds })
all_keep s [] m k = subst (λ ds. KeepsApart (record s { decisions = ds })) (sym (append-nil s.decisions)) k
all_keep s (Together u v ∷ ds) m k = subst (λ xs. KeepsApart (record s { decisions = xs })) (append_assoc s.decisions (Together u v ∷ []) ds)
    (all_keep (decided s (Together u v)) ds m.1 (together_keeps s u v m.0 k))
all_keep s (Apart u v ∷ ds) m k = subst (λ xs. KeepsApart (record s { decisions = xs })) (append_assoc s.decisions (Apart u v ∷ []) ds)
    (all_keep (decided s (Apart u v)) ds m.1 (apart_keeps s u v m.0 k))

state_keeps : (s : State) → IsState s → KeepsApart s
unfolding KeepsApart
state_keeps s i = all_keep (record s { decisions = [] }) s.decisions i.made
    (subst (λ ps. All (λ p. slice_index s.start.group p.0 ≢ slice_index s.start.group p.1) ps) (sym (append-nil s.start.forbidden))
    (own_permitted s.start i.closed).forbidden)

obeys_all : (label : ℕ → ℕ) (ds : List Decision) → ((u v : ℕ) → Contains ds (Together u v) → label u ≡ label v) →
    All (λ p. label p.0 ≢ label p.1) (apart_decisions ds) → All (ObeysDecision label) ds
obeys_all label [] f a = All-nil (ObeysDecision label)
obeys_all label (Together u v ∷ ds) f a = All-cons (ObeysDecision label) (Together u v) ds (f u v (0, omega arith, refl))
    (obeys_all label ds (λ x y c. f x y (Contains-append_right (Together u v ∷ []) ds (Together x y) c)) a)
obeys_all label (Apart u v ∷ ds) f a = All-cons (ObeysDecision label) (Apart u v) ds
    (All-head (λ p. label p.0 ≢ label p.1) (u, v) (apart_decisions ds) a)
    (obeys_all label ds (λ x y c. f x y (Contains-append_right (Apart u v ∷ []) ds (Together x y) c))
    (All-tail (λ p. label p.0 ≢ label p.1) (u, v) (apart_decisions ds) a))

-- what holds of two lists together holds of each
all_left : {A : Type 0} (P : A → Type 0) (xs ys : List A) → All P (xs ++ ys) → All P xs
all_left P xs ys a = λ k d l. All-contains P (xs ++ ys) _ a (Contains-append_left xs ys _ (Contains-get_or xs k d l))

all_right : {A : Type 0} (P : A → Type 0) (xs ys : List A) → All P (xs ++ ys) → All P ys
all_right P xs ys a = λ k d l. All-contains P (xs ++ ys) _ a (Contains-append_right xs ys _ (Contains-get_or ys k d l))

pub own_class : (s : State) → IsState s → InClass s (leader s)
unfolding KeepsApart
own_class s i = record {
  required = All-weaker (λ v. v < length s.start.group) (λ v. leader s (slice_index s.start.group v) ≡ leader s v)
      (λ v l. stays_equal s.decisions (slice_index s.start.group) (slice_index s.start.group v) v (i.closed.least v l)) s.members i.members.below;
  forbidden = All-weaker (λ p. leader s p.0 ≢ leader s p.1) (λ p. Contains s.members p.0 → Contains s.members p.1 → leader s p.0 ≢ leader s p.1)
      (λ p n _ _. n) s.start.forbidden
      (all_left (λ p. leader s p.0 ≢ leader s p.1) s.start.forbidden (apart_decisions s.decisions) (state_keeps s i));
  decisions = obeys_all (leader s) s.decisions (λ u v c. joined_equal s.decisions (slice_index s.start.group) u v c)
      (all_right (λ p. leader s p.0 ≢ leader s p.1) s.start.forbidden (apart_decisions s.decisions) (state_keeps s i));
}

-- a partition of the class of a state of all vertices is one that the rules permit
pub own_permitted_all : (s : State) (n : ℕ) (label : ℕ → ℕ) → IsState s → s.members ≡ below n → n ≡ length s.start.group → InClass s label →
    IsPermitted s.start label
own_permitted_all s n label i e f c = record {
  required = λ v l. All-contains (λ v. label (slice_index s.start.group v) ≡ label v) s.members v c.required (member v l);
  forbidden = λ k d l.
      let r = i.closed.in_range k d l in
      c.forbidden k d l (member _ r.0) (member _ r.1);
}
  where
    member : (v : ℕ) → v < length s.start.group → Contains s.members v
    member v l = subst (λ ms. Contains ms v) (sym e) (among_below n v (omega (arith, l, f)))
