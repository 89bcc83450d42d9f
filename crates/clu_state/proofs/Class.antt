-- Each partition of the class divides no group and joins no apart pair.
use Rattle.std.proofs.Common.{filter, cond, ◌≡◌, ℕ, ◌<◌, ◌≢◌, ◌⊎◌, ⊎_elim, inl, inr, min, max, List, [], ◌∷◌, length, slice_index, Contains, All, refl, sym, ap, ◌∙◌, subst, arith, Bool, true, false, ◌==◌, ◌&&◌, ◌||◌}
use Rattle.std.proofs.lemmas.Bool.{cases_eq, eqb-true, or_cases, and_parts, false≢true}
use Rattle.std.proofs.lemmas.List.Elements.{All-contains, All-head, All-tail, All-cons, All-nil, All-append}
use Rattle.clu_partition.specs.Closed.{joins}
use Rattle.clu_partition.specs.Groups.{leaders}
use Rattle.clu_partition.proofs.SumLaws.{Each, Among}
use Rattle.clu_state.specs.State.{State, IsState, InClass, ObeysDecision, merged, groups_after, leader, are_apart, kept_apart, apart_decisions}
use Rattle.clu_state.specs.declared.decision.Decision.{Decision}
use Rattle.clu_state.specs.declared.decision.Decision.TheVariants.{Together, Apart}
use Rattle.clu_state.proofs.GroupLaws.{Groups, state_groups, start_groups, merged_groups, AllMembers, made_members, merged_high, merged_other, max_either, min_either}
use Rattle.clu_state.proofs.Bridge.{each_from, among_from, contains_from}

-- ---- equal labels within a group
Keeps : (ℕ → ℕ) → (ℕ → ℕ) → List ℕ → Type 0
Keeps label group members = (v : ℕ) → Contains members v → label (group v) ≡ label v

keeps_merged : (label group : ℕ → ℕ) (members : List ℕ) (u v : ℕ) → Contains members u → Contains members v → label u ≡ label v → Keeps label group members → Keeps label (merged group u v) members
unfolding Keeps
keeps_merged label group members u v cu cv e k = λ x c. ⊎_elim
    (λ f. ap label (merged_high group u v x f) ∙ low (k u cu) (k v cv ∙ sym e) ∙ sym (high (k u cu) (k v cv ∙ sym e)) ∙ ap label (sym f) ∙ k x c)
    (λ n. ap label (merged_other group u v x n) ∙ k x c)
    (cases_eq (group x) (max (group u) (group v)))
  where
    low : label (group u) ≡ label u → label (group v) ≡ label u → label (min (group u) (group v)) ≡ label u
    low p q = min_either (λ m. label m ≡ label u) (group u) (group v) p q

    high : label (group u) ≡ label u → label (group v) ≡ label u → label (max (group u) (group v)) ≡ label u
    high p q = max_either (λ m. label m ≡ label u) (group u) (group v) p q

keeps_after : (label group : ℕ → ℕ) (members : List ℕ) (ds : List Decision) → AllMembers members ds → All (ObeysDecision label) ds → Keeps label group members → Keeps label (groups_after group ds) members
unfolding AllMembers
keeps_after label group members [] a o k = k
keeps_after label group members (Together u v ∷ ds) a o k = keeps_after label (merged group u v) members ds a.1 (All-tail (ObeysDecision label) (Together u v) ds o) (keeps_merged label group members u v a.0.0 a.0.1 (All-head (ObeysDecision label) (Together u v) ds o) k)
keeps_after label group members (Apart u v ∷ ds) a o k = keeps_after label group members ds a.1 (All-tail (ObeysDecision label) (Apart u v) ds o) k

pub class_keeps : (s : State) (label : ℕ → ℕ) → IsState s → InClass s label → (v : ℕ) → Contains s.members v → label (leader s v) ≡ label v
unfolding Keeps
class_keeps s label i c = keeps_after label (slice_index s.start.group) s.members s.decisions (made_members (record s { decisions = [] }) s.decisions i.made) c.decisions (λ v m. All-contains (λ v. label (slice_index s.start.group v) ≡ label v) s.members v c.required m)

-- ---- a vertex outside keeps its group
outside : (group : ℕ → ℕ) (members : List ℕ) (ds : List Decision) → AllMembers members ds → Groups group members → (x : ℕ) → (Contains members (group x) → ⊥) → groups_after group ds x ≡ group x
unfolding AllMembers
outside group members [] a g x n = refl
outside group members (Together u v ∷ ds) a g x n =
    let e : merged group u v x ≡ group x = merged_other group u v x (λ f. n (subst (Contains members) (sym f) (max_either (Contains members) (group u) (group v) (g.into u a.0.0) (g.into v a.0.1)))) in
    outside (merged group u v) members ds a.1 (merged_groups group u v members a.0.0 a.0.1 g) x (λ c. n (subst (Contains members) e c)) ∙ e
outside group members (Apart u v ∷ ds) a g x n = outside group members ds a.1 g x n

among_or_not : (xs : List ℕ) (c : ℕ) → Among c xs ⊎ (Among c xs → ⊥)
among_or_not [] c = inr (λ m. m)
among_or_not (x ∷ xs) c = ⊎_elim (λ e. inl (inl e)) (λ n. ⊎_elim (λ m. inl (inr m)) (λ k. inr (λ m. ⊎_elim n k m)) (among_or_not xs c)) (cases_eq c x)

-- a vertex with the group of a member is one
pub same_group_member : (s : State) → IsState s → (x a : ℕ) → x < length s.start.group → Contains s.members a → leader s x ≡ leader s a → Contains s.members x
same_group_member s i x a l c e = ⊎_elim
    (λ m. contains_from s.members x m)
    (λ n.
    let far : Contains s.members (slice_index s.start.group x) → ⊥ = λ h. n (among_from s.members x (i.members.closed x l h)) in
    let same : leader s x ≡ slice_index s.start.group x = outside (slice_index s.start.group) s.members s.decisions (made_members (record s { decisions = [] }) s.decisions i.made) (start_groups s.start s.members i.closed i.members) x far in
    absurd (far (subst (Contains s.members) (sym e ∙ same) ((state_groups s i).into a c))))
    (among_or_not s.members x)

-- ---- different labels at apart pairs
-- what one pair of the list says, where it joins the groups of a and b
Splits : State → (ℕ → ℕ) → ℕ × ℕ → Type 0
Splits s label p = (a b : ℕ) → Contains s.members a → Contains s.members b → leader s p.0 ≡ leader s a → leader s p.1 ≡ leader s b → label a ≢ label b

joined_differ : (s : State) (label : ℕ → ℕ) (ps : List (ℕ × ℕ)) → All (Splits s label) ps → (a b : ℕ) → Contains s.members a → Contains s.members b → joins (leader s) ps a b ≡ true → label a ≢ label b
unfolding Splits
joined_differ s label [] all a b ca cb t = absurd (false≢true t)
joined_differ s label (p ∷ ps) all a b ca cb t = ⊎_elim
    (λ h. ⊎_elim
    (λ k. let q = and_parts (leader s p.0 == leader s a) (leader s p.1 == leader s b) k in
    All-head (Splits s label) p ps all a b ca cb (eqb-true (leader s p.0) (leader s a) q.0) (eqb-true (leader s p.1) (leader s b) q.1))
    (λ k. let q = and_parts (leader s p.0 == leader s b) (leader s p.1 == leader s a) k in
    λ e. All-head (Splits s label) p ps all b a cb ca (eqb-true (leader s p.0) (leader s b) q.0) (eqb-true (leader s p.1) (leader s a) q.1) (sym e))
    (or_cases (leader s p.0 == leader s a && leader s p.1 == leader s b) (leader s p.0 == leader s b && leader s p.1 == leader s a) h))
    (λ r. joined_differ s label ps (All-tail (Splits s label) p ps all) a b ca cb r)
    (or_cases (leader s p.0 == leader s a && leader s p.1 == leader s b || leader s p.0 == leader s b && leader s p.1 == leader s a) (joins (leader s) ps a b) t)

splits_from : (s : State) (label : ℕ → ℕ) → IsState s → InClass s label → (p : ℕ × ℕ) → p.0 < length s.start.group → p.1 < length s.start.group →
    (Contains s.members p.0 → Contains s.members p.1 → label p.0 ≢ label p.1) → Splits s label p
unfolding Splits
splits_from s label i c p l k n a b ca cb e f h =
    let ma = same_group_member s i p.0 a l ca e in
    let mb = same_group_member s i p.1 b k cb f in
    n ma mb (sym (class_keeps s label i c p.0 ma) ∙ ap label e ∙ class_keeps s label i c a ca ∙ h ∙ sym (class_keeps s label i c b cb) ∙ ap label (sym f) ∙ class_keeps s label i c p.1 mb)

-- the apart pairs of decisions
apart_split : (s : State) (label : ℕ → ℕ) → IsState s → InClass s label → (ds : List Decision) → AllMembers s.members ds → All (ObeysDecision label) ds → All (Splits s label) (apart_decisions ds)
unfolding AllMembers Splits
apart_split s label i c [] a o = λ k d l. absurd (omega arith)
apart_split s label i c (Together u v ∷ ds) a o = apart_split s label i c ds a.1 (All-tail (ObeysDecision label) (Together u v) ds o)
apart_split s label i c (Apart u v ∷ ds) a o = All-cons (Splits s label) (u, v) (apart_decisions ds)
    (splits_from s label i c (u, v)
    (All-contains (λ v. v < length s.start.group) s.members u i.members.below a.0.0)
    (All-contains (λ v. v < length s.start.group) s.members v i.members.below a.0.1)
    (λ _ _. All-head (ObeysDecision label) (Apart u v) ds o))
    (apart_split s label i c ds a.1 (All-tail (ObeysDecision label) (Apart u v) ds o))

forbidden_split : (s : State) (label : ℕ → ℕ) → IsState s → InClass s label → (ps : List (ℕ × ℕ)) → All (λ p. (p.0 < length s.start.group) × (p.1 < length s.start.group)) ps →
    All (λ p. Contains s.members p.0 → Contains s.members p.1 → label p.0 ≢ label p.1) ps → All (Splits s label) ps
forbidden_split s label i c [] r n = All-nil (Splits s label)
forbidden_split s label i c (p ∷ ps) r n = All-cons (Splits s label) p ps
    (let q = All-head (λ p. (p.0 < length s.start.group) × (p.1 < length s.start.group)) p ps r in
    splits_from s label i c p q.0 q.1 (All-head (λ p. Contains s.members p.0 → Contains s.members p.1 → label p.0 ≢ label p.1) p ps n))
    (forbidden_split s label i c ps (All-tail (λ p. (p.0 < length s.start.group) × (p.1 < length s.start.group)) p ps r) (All-tail (λ p. Contains s.members p.0 → Contains s.members p.1 → label p.0 ≢ label p.1) p ps n))

pub class_splits : (s : State) (label : ℕ → ℕ) → IsState s → InClass s label → (a b : ℕ) → Contains s.members a → Contains s.members b → are_apart s a b ≡ true → label a ≢ label b
class_splits s label i c = joined_differ s label (kept_apart s)
    (All-append (Splits s label) s.start.forbidden (apart_decisions s.decisions)
    (forbidden_split s label i c s.start.forbidden i.closed.in_range c.forbidden)
    (apart_split s label i c s.decisions (made_members (record s { decisions = [] }) s.decisions i.made) c.decisions))

among_cond : (b : Bool) (a x : ℕ) (ys xs : List ℕ) → Among a (cond b (x ∷ ys) ys) → (Among a ys → Among a xs) → Among a (x ∷ xs)
among_cond true a x ys xs m f = ⊎_elim (λ e. inl e) (λ n. inr (f n)) m
among_cond false a x ys xs m f = inr (f m)

pub among_filtered : (test : ℕ → Bool) (a : ℕ) (xs : List ℕ) → Among a (filter test xs) → Among a xs
among_filtered test a [] m = m
among_filtered test a (x ∷ xs) m = among_cond (test x) a x (filter test xs) xs m (among_filtered test a xs)

-- a partition that divides no group and joins no apart pair of groups
pub record Respects (label group : ℕ → ℕ) (apart : ℕ → ℕ → Bool) (members : List ℕ) : Type 0 where
  pub keeps : Each (λ u. label (group u) ≡ label u) members
  pub parts : (a b : ℕ) → Among a (leaders group members) → Among b (leaders group members) → apart a b ≡ true → label a ≢ label b

pub class_respects : (s : State) (label : ℕ → ℕ) → IsState s → InClass s label → Respects label (leader s) (are_apart s) s.members
class_respects s label i c = record {
  keeps = each_from (λ u. label (leader s u) ≡ label u) s.members (class_keeps s label i c);
  parts = λ a b ma mb t. class_splits s label i c a b
      (contains_from s.members a (among_filtered (λ u. leader s u == u) a s.members ma))
      (contains_from s.members b (among_filtered (λ u. leader s u == u) b s.members mb)) t;
}
