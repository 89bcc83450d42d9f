-- The groups of a state.
use Rattle.std.proofs.Common.{◌≡◌, ℕ, ◌≤◌, ◌<◌, ◌⊎◌, ⊎_elim, min, max, List, [], ◌∷◌, length, sym, ap, ◌∙◌, subst, arith, slice_index, Contains}
use Rattle.std.proofs.lemmas.Bool.{cases_eq}
use Rattle.std.proofs.lemmas.List.Elements.{All-contains}
use Rattle.clu_partition.specs.Closed.{Closed, IsClosed}
use Rattle.clu_state.specs.State.{State, IsState, AreMembers, group_weight, merged, groups_after, leader, CanDecideAll, decided}
use Rattle.clu_state.specs.Rebuilt.{Leads}
use Rattle.clu_state.specs.declared.decision.Decision.{Decision}
use Rattle.clu_state.specs.declared.decision.Decision.TheVariants.{Together, Apart}
use Rattle.clu_partition.specs.Groups.{between}
use Rattle.clu_partition.specs.Pairs.{weight_of}
pub use Rattle.clu_partition.proofs.TieLaws.{merged_high, merged_other}

-- a map from members to the least members of their groups
pub record Groups (group : ℕ → ℕ) (members : List ℕ) : Type 0 where
  pub into : (v : ℕ) → Contains members v → Contains members (group v)
  pub idem : (v : ℕ) → Contains members v → group (group v) ≡ group v
  pub low : (v : ℕ) → Contains members v → group v ≤ v

pub min_either : (P : ℕ → Type 0) (a b : ℕ) → P a → P b → P (min a b)
min_either P a b p q = ⊎_elim (λ l. subst P l p) (λ l. subst P l q) (which a b)
  where
    which : (a b : ℕ) → (a ≡ min a b) ⊎ (b ≡ min a b)
    which a b = grind arith

pub max_either : (P : ℕ → Type 0) (a b : ℕ) → P a → P b → P (max a b)
max_either P a b p q = ⊎_elim (λ l. subst P l p) (λ l. subst P l q) (which a b)
  where
    which : (a b : ℕ) → (a ≡ max a b) ⊎ (b ≡ max a b)
    which a b = grind arith

pub merged_groups : (group : ℕ → ℕ) (u v : ℕ) (members : List ℕ) → Contains members u → Contains members v → Groups group members → Groups (merged group u v) members
merged_groups group u v members cu cv g = record {
  into = λ x c. ⊎_elim
      (λ e. subst (Contains members) (sym (merged_high group u v x e)) (min_either (Contains members) (group u) (group v) (g.into u cu) (g.into v cv)))
      (λ n. subst (Contains members) (sym (merged_other group u v x n)) (g.into x c))
      (cases_eq (group x) (max (group u) (group v)));
  idem = λ x c. ⊎_elim
      (λ e. ap (merged group u v) (merged_high group u v x e) ∙ low_stays (min_either (λ m. group m ≡ m) (group u) (group v) (g.idem u cu) (g.idem v cv)) ∙ sym (merged_high group u v x e))
      (λ n. ap (merged group u v) (merged_other group u v x n) ∙ merged_other group u v (group x) (λ e. n (sym (g.idem x c) ∙ e)) ∙ g.idem x c ∙ sym (merged_other group u v x n))
      (cases_eq (group x) (max (group u) (group v)));
  low = λ x c. ⊎_elim
      (λ e. let h = merged_high group u v x e in let l = g.low x c in omega (arith, h, l, e))
      (λ n. let h = merged_other group u v x n in let l = g.low x c in omega (arith, h, l))
      (cases_eq (group x) (max (group u) (group v)));
}
  where
    low_stays : group (min (group u) (group v)) ≡ min (group u) (group v) → merged group u v (min (group u) (group v)) ≡ min (group u) (group v)
    low_stays e = ⊎_elim
        (λ h. merged_high group u v (min (group u) (group v)) h)
        (λ n. merged_other group u v (min (group u) (group v)) n ∙ e)
        (cases_eq (group (min (group u) (group v))) (max (group u) (group v)))

pub start_groups : (start : Closed) (members : List ℕ) → IsClosed start → AreMembers start members → Groups (slice_index start.group) members
start_groups start members c m = record {
  into = λ v h. All-contains (λ x. Contains members (slice_index start.group x)) members v m.whole h;
  idem = λ v h. c.least v (All-contains (λ x. x < length start.group) members v m.below h);
  low = λ v h. c.below v (All-contains (λ x. x < length start.group) members v m.below h);
}

-- the decisions' pairs are of members
unfoldable pub AllMembers : List ℕ → List Decision → Type 0
AllMembers members [] = Unit {0}
AllMembers members (Together u v ∷ ds) = (Contains members u × Contains members v) × AllMembers members ds
AllMembers members (Apart u v ∷ ds) = (Contains members u × Contains members v) × AllMembers members ds

pub made_members : (s : State) (ds : List Decision) → CanDecideAll s ds → AllMembers s.members ds
unfolding AllMembers
made_members s [] m = tt
made_members s (Together u v ∷ ds) m = ((m.0.first, m.0.second), made_members (decided s (Together u v)) ds m.1)
made_members s (Apart u v ∷ ds) m = ((m.0.first, m.0.second), made_members (decided s (Apart u v)) ds m.1)

groups_kept : (group : ℕ → ℕ) (members : List ℕ) (ds : List Decision) → AllMembers members ds → Groups group members → Groups (groups_after group ds) members
unfolding AllMembers
groups_kept group members [] a g = g
groups_kept group members (Together u v ∷ ds) a g = groups_kept (merged group u v) members ds a.1 (merged_groups group u v members a.0.0 a.0.1 g)
groups_kept group members (Apart u v ∷ ds) a g = groups_kept group members ds a.1 g

pub state_groups : (s : State) → IsState s → Groups (leader s) s.members
state_groups s i = groups_kept (slice_index s.start.group) s.members s.decisions (made_members (record s { decisions = [] }) s.decisions i.made) (start_groups s.start s.members i.closed i.members)

pub leader_below : (s : State) (v : ℕ) → IsState s → Contains s.members v → leader s v < length s.start.group
leader_below s v i c = All-contains (λ x. x < length s.start.group) s.members (leader s v) i.members.below ((state_groups s i).into v c)

pub leader_leads : (s : State) (v : ℕ) → IsState s → Contains s.members v → Leads s (leader s v)
leader_leads s v i c = record { member = (state_groups s i).into v c; least = (state_groups s i).idem v c }

-- the weight of two groups that their least vertices name
pub lead_weight : (s : State) (a b : ℕ) → leader s a ≡ a → leader s b ≡ b → group_weight s a b ≡ between (weight_of s.pairs) (leader s) s.members a b
lead_weight s a b p q = ap (λ k. between (weight_of s.pairs) (leader s) s.members k (leader s b)) p ∙ ap (λ k. between (weight_of s.pairs) (leader s) s.members a k) q
