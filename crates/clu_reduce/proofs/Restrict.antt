-- A state of a part of another's members, with the decisions of it that are within the part: it has the other's groups there, and
-- a free pair of the other that is within the part is free.
use Rattle.std.proofs.Common.{◌≡◌, ℕ, ◌<◌, ◌⊎◌, inl, inr, ⊎_elim, min, max, List, [], ◌∷◌, ◌++◌, length, slice_index, true, ◌==◌, ◌&&◌, ◌||◌, if◌then◌else◌, All, Contains, refl, sym, ap, ◌∙◌, subst, arith}
use Rattle.std.proofs.lemmas.Bool.{eqb-true, or_cases, and_parts, false_from_ne_true, true≢false, false≢true}
use Rattle.std.proofs.lemmas.List.Elements.{All-contains, Contains-append_cases, Contains-append_left, Contains-append_right, Contains-push}
use Rattle.clu_partition.specs.Closed.{joins}
use Rattle.clu_partition.proofs.JoinLaws.{front_or_rest, joins_listed, joins_same, joins_turn}
use Rattle.clu_state.specs.State.{State, IsState, IsFree, CanDecide, decided, merged, leader, are_apart, kept_apart, apart_decisions}
use Rattle.clu_state.specs.declared.decision.Decision.{Decision}
use Rattle.clu_state.specs.declared.decision.Decision.TheVariants.{Together, Apart}
use Rattle.clu_state.proofs.GroupLaws.{AllMembers, made_members, merged_other, max_either}
use Rattle.clu_state.proofs.ChainLaws.{stays_equal, joined_equal}
use Rattle.clu_state.proofs.Class.{same_group_member}
use Rattle.clu_state.proofs.Joined.{groups_push, leader_apart, kept_together, kept_more, decided_state}

-- the part has each group of the state whole or not at all
pub record Undivided (s : State) (part : List ℕ) : Type 0 where
  pub whole : (u v : ℕ) → Contains part u → Contains s.members v → leader s u ≡ leader s v → Contains part v

pub record Restricts (s p : State) : Type 0 where
  pub state : IsState p
  pub members : (v : ℕ) → Contains p.members v → Contains s.members v
  pub leaders : (v : ℕ) → Contains p.members v → leader p v ≡ leader s v
  pub apart : (q : ℕ × ℕ) → Contains (kept_apart p) q → Contains (kept_apart s) q

-- ---- the pairs that are kept apart
-- where a list joins two groups, one of its pairs does
pub record Joining (group : ℕ → ℕ) (ps : List (ℕ × ℕ)) (a b : ℕ) : Type 0 where
  pub pair : ℕ × ℕ
  pub listed : Contains ps pair
  pub joins : ((group pair.0 ≡ group a) × (group pair.1 ≡ group b)) ⊎ ((group pair.0 ≡ group b) × (group pair.1 ≡ group a))

pub joining : (group : ℕ → ℕ) (ps : List (ℕ × ℕ)) (a b : ℕ) → joins group ps a b ≡ true → Joining group ps a b
joining group [] a b t = absurd (false≢true t)
joining group (p ∷ ps) a b t = ⊎_elim
    (λ h. record {
      pair = p;
      listed = (0, omega arith, refl);
      joins = ⊎_elim
          (λ k. let q = and_parts (group p.0 == group a) (group p.1 == group b) k in
          inl (eqb-true (group p.0) (group a) q.0, eqb-true (group p.1) (group b) q.1))
          (λ k. let q = and_parts (group p.0 == group b) (group p.1 == group a) k in
          inr (eqb-true (group p.0) (group b) q.0, eqb-true (group p.1) (group a) q.1))
          (or_cases (group p.0 == group a && group p.1 == group b) (group p.0 == group b && group p.1 == group a) h);
    })
    (λ r. let j = joining group ps a b r in
    record { pair = j.pair; listed = Contains-append_right (p ∷ []) ps j.pair j.listed; joins = j.joins })
    (or_cases (group p.0 == group a && group p.1 == group b || group p.0 == group b && group p.1 == group a) (joins group ps a b) t)

decided_below : (members : List ℕ) (n : ℕ) → All (λ v. v < n) members → (ds : List Decision) → AllMembers members ds → (q : ℕ × ℕ) →
    Contains (apart_decisions ds) q → (q.0 < n) × (q.1 < n)
unfolding AllMembers
decided_below members n low [] a q c = absurd (omega (arith, c.1))
decided_below members n low (Together u v ∷ ds) a q c = decided_below members n low ds a.1 q c
decided_below members n low (Apart u v ∷ ds) a q c = ⊎_elim
    (λ e. subst (λ (p : ℕ × ℕ). (p.0 < n) × (p.1 < n)) e
    (All-contains (λ x. x < n) members u low a.0.0, All-contains (λ x. x < n) members v low a.0.1))
    (λ r. decided_below members n low ds a.1 q r)
    (front_or_rest (u, v) (apart_decisions ds) q c)

kept_below : (s : State) → IsState s → (q : ℕ × ℕ) → Contains (kept_apart s) q → (q.0 < length s.start.group) × (q.1 < length s.start.group)
kept_below s i q c = ⊎_elim
    (λ k. All-contains (λ p. (p.0 < length s.start.group) × (p.1 < length s.start.group)) s.start.forbidden q i.closed.in_range k)
    (λ k. decided_below s.members (length s.start.group) i.members.below s.decisions
    (made_members (record s { decisions = [] }) s.decisions i.made) q k)
    (Contains-append_cases s.start.forbidden (apart_decisions s.decisions) q c)

-- ---- a free pair within the part
module _ (s p : State) (r : Restricts s p) (u v : ℕ) (cu : Contains p.members u) (cv : Contains p.members v) where
  apart_there : are_apart p u v ≡ true → are_apart s u v ≡ true
  apart_there t = ⊎_elim
      (λ h. joins_same (leader s) (kept_apart s) u v q.0 q.1 (sym (across q.0 u low.0 cu h.0)) (sym (across q.1 v low.1 cv h.1)) ∙ listed)
      (λ h. joins_same (leader s) (kept_apart s) u v q.1 q.0 (sym (across q.1 u low.1 cu h.1)) (sym (across q.0 v low.0 cv h.0))
      ∙ joins_turn (leader s) (kept_apart s) q.1 q.0 ∙ listed)
      j.joins
    where
      j : Joining (leader p) (kept_apart p) u v
      j = joining (leader p) (kept_apart p) u v t

      q : ℕ × ℕ
      q = j.pair

      low : (j.pair.0 < length p.start.group) × (j.pair.1 < length p.start.group)
      low = kept_below p r.state j.pair j.listed

      listed : joins (leader s) (kept_apart s) j.pair.0 j.pair.1 ≡ true
      listed = joins_listed (leader s) (kept_apart s) j.pair (r.apart j.pair j.listed)

      across : (x a : ℕ) → x < length p.start.group → Contains p.members a → leader p x ≡ leader p a → leader s x ≡ leader s a
      across x a l c e = sym (r.leaders x (same_group_member p r.state x a l c e)) ∙ e ∙ r.leaders a c

  pub free_there : IsFree s u v → IsFree p u v
  free_there f = record {
    first = cu;
    second = cv;
    differ = λ e. f.differ (sym (r.leaders u cu) ∙ e ∙ r.leaders v cv);
    allowed = false_from_ne_true (are_apart p u v) (λ t. true≢false (sym (apart_there t) ∙ f.allowed));
  }

-- ---- one more decision
leader_merged : (s : State) (u v : ℕ) → leader (decided s (Together u v)) ≡ merged (leader s) u v
leader_merged s u v = groups_push (slice_index s.start.group) s.decisions (Together u v)

merged_same : (g h : ℕ → ℕ) (u v x : ℕ) → g u ≡ h u → g v ≡ h v → g x ≡ h x → merged g u v x ≡ merged h u v x
merged_same g h u v x eu ev ex =
    ap (λ k. if g x == max k (g v) then min k (g v) else g x) eu
    ∙ ap (λ k. if g x == max (h u) k then min (h u) k else g x) ev
    ∙ ap (λ k. if k == max (h u) (h v) then min (h u) (h v) else k) ex

pub stays_one : (s : State) (d : Decision) (x y : ℕ) → leader s x ≡ leader s y → leader (decided s d) x ≡ leader (decided s d) y
stays_one s d x y e = subst (λ (h : ℕ → ℕ). h x ≡ h y) (sym (groups_push (slice_index s.start.group) s.decisions d))
    (stays_equal (d ∷ []) (leader s) x y e)

pub undivided_before : (s : State) (d : Decision) (part : List ℕ) → Undivided (decided s d) part → Undivided s part
undivided_before s d part un = record { whole = λ u v c m e. un.whole u v c m (stays_one s d u v e) }

-- both vertices are within the part
pub restricts_both : (s p : State) (d : Decision) → Restricts s p → CanDecide p d → Restricts (decided s d) (decided p d)
restricts_both s p (Together u v) r f = record {
  state = decided_state p (Together u v) r.state f;
  members = r.members;
  leaders = λ x c.
      ap (λ (h : ℕ → ℕ). h x) (leader_merged p u v)
      ∙ merged_same (leader p) (leader s) u v x (r.leaders u f.first) (r.leaders v f.second) (r.leaders x c)
      ∙ ap (λ (h : ℕ → ℕ). h x) (sym (leader_merged s u v));
  apart = λ q c. subst (λ ps. Contains ps q) (sym (kept_together s u v)) (r.apart q (subst (λ ps. Contains ps q) (kept_together p u v) c));
}
restricts_both s p (Apart u v) r f = record {
  state = decided_state p (Apart u v) r.state f;
  members = r.members;
  leaders = λ x c. ap (λ (h : ℕ → ℕ). h x) (leader_apart p u v) ∙ r.leaders x c ∙ ap (λ (h : ℕ → ℕ). h x) (sym (leader_apart s u v));
  apart = λ q c. subst (λ ps. Contains ps q) (sym (kept_more s u v)) (⊎_elim
      (λ k. Contains-append_left (kept_apart s) ((u, v) ∷ []) q (r.apart q k))
      (λ k. Contains-append_right (kept_apart s) ((u, v) ∷ []) q k)
      (Contains-append_cases (kept_apart p) ((u, v) ∷ []) q (subst (λ ps. Contains ps q) (kept_more p u v) c)));
}

-- one of them is not within the part
abbrev pub Within : List ℕ → Decision → Type 0
Within part (Together u v) = Contains part u × Contains part v
Within part (Apart u v) = Contains part u × Contains part v

pub restricts_other : (s p : State) (d : Decision) → Restricts s p → CanDecide s d → Undivided (decided s d) p.members →
    (Within p.members d → ⊥) → Restricts (decided s d) p
restricts_other s p (Together u v) r f un n = record {
  state = r.state;
  members = r.members;
  leaders = λ x c. r.leaders x c ∙ sym (merged_other (leader s) u v x (λ e. n (inside x c e))) ∙ ap (λ (h : ℕ → ℕ). h x) (sym (leader_merged s u v));
  apart = λ q c. subst (λ ps. Contains ps q) (sym (kept_together s u v)) (r.apart q c);
}
  where
    one : leader (decided s (Together u v)) u ≡ leader (decided s (Together u v)) v
    one = joined_equal (s.decisions ++ Together u v ∷ []) (slice_index s.start.group) u v (Contains-push s.decisions (Together u v))

    -- a vertex of the part in the group of one of the two has both in the part
    both : (x : ℕ) → Contains p.members x → (leader s x ≡ leader s u) ⊎ (leader s x ≡ leader s v) → Contains p.members u × Contains p.members v
    both x c h = ⊎_elim
        (λ e. let k = stays_one s (Together u v) x u e in
        (un.whole x u c f.first k, un.whole x v c f.second (k ∙ one)))
        (λ e. let k = stays_one s (Together u v) x v e in
        (un.whole x u c f.first (k ∙ sym one), un.whole x v c f.second k))
        h

    inside : (x : ℕ) → Contains p.members x → leader s x ≡ max (leader s u) (leader s v) → Contains p.members u × Contains p.members v
    inside x c e = both x c (max_either (λ m. leader s x ≡ m → (leader s x ≡ leader s u) ⊎ (leader s x ≡ leader s v))
        (leader s u) (leader s v) (λ h. inl h) (λ h. inr h) e)
restricts_other s p (Apart u v) r f un n = record {
  state = r.state;
  members = r.members;
  leaders = λ x c. r.leaders x c ∙ ap (λ (h : ℕ → ℕ). h x) (sym (leader_apart s u v));
  apart = λ q c. subst (λ ps. Contains ps q) (sym (kept_more s u v)) (Contains-append_left (kept_apart s) ((u, v) ∷ []) q (r.apart q c));
}

-- what can be decided and is within the part can be decided there
pub decided_there : (s p : State) (d : Decision) → Restricts s p → CanDecide s d → Within p.members d → CanDecide p d
decided_there s p (Together u v) r f w = free_there s p r u v w.0 w.1 f
decided_there s p (Apart u v) r f w = free_there s p r u v w.0 w.1 f
