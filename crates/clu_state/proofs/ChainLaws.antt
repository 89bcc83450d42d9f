-- Two vertices are tied exactly where they have one least vertex.
use Rattle.std.proofs.Common.{zero, suc, slice_index_or, if◌then◌else◌, ◌==◌, ◌≡◌, ℕ, ◌<◌, ⊎_elim, min, max, List, [], ◌∷◌, length, slice_index, Contains, refl, sym, ap, ◌∙◌, subst, arith}
use Rattle.std.proofs.lemmas.List.Elements.{All-contains, Contains-append_right, Contains-append_cases}
use Rattle.clu_state.specs.State.{State, IsState, merged, groups_after, leader}
use Rattle.clu_state.specs.Chains.{Chained, same, required, joined, back, chain, IsLeastChained}
use Rattle.clu_state.specs.declared.decision.Decision.{Decision}
use Rattle.clu_state.specs.declared.decision.Decision.TheVariants.{Together, Apart}
use Rattle.clu_state.proofs.GroupLaws.{state_groups, AllMembers, made_members}
use Rattle.clu_state.proofs.Class.{same_group_member}
use Rattle.clu_partition.proofs.TieLaws.{merged_equal, merged_ties}

-- ---- a vertex is tied to its least vertex
tied_after : (s : State) (ds : List Decision) (group : ℕ → ℕ) → ((d : Decision) → Contains ds d → Contains s.decisions d) → AllMembers s.members ds → ((v : ℕ) → Contains s.members v → v < length s.start.group) →
    ((x : ℕ) → x < length s.start.group → Chained s (group x) x) → (x : ℕ) → x < length s.start.group → Chained s (groups_after group ds x) x
unfolding AllMembers
tied_after s [] group sub a below f x lx = f x lx
tied_after s (Together u v ∷ ds) group sub a below f x lx =
    tied_after s ds (merged group u v) (λ d c. sub d (Contains-append_right (Together u v ∷ []) ds d c)) a.1 below
    (merged_ties (Chained s) (λ _ _. back) (λ _ _ _. chain) (length s.start.group) group u v (joined (sub (Together u v) (0, omega arith, refl))) f (below u a.0.0) (below v a.0.1)) x lx
tied_after s (Apart u v ∷ ds) group sub a below f x lx =
    tied_after s ds group (λ d c. sub d (Contains-append_right (Apart u v ∷ []) ds d c)) a.1 below f x lx

pub leader_tied : (s : State) → IsState s → (x : ℕ) → x < length s.start.group → Chained s (leader s x) x
leader_tied s i x l = tied_after s s.decisions (slice_index s.start.group) (λ d c. c) (made_members (record s { decisions = [] }) s.decisions i.made)
    (λ v c. All-contains (λ x. x < length s.start.group) s.members v i.members.below c) (λ y k. required k) x l

-- ---- tied vertices have one least vertex
-- equal groups stay equal
pub stays_equal : (ds : List Decision) (group : ℕ → ℕ) (x y : ℕ) → group x ≡ group y → groups_after group ds x ≡ groups_after group ds y
stays_equal [] group x y e = e
stays_equal (Together u v ∷ ds) group x y e = stays_equal ds (merged group u v) x y (ap (λ k. if k == max (group u) (group v) then min (group u) (group v) else k) e)
stays_equal (Apart u v ∷ ds) group x y e = stays_equal ds group x y e

one_is : (x d : Decision) (k : ℕ) → k < 1 → slice_index_or (x ∷ []) k d ≡ d → x ≡ d
one_is x d zero l e = e
one_is x d (suc k) l e = absurd (omega arith)

pub joined_equal : (ds : List Decision) (group : ℕ → ℕ) (u v : ℕ) → Contains ds (Together u v) → groups_after group ds u ≡ groups_after group ds v
joined_equal [] group u v c = absurd (omega (arith, c.1))
joined_equal (Together a b ∷ ds) group u v c = ⊎_elim
    (λ h. let e : Together a b ≡ Together u v = one_is (Together a b) (Together u v) h.0 h.1 h.2 in
    let p : a ≡ u = cc in
    let q : b ≡ v = cc in
    stays_equal ds (merged group a b) u v (subst (λ k. merged group a b k ≡ merged group a b v) p (subst (λ k. merged group a b a ≡ merged group a b k) q (merged_equal group a b))))
    (λ r. joined_equal ds (merged group a b) u v r)
    (Contains-append_cases (Together a b ∷ []) ds (Together u v) c)
joined_equal (Apart a b ∷ ds) group u v c = ⊎_elim
    (λ h. let e : Apart a b ≡ Together u v = one_is (Apart a b) (Together u v) h.0 h.1 h.2 in absurd (cc))
    (λ r. joined_equal ds group u v r)
    (Contains-append_cases (Apart a b ∷ []) ds (Together u v) c)

pub tied_equal : (s : State) → IsState s → {x y : ℕ} → Chained s x y → leader s x ≡ leader s y
tied_equal s i same = refl
tied_equal s i (required {v} l) = stays_equal s.decisions (slice_index s.start.group) (slice_index s.start.group v) v (i.closed.least v l)
tied_equal s i (joined {u} {v} c) = joined_equal s.decisions (slice_index s.start.group) u v c
tied_equal s i (back t) = sym (tied_equal s i t)
tied_equal s i (chain t r) = tied_equal s i t ∙ tied_equal s i r

-- its least vertex is the least that is tied to a member
pub least_tied : (s : State) → IsState s → (v : ℕ) → Contains s.members v → IsLeastChained s v (leader s v)
least_tied s i v c = record {
  tied = leader_tied s i v below;
  least = λ u l t.
      let e : leader s u ≡ leader s v = tied_equal s i t in
      let k = (state_groups s i).low u (same_group_member s i u v l c e) in
      omega (arith, e, k);
}
  where
    below : v < length s.start.group
    below = All-contains (λ x. x < length s.start.group) s.members v i.members.below c
