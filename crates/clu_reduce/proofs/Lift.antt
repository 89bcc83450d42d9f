-- A partition of the groups that joins no apart pair, spread over the members, is one of the state's class.
use Rattle.std.proofs.Common.{◌≡◌, ℕ, ◌+ℤ◌, ◌<◌, ◌≢◌, ⊎_elim, List, [], ◌∷◌, length, slice_index, Contains, refl, sym, ap, ◌∙◌, subst, arith, ◌==◌}
use Rattle.std.proofs.lemmas.List.Elements.{All-contains, Contains-append_left, Contains-append_right}
use Rattle.clu_partition.specs.Pairs.{weight_of}
use Rattle.clu_partition.specs.Sums.{only_if}
use Rattle.clu_partition.specs.Values.{value_on}
use Rattle.clu_partition.specs.Groups.{between}
use Rattle.clu_partition.proofs.SumLaws.{pair_cong_on}
use Rattle.clu_partition.proofs.Regroup.{value_split, leaders_lead}
use Rattle.clu_partition.proofs.StartLaws.{all_from}
use Rattle.clu_partition.proofs.TableLaws.{weight_sym}
use Rattle.clu_partition.proofs.JoinLaws.{front_or_rest, joins_listed, joins_same}
use Rattle.clu_state.specs.State.{State, IsState, InClass, ObeysDecision, leader, are_apart, kept_apart, apart_decisions, group_leaders, group_weight}
use Rattle.clu_state.specs.declared.decision.Decision.{Decision}
use Rattle.clu_state.specs.declared.decision.Decision.TheVariants.{Together, Apart}
use Rattle.clu_state.proofs.GroupLaws.{state_groups, AllMembers, made_members, lead_weight}
use Rattle.clu_state.proofs.Bridge.{state_are_groups, each_from, leader_among}
use Rattle.clu_state.proofs.ChainLaws.{joined_equal, stays_equal}
use Rattle.clu_state.proofs.Class.{class_respects}
use Rattle.clu_state.proofs.Best.{worth}
use Rattle.clu_state.proofs.Settling.{class_value}
use Rattle.clu_reduce.proofs.Exchange.{Legal}

-- the partition that gives each member its group's label
abbrev pub spread : State → (ℕ → ℕ) → ℕ → ℕ
spread s label x = label (leader s x)

-- ---- an apart decision is listed, and is of members
listed_apart : (ds : List Decision) (u v : ℕ) → Contains ds (Apart u v) → Contains (apart_decisions ds) (u, v)
listed_apart [] u v c = absurd (omega (arith, c.1))
listed_apart (Together a b ∷ ds) u v c = ⊎_elim (λ (e : Together a b ≡ Apart u v). absurd (cc)) (λ r. listed_apart ds u v r)
    (front_or_rest (Together a b) ds (Apart u v) c)
listed_apart (Apart a b ∷ ds) u v c = ⊎_elim
    (λ (e : Apart a b ≡ Apart u v).
    let p : a ≡ u = cc in
    let q : b ≡ v = cc in
    subst (λ x. Contains ((a, b) ∷ apart_decisions ds) (x, v)) p (subst (λ y. Contains ((a, b) ∷ apart_decisions ds) (a, y)) q (0, omega arith, refl)))
    (λ r. Contains-append_right ((a, b) ∷ []) (apart_decisions ds) (u, v) (listed_apart ds u v r))
    (front_or_rest (Apart a b) ds (Apart u v) c)

members_apart : (ms : List ℕ) (ds : List Decision) (u v : ℕ) → AllMembers ms ds → Contains ds (Apart u v) → Contains ms u × Contains ms v
unfolding AllMembers
members_apart ms [] u v a c = absurd (omega (arith, c.1))
members_apart ms (Together x y ∷ ds) u v a c = ⊎_elim (λ (e : Together x y ≡ Apart u v). absurd (cc)) (λ r. members_apart ms ds u v a.1 r)
    (front_or_rest (Together x y) ds (Apart u v) c)
members_apart ms (Apart x y ∷ ds) u v a c = ⊎_elim
    (λ (e : Apart x y ≡ Apart u v).
    let p : x ≡ u = cc in
    let q : y ≡ v = cc in
    (subst (Contains ms) p a.0.0, subst (Contains ms) q a.0.1))
    (λ r. members_apart ms ds u v a.1 r)
    (front_or_rest (Apart x y) ds (Apart u v) c)

-- ---- from the groups to the class
apart_labels : (s : State) → IsState s → (label : ℕ → ℕ) → Legal (are_apart s) (group_leaders s) label → (a b : ℕ) →
    Contains s.members a → Contains s.members b → Contains (kept_apart s) (a, b) → spread s label a ≢ spread s label b
apart_labels s i label l a b ca cb c =
    let g = state_groups s i in
    l.parts (leader s a) (leader s b) (leader_among s i a ca) (leader_among s i b cb)
    (joins_same (leader s) (kept_apart s) (leader s a) (leader s b) a b (g.idem a ca) (g.idem b cb)
    ∙ joins_listed (leader s) (kept_apart s) (a, b) c)

pub lifted : (s : State) → IsState s → (label : ℕ → ℕ) → Legal (are_apart s) (group_leaders s) label → InClass s (spread s label)
lifted s i label l = record {
  required = all_from (λ v. spread s label (slice_index s.start.group v) ≡ spread s label v) s.members (λ v c.
      ap label (stays_equal s.decisions (slice_index s.start.group) (slice_index s.start.group v) v
      (i.closed.least v (All-contains (λ x. x < length s.start.group) s.members v i.members.below c))));
  forbidden = all_from (λ p. Contains s.members p.0 → Contains s.members p.1 → spread s label p.0 ≢ spread s label p.1) s.start.forbidden
      (λ p c ca cb. apart_labels s i label l p.0 p.1 ca cb (Contains-append_left s.start.forbidden (apart_decisions s.decisions) p c));
  decisions = all_from (ObeysDecision (spread s label)) s.decisions obeys;
}
  where
    obeys : (d : Decision) → Contains s.decisions d → ObeysDecision (spread s label) d
    obeys (Together u v) c = ap label (joined_equal s.decisions (slice_index s.start.group) u v c)
    obeys (Apart u v) c =
        let m = members_apart s.members s.decisions u v (made_members (record s { decisions = [] }) s.decisions i.made) c in
        apart_labels s i label l u v m.0 m.1
        (Contains-append_right s.start.forbidden (apart_decisions s.decisions) (u, v) (listed_apart s.decisions u v c))

-- and back
pub legal_of : (s : State) (label : ℕ → ℕ) → IsState s → InClass s label → Legal (are_apart s) (group_leaders s) label
legal_of s label i c = record { parts = (class_respects s label i c).parts }

-- ---- the values
-- a value on the groups, by the weights of groups
by_weights : (s : State) (label : ℕ → ℕ) →
    value_on (between (weight_of s.pairs) (leader s) s.members) label (group_leaders s) ≡ value_on (group_weight s) label (group_leaders s)
by_weights s label =
    pair_cong_on (λ a b. only_if (label a == label b) (between (weight_of s.pairs) (leader s) s.members a b))
    (λ a b. only_if (label a == label b) (group_weight s a b))
    (λ a. leader s a ≡ a) (group_leaders s) (leaders_lead (leader s) s.members)
    (λ a b p q. ap (only_if (label a == label b)) (sym (lead_weight s a b p q)))

pub class_worth : (s : State) → IsState s → (label : ℕ → ℕ) → InClass s label →
    worth s label ≡ value_on (weight_of s.pairs) (leader s) s.members +ℤ value_on (group_weight s) label (group_leaders s)
class_worth s i label c = class_value s i label c ∙ ap (λ z. value_on (weight_of s.pairs) (leader s) s.members +ℤ z) (by_weights s label)

pub spread_value : (s : State) → IsState s → (label : ℕ → ℕ) →
    worth s (spread s label) ≡ value_on (weight_of s.pairs) (leader s) s.members +ℤ value_on (group_weight s) label (group_leaders s)
spread_value s i label =
    value_split (weight_of s.pairs) (weight_sym s.pairs) (spread s label) (leader s) s.members (state_are_groups s i)
    (each_from (λ u. spread s label (leader s u) ≡ spread s label u) s.members (λ u c. ap label ((state_groups s i).idem u c)))
    ∙ ap (λ z. value_on (weight_of s.pairs) (leader s) s.members +ℤ z)
    (pair_cong_on (λ a b. only_if (spread s label a == spread s label b) (between (weight_of s.pairs) (leader s) s.members a b))
    (λ a b. only_if (label a == label b) (between (weight_of s.pairs) (leader s) s.members a b))
    (λ a. leader s a ≡ a) (group_leaders s) (leaders_lead (leader s) s.members)
    (λ a b p q. ap (λ k. only_if (label k == spread s label b) (between (weight_of s.pairs) (leader s) s.members a b)) p
    ∙ ap (λ k. only_if (label a == label k) (between (weight_of s.pairs) (leader s) s.members a b)) q)
    ∙ by_weights s label)
