-- A step that holds decides a free pair, and keeps a best partition.
use Rattle.std.proofs.Common.{◌≡◌, ℕ, ℤ, pos, neg_ℤ, ◌+ℤ◌, ◌≤ℤ◌, ◌≢◌, List, [], ◌∷◌, Bool, true, false, not, ◌==◌, ◌||◌, Contains, ap, ◌∙◌, subst, arith}
use Rattle.std.proofs.lemmas.Int.{ints}
use Rattle.std.proofs.lemmas.Bool.{ne_eqb}
use Rattle.std.proofs.lemmas.List.Elements.{All-contains}
use Rattle.clu_partition.specs.Sums.{total, only_if}
use Rattle.clu_partition.specs.Values.{value_on}
use Rattle.clu_partition.proofs.SumLaws.{Among}
use Rattle.clu_partition.proofs.Regroup.{leaders_rising, filter_total, among_filter}
use Rattle.clu_partition.proofs.JoinLaws.{joins_same, joins_turn}
use Rattle.clu_state.specs.State.{State, IsState, InClass, ObeysDecision, IsFree, CanDecide, decided, leader, are_apart, kept_apart, group_leaders, group_weight}
use Rattle.clu_state.specs.declared.decision.Decision.{Decision}
use Rattle.clu_state.specs.declared.decision.Decision.TheVariants.{Together, Apart}
use Rattle.clu_state.proofs.GroupLaws.{state_groups}
use Rattle.clu_state.proofs.Bridge.{state_are_groups, leader_among, contains_from}
use Rattle.clu_state.proofs.Joined.{decided_state}
use Rattle.clu_state.proofs.Best.{worth, AsGood, KeepsBest, in_after}
use Rattle.clu_reduce.specs.Conditions.{is_other, others, gain, stake, AreTwins, AreInseparable, IsHeavy, IsLight}
use Rattle.clu_reduce.specs.Reduction.{Allows, StepHolds, decision_by, decision_of, KeepsWorth}
use Rattle.clu_reduce.specs.Steps.{StepsHold, stepped}
use Rattle.clu_reduce.specs.declared.step.Kind.{Kind}
use Rattle.clu_reduce.specs.declared.step.Kind.TheVariants.{Twin, Pair, Heavy, Light}
use Rattle.clu_reduce.specs.declared.step.Step.{Step}
use Rattle.clu_reduce.proofs.Exchange.{Legal, AreApart, Joins, Parts, PairHolds, TwinHolds, HeavyHolds, LightHolds, pair_joins, twin_joins, heavy_joins, light_parts}
use Rattle.clu_reduce.proofs.FreeLaws.{weight_turn}
use Rattle.clu_reduce.proofs.Lift.{spread, lifted, legal_of, class_worth, spread_value}

-- ---- the conditions, over one list
among_others : (groups : List ℕ) (u v x : ℕ) → Among x groups → x ≢ u → x ≢ v → Contains (others groups u v) x
among_others groups u v x m n k = contains_from (others groups u v) x
    (among_filter (is_other u v) x groups (ap (λ a. not (a || x == v)) (ne_eqb x u n) ∙ ap not (ne_eqb x v k)) m)

twin_holds : (w : ℕ → ℕ → ℤ) (apart : ℕ → ℕ → Bool) (groups : List ℕ) (u v : ℕ) → AreTwins w apart groups u v → TwinHolds w apart groups u v
twin_holds w apart groups u v h = record {
  not_negative = h.lossless;
  same_partners = λ x m n k. All-contains (λ x. apart u x ≡ apart v x) (others groups u v) x h.partners (among_others groups u v x m n k);
  same_weights = λ x m n k. All-contains (λ x. apart u x ≡ false → w u x ≡ w v x) (others groups u v) x h.weights (among_others groups u v x m n k);
}

pair_holds : (w : ℕ → ℕ → ℤ) (apart : ℕ → ℕ → Bool) (groups : List ℕ) (u v : ℕ) → AreInseparable w apart groups u v → PairHolds w apart groups u v
pair_holds w apart groups u v h = record {
  enough = subst (λ z. z ≤ℤ w u v)
      (filter_total (λ x. gain w apart u x +ℤ gain w apart v x) (is_other u v) groups) h.enough;
}

heavy_holds : (w : ℕ → ℕ → ℤ) (apart : ℕ → ℕ → Bool) (groups : List ℕ) (u v : ℕ) → IsHeavy w apart groups u v → HeavyHolds w apart groups u v
heavy_holds w apart groups u v h = record {
  partners = λ x m n k. All-contains (λ x. apart u x ≡ true → apart v x ≡ true) (others groups u v) x h.partners (among_others groups u v x m n k);
  enough = subst (λ z. z ≤ℤ w u v) (filter_total (stake w apart u) (is_other u v) groups) h.enough;
}

light_holds : (w : ℕ → ℕ → ℤ) (apart : ℕ → ℕ → Bool) (groups : List ℕ) (u v : ℕ) → IsLight w apart groups u v → LightHolds w apart groups u v
light_holds w apart groups u v h = record {
  enough = below (w u v) (total (λ x. only_if (is_other u v x) (gain w apart u x)) groups)
      (subst (λ z. z ≤ℤ neg_ℤ (w u v)) (filter_total (gain w apart u) (is_other u v) groups) h.enough);
}
  where
    below : (a b : ℤ) → b ≤ℤ neg_ℤ a → (a +ℤ b) ≤ℤ pos 0
    below a b l = omega (arith, ints, l)

-- ---- a state's groups
module _ (s : State) (i : IsState s) (u v : ℕ) (f : IsFree s u v) where
  apart_turned : AreApart (are_apart s)
  apart_turned = record { turned = λ a b. joins_turn (leader s) (kept_apart s) a b }

  groups_free : are_apart s (leader s u) (leader s v) ≡ false
  groups_free = let g = state_groups s i in
      joins_same (leader s) (kept_apart s) (leader s u) (leader s v) u v (g.idem u f.first) (g.idem v f.second) ∙ f.allowed

  -- from the groups to the class
  spread_keeps : (d : Decision) (label : ℕ → ℕ) → InClass s label → (better : ℕ → ℕ) → Legal (are_apart s) (group_leaders s) better →
      ObeysDecision (spread s better) d → value_on (group_weight s) label (group_leaders s) ≤ℤ value_on (group_weight s) better (group_leaders s) →
      AsGood (decided s d) (worth s label)
  spread_keeps d label c better legal obeys worth =
      let a = class_worth s i label c in
      let b = spread_value s i better in
      record {
        label = spread s better;
        class' = in_after s d (spread s better) (lifted s i better legal) obeys;
        better = omega (arith, ints, a, b, worth);
      }

  joins_keep : ((label : ℕ → ℕ) → Legal (are_apart s) (group_leaders s) label →
      Joins (group_weight s) (are_apart s) (group_leaders s) (leader s u) (leader s v) label) → KeepsBest s (Together u v)
  joins_keep step = record {
    after = λ label c. (let j = step label (legal_of s label i c) in spread_keeps (Together u v) label c j.better j.legal j.joined j.worth);
  }

  parts_keep : ((label : ℕ → ℕ) → Legal (are_apart s) (group_leaders s) label →
      Parts (group_weight s) (are_apart s) (group_leaders s) (leader s u) (leader s v) label) → KeepsBest s (Apart u v)
  parts_keep step = record {
    after = λ label c. (let j = step label (legal_of s label i c) in spread_keeps (Apart u v) label c j.better j.legal j.parted j.worth);
  }

  allowed_keeps : (kind : Kind) → Allows kind (group_weight s) (are_apart s) (group_leaders s) (leader s u) (leader s v) →
      KeepsBest s (decision_by kind u v)
  allowed_keeps Twin h = joins_keep (λ label l. twin_joins (group_weight s) (weight_turn s) (are_apart s) apart_turned (group_leaders s)
      (leaders_rising (leader s) s.members (state_are_groups s i)) (leader s u) (leader s v) (leader_among s i u f.first)
      (leader_among s i v f.second) f.differ groups_free
      (twin_holds (group_weight s) (are_apart s) (group_leaders s) (leader s u) (leader s v) h) label l)
  allowed_keeps Pair h = joins_keep (λ label l. pair_joins (group_weight s) (weight_turn s) (are_apart s) apart_turned (group_leaders s)
      (leaders_rising (leader s) s.members (state_are_groups s i)) (leader s u) (leader s v) (leader_among s i u f.first)
      (leader_among s i v f.second) f.differ groups_free
      (pair_holds (group_weight s) (are_apart s) (group_leaders s) (leader s u) (leader s v) h) label l)
  allowed_keeps Heavy h = joins_keep (λ label l. heavy_joins (group_weight s) (weight_turn s) (are_apart s) apart_turned (group_leaders s)
      (leaders_rising (leader s) s.members (state_are_groups s i)) (leader s u) (leader s v) (leader_among s i u f.first)
      (leader_among s i v f.second) f.differ groups_free
      (heavy_holds (group_weight s) (are_apart s) (group_leaders s) (leader s u) (leader s v) h) label l)
  allowed_keeps Light h = parts_keep (λ label l. light_parts (group_weight s) (weight_turn s) (are_apart s) apart_turned (group_leaders s)
      (leaders_rising (leader s) s.members (state_are_groups s i)) (leader s u) (leader s v) (leader_among s i u f.first)
      (leader_among s i v f.second) f.differ
      (light_holds (group_weight s) (are_apart s) (group_leaders s) (leader s u) (leader s v) h) label l)

-- ---- what a step that holds does
decides : (s : State) (kind : Kind) (u v : ℕ) → IsFree s u v → CanDecide s (decision_by kind u v)
decides s Twin u v f = f
decides s Pair u v f = f
decides s Heavy u v f = f
decides s Light u v f = f

pub held_decides : (s : State) (step : Step) → StepHolds s step → CanDecide s (decision_of step)
held_decides s step h = decides s step.kind step.u step.v h.free

pub held_keeps : (s : State) (step : Step) → IsState s → StepHolds s step → KeepsBest s (decision_of step)
held_keeps s step i h = allowed_keeps s i step.u step.v h.free step.kind h.allowed

-- ---- and so do steps one after the other
pub step_keeps : (s : State) (step : Step) → IsState s → StepHolds s step → KeepsWorth s (decided s (decision_of step))
step_keeps s step i h label c = let k = (held_keeps s step i h).after label c in (k.label, k.class', k.better)

pub steps_keep : (s : State) (steps : List Step) → IsState s → StepsHold s steps → KeepsWorth s (stepped s steps)
steps_keep s [] i h label c = (label, c, omega (arith, ints))
steps_keep s (step ∷ steps) i h label c =
    let a = step_keeps s step i h.0 label c in
    let b = steps_keep (decided s (decision_of step)) steps (decided_state s (decision_of step) i (held_decides s step h.0)) h.1 a.0 a.1 in
    let l = a.2 in
    let m = b.2 in
    (b.0, b.1, omega (arith, ints, l, m))
