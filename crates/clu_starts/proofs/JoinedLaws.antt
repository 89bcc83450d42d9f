-- Putting groups together: what stays, and why it ends.
use Rattle.std.proofs.Common.{◌≡◌, ⊎_elim, ℕ, ℤ, pos, ◌<◌, ◌≤◌, ◌+ℤ◌, ◌-ℤ◌, ◌≤ℤ◌, ◌^◌, min, max, List, [], ◌∷◌, ◌++◌, All, Contains, length, unsigned_abs, refl, sym, ap, ◌∙◌, subst, arith}
use Rattle.std.proofs.lemmas.Int.{ints}
use Rattle.std.proofs.lemmas.Bool.{cases_lt}
use Rattle.std.proofs.lemmas.List.Elements.{All-contains, Contains-append_left, Contains-get_or}
use Rattle.clu_partition.specs.Pairs.{weight_of}
use Rattle.clu_partition.specs.Values.{value_on}
use Rattle.clu_partition.specs.Groups.{between}
use Rattle.clu_partition.proofs.Regroup.{between_sym}
use Rattle.clu_partition.proofs.TableLaws.{weight_sym}
use Rattle.clu_state.specs.State.{State, IsState, IsFree, InClass, ObeysDecision, leader, decided, fixed_value, group_weight}
use Rattle.clu_state.specs.declared.decision.Decision.{Decision}
use Rattle.clu_state.specs.declared.decision.Decision.TheVariants.{Together}
use Rattle.clu_state.proofs.Bounds.{fixed_size}
use Rattle.clu_state.proofs.Joined.{decided_state, leader_together, new_fixed, two_of}
use Rattle.std.proofs.Common.{◌==◌}
use Rattle.clu_state.proofs.Bridge.{state_are_groups}
use Rattle.clu_starts.specs.Joined.{AreHints, Gains, IsFurther, NoneGains}
use Rattle.std.proofs.Common.{◌+◌, get_or, map}
use Rattle.std.proofs.lemmas.List.{get_or_default, length-map}
use Rattle.std.proofs.lemmas.List.Elements.{All-filter}
use Rattle.clu_partition.proofs.ListLaws.{few_rising}
use Rattle.clu_partition.proofs.Regroup.{leaders_rising, each_filter}
use Rattle.clu_state.specs.State.{free_pairs, group_leaders}
use Rattle.clu_state.proofs.Bridge.{below_all, rising_from_index}

-- putting two groups together adds the weight between them to that inside groups
pub fixed_together : (s : State) (u v : ℕ) → IsState s → IsFree s u v → fixed_value (decided s (Together u v)) ≡ fixed_value s +ℤ group_weight s u v
fixed_together s u v i f =
    ap (λ (h : ℕ → ℕ). value_on (weight_of s.pairs) h s.members) (leader_together s u v)
    ∙ new_fixed s (min (leader s u) (leader s v)) (max (leader s u) (leader s v)) i (two_of s u v i f)
    ∙ ap (λ z. fixed_value s +ℤ z) (either (leader s u) (leader s v))
  where
    either : (a b : ℕ) → between (weight_of s.pairs) (leader s) s.members (min a b) (max a b) ≡ between (weight_of s.pairs) (leader s) s.members a b
    either a b = ⊎_elim
        (λ l. let p : min a b ≡ a = omega arith in let q : max a b ≡ b = omega arith in
        ap (λ k. between (weight_of s.pairs) (leader s) s.members k (max a b)) p ∙ ap (between (weight_of s.pairs) (leader s) s.members a) q)
        (λ l. let p : min a b ≡ b = omega arith in let q : max a b ≡ a = omega arith in
        ap (λ k. between (weight_of s.pairs) (leader s) s.members k (max a b)) p ∙ ap (between (weight_of s.pairs) (leader s) s.members b) q
        ∙ between_sym (weight_of s.pairs) (weight_sym s.pairs) (leader s) s.members b a)
        (cases_lt a b)

-- how much the groups can still gain at most
abbrev pub room : State → ℕ
room s = unsigned_abs (pos (2 ^ 88) -ℤ fixed_value s)

pub room_falls : (s t : State) (u v : ℕ) → IsState s → Gains s u v → t ≡ decided s (Together u v) → room t < room s
room_falls s t u v i g e = subst (λ r. room r < room s) (sym e)
    (let a = fixed_size s i in
    let b = fixed_size (decided s (Together u v)) (decided_state s (Together u v) i g.free) in
    let k = fixed_together s u v i g.free in
    let m = g.more in
    omega (arith, ints, a, b, k, m))

pub further_same : (s : State) → IsState s → IsFurther s s
further_same s i = record { pairs = refl; start = refl; members = refl; valid = i; class = λ label c. c; no_less = omega (arith, ints) }

fewer : (s : State) (d : Decision) (label : ℕ → ℕ) → InClass (decided s d) label → InClass s label
fewer s d label c = record {
  required = c.required;
  forbidden = c.forbidden;
  decisions = λ k e l. All-contains (ObeysDecision label) (s.decisions ++ d ∷ []) _ c.decisions (Contains-append_left s.decisions (d ∷ []) _ (Contains-get_or s.decisions k e l));
}

pub further_more : (first s t : State) (u v : ℕ) → IsFurther first s → Gains s u v → t ≡ decided s (Together u v) → IsFurther first t
further_more first s t u v f g e = subst (IsFurther first) (sym e) (record {
  pairs = f.pairs;
  start = f.start;
  members = f.members;
  valid = decided_state s (Together u v) f.valid g.free;
  class = λ label c. f.class label (fewer s (Together u v) label c);
  no_less = let k = fixed_together s u v f.valid g.free in let m = g.more in let n = f.no_less in omega (arith, ints, k, m, n);
})

-- ---- pairs and groups
pub pairs_next : {A : Type 0} (f : A → ℤ) (xs : List A) (i : ℕ) (item : A) → item ≡ get_or xs i item → i < length xs → f item ≤ℤ pos 0 →
    ((k : ℕ) (d : A) → k < i → f (get_or xs k d) ≤ℤ pos 0) → (k : ℕ) (d : A) → k < i + 1 → f (get_or xs k d) ≤ℤ pos 0
pairs_next f xs i item is at low before k d l = ⊎_elim
    (λ h. before k d h)
    (λ h.
    let e : k ≡ i = omega (arith, h, l) in
    subst (λ x. f x ≤ℤ pos 0) (is ∙ get_or_default xs i item d at ∙ ap (λ j. get_or xs j d) (sym e)) low)
    (cases_lt k i)

pub joined_all : (s : State) (xs ys : List (ℕ × ℕ)) (i : ℕ) → xs ≡ ys → ys ≡ free_pairs s → length xs ≤ i →
    ((k : ℕ) (d : ℕ × ℕ) → k < i → group_weight s (get_or xs k d).0 (get_or xs k d).1 ≤ℤ pos 0) → NoneGains s
joined_all s xs ys i e f l all = record {
  none = subst (All (λ p. group_weight s p.0 p.1 ≤ℤ pos 0)) (e ∙ f) (λ k d at. all k d (omega (arith, l, at)));
}

pub leaders_members : (s : State) (groups : List ℕ) → groups ≡ group_leaders s → All (Contains s.members) groups
leaders_members s groups e = subst (All (Contains s.members)) (sym e) (All-filter (λ u. leader s u == u) (Contains s.members) s.members (λ k d l. Contains-get_or s.members k d l))

pub leaders_few : (s : State) (groups : List ℕ) → IsState s → groups ≡ group_leaders s → length groups ≤ 1000
leaders_few s groups i e =
    let h = few_rising (group_leaders s) s.pairs.n (leaders_rising (leader s) s.members (state_are_groups s i)) (each_filter (λ v. v < s.pairs.n) (λ u. leader s u == u) s.members (below_all s i)) in
    let k = ap length e in
    let m = i.small in
    omega (arith, h, k, m)

pub hints_decided : (s t : State) (d : Decision) (groups partner : List ℕ) → t ≡ decided s d → AreHints s groups partner → AreHints t groups partner
hints_decided s t d groups partner e h = subst (λ r. AreHints r groups partner) (sym e) (record { members = h.members; few = h.few; size = h.size; within = h.within })

pub hints_begun : (s : State) (groups partner : List ℕ) → IsState s → groups ≡ group_leaders s →
    length partner ≡ length groups → All (λ j. j < length groups) partner → AreHints s groups partner
hints_begun s groups partner i e size within = record {
  members = leaders_members s groups e;
  few = leaders_few s groups i e;
  size = size;
  within = within;
}

pub members_few : (s : State) → IsState s → length s.members ≤ 1000
members_few s i =
    let h = few_rising s.members s.pairs.n (rising_from_index s.members i.members.rising) (below_all s i) in
    let m = i.small in
    omega (arith, h, m)

pub labels_few : (s : State) (labels : List ℕ) → IsState s → labels ≡ map (leader s) s.members → length labels ≤ 1000
labels_few s labels i e =
    let few = members_few s i in
    let k = ap length e ∙ length-map s.members (leader s) in
    omega (arith, few, k)
