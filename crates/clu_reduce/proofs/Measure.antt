-- Each decision leaves fewer open pairs of members: so there are few decisions.
use Rattle.std.proofs.Common.{◌≡◌, ℕ, ◌<◌, ⊎_elim, pos, ◌+ℤ◌, ◌≤ℤ◌, [], ◌∷◌, ◌++◌, Bool, true, false, not, ◌==◌, ◌||◌, slice_index, Contains, refl, sym, ap, ◌∙◌, subst, arith}
use Rattle.std.proofs.lemmas.Int.{ints}
use Rattle.std.proofs.lemmas.Bool.{cases_eq, eq-eqb, ne_eqb, eqb-true, or_cases, or_left, or_right, false≢true}
use Rattle.std.proofs.lemmas.List.Elements.{Contains-append_left, Contains-push}
use Rattle.clu_partition.specs.Closed.{joins}
use Rattle.clu_partition.specs.Sums.{only_if}
use Rattle.clu_partition.proofs.SumLaws.{total_le, pair_le, pair_least, only_least}
use Rattle.clu_partition.proofs.ListLaws.{every}
use Rattle.clu_partition.proofs.TakeOut.{TwoOut, two_out, out_pairs}
use Rattle.clu_partition.proofs.JoinLaws.{joins_listed, joins_same, joins_turn}
use Rattle.clu_state.specs.State.{State, IsState, IsFree, CanDecide, decided, leader, are_apart, kept_apart}
use Rattle.clu_state.specs.declared.decision.Decision.{Decision}
use Rattle.clu_state.specs.declared.decision.Decision.TheVariants.{Together, Apart}
use Rattle.clu_state.proofs.Bridge.{among_from, rising_from_index}
use Rattle.clu_state.proofs.ChainLaws.{joined_equal}
use Rattle.clu_state.proofs.Joined.{kept_together, kept_more}
use Rattle.clu_reduce.specs.Sweep.{is_shut, opening, room_of, openings}
use Rattle.clu_reduce.proofs.Restrict.{joining, stays_one}

-- ---- what is shut stays shut
kept_stays : (s : State) (d : Decision) (q : ℕ × ℕ) → Contains (kept_apart s) q → Contains (kept_apart (decided s d)) q
kept_stays s (Together u v) q c = subst (λ ps. Contains ps q) (sym (kept_together s u v)) c
kept_stays s (Apart u v) q c = subst (λ ps. Contains ps q) (sym (kept_more s u v)) (Contains-append_left (kept_apart s) ((u, v) ∷ []) q c)

apart_stays : (s : State) (d : Decision) (x y : ℕ) → are_apart s x y ≡ true → are_apart (decided s d) x y ≡ true
apart_stays s d x y t =
    let j = joining (leader s) (kept_apart s) x y t in
    let g = leader (decided s d) in
    let ps = kept_apart (decided s d) in
    let l : joins g ps j.pair.0 j.pair.1 ≡ true = joins_listed (leader (decided s d)) (kept_apart (decided s d)) j.pair (kept_stays s d j.pair j.listed) in
    ⊎_elim
    (λ h. joins_same (leader (decided s d)) (kept_apart (decided s d)) x y j.pair.0 j.pair.1
    (sym (stays_one s d j.pair.0 x h.0)) (sym (stays_one s d j.pair.1 y h.1)) ∙ l)
    (λ h. joins_same (leader (decided s d)) (kept_apart (decided s d)) x y j.pair.1 j.pair.0
    (sym (stays_one s d j.pair.1 x h.1)) (sym (stays_one s d j.pair.0 y h.0))
    ∙ joins_turn (leader (decided s d)) (kept_apart (decided s d)) j.pair.1 j.pair.0 ∙ l)
    j.joins

shut_stays : (s : State) (d : Decision) (x y : ℕ) → is_shut s x y ≡ true → is_shut (decided s d) x y ≡ true
shut_stays s d x y t = ⊎_elim
    (λ e. or_left (leader (decided s d) x == leader (decided s d) y) (are_apart (decided s d) x y)
    (eq-eqb (leader (decided s d) x) (leader (decided s d) y) (stays_one s d x y (eqb-true (leader s x) (leader s y) e))))
    (λ a. or_right (leader (decided s d) x == leader (decided s d) y) (are_apart (decided s d) x y) (apart_stays s d x y a))
    (or_cases (leader s x == leader s y) (are_apart s x y) t)

less : (a b : Bool) → (a ≡ true → b ≡ true) → only_if (not b) (pos 1) ≤ℤ only_if (not a) (pos 1)
less true true f = omega (arith, ints)
less true false f = absurd (false≢true (f refl))
less false true f = omega (arith, ints)
less false false f = omega (arith, ints)

opening_less : (s : State) (d : Decision) (x y : ℕ) → opening (decided s d) x y ≤ℤ opening s x y
opening_less s d x y = less (is_shut s x y) (is_shut (decided s d) x y) (shut_stays s d x y)

-- ---- the pair of the decision
free_open : (s : State) (u v : ℕ) → IsFree s u v → opening s u v ≡ pos 1
free_open s u v f = ap (λ (b : Bool). only_if (not (b || are_apart s u v)) (pos 1)) (ne_eqb (leader s u) (leader s v) f.differ)
    ∙ ap (λ (b : Bool). only_if (not b) (pos 1)) f.allowed

shuts : (s : State) (u v : ℕ) → is_shut s u v ≡ true → opening s u v ≡ pos 0
shuts s u v t = ap (λ (b : Bool). only_if (not b) (pos 1)) t

together_shuts : (s : State) (u v : ℕ) → opening (decided s (Together u v)) u v ≡ pos 0
together_shuts s u v = shuts (decided s (Together u v)) u v
    (or_left (leader (decided s (Together u v)) u == leader (decided s (Together u v)) v) (are_apart (decided s (Together u v)) u v)
    (eq-eqb (leader (decided s (Together u v)) u) (leader (decided s (Together u v)) v)
    (joined_equal (s.decisions ++ Together u v ∷ []) (slice_index s.start.group) u v (Contains-push s.decisions (Together u v)))))

apart_shuts : (s : State) (u v : ℕ) → opening (decided s (Apart u v)) u v ≡ pos 0
apart_shuts s u v = shuts (decided s (Apart u v)) u v
    (or_right (leader (decided s (Apart u v)) u == leader (decided s (Apart u v)) v) (are_apart (decided s (Apart u v)) u v)
    (joins_listed (leader (decided s (Apart u v))) (kept_apart (decided s (Apart u v))) (u, v)
    (subst (λ ps. Contains ps (u, v)) (sym (kept_more s u v)) (Contains-push (kept_apart s) (u, v)))))

-- ---- the sums
eq_turn : (a b : ℕ) → (a == b) ≡ (b == a)
eq_turn a b = ⊎_elim (λ e. eq-eqb a b e ∙ sym (eq-eqb b a (sym e))) (λ n. ne_eqb a b n ∙ sym (ne_eqb b a (λ e. n (sym e)))) (cases_eq a b)

opening_turn : (s : State) (x y : ℕ) → opening s x y ≡ opening s y x
opening_turn s x y = ap (λ (b : Bool). only_if (not (b || are_apart s x y)) (pos 1)) (eq_turn (leader s x) (leader s y))
    ∙ ap (λ (b : Bool). only_if (not (leader s y == leader s x || b)) (pos 1)) (joins_turn (leader s) (kept_apart s) x y)

falls_by : (s : State) (d : Decision) (u v : ℕ) → IsState s → IsFree s u v → opening (decided s d) u v ≡ pos 0 → (room_of (decided s d) +ℤ pos 1) ≤ℤ room_of s
falls_by s d u v i f shut =
    let o : TwoOut s.members u v = two_out s.members u v (rising_from_index s.members i.members.rising) (among_from s.members u f.first)
    (among_from s.members v f.second) (λ e. f.differ (ap (leader s) e)) in
    let old = out_pairs (opening s) (opening_turn s) s.members u v o in
    let new = out_pairs (opening (decided s d)) (opening_turn (decided s d)) s.members u v o in
    let a = total_le (opening (decided s d) u) (opening s u) (λ _. Unit {0}) o.rest (every o.rest) (λ x _. opening_less s d u x) in
    let b = total_le (opening (decided s d) v) (opening s v) (λ _. Unit {0}) o.rest (every o.rest) (λ x _. opening_less s d v x) in
    let c = pair_le (opening (decided s d)) (opening s) (λ _. Unit {0}) o.rest (every o.rest) (λ x y _ _. opening_less s d x y) in
    let e = free_open s u v f in
    omega (arith, ints, old, new, a, b, c, e, shut)

room_falls : (s : State) (d : Decision) → IsState s → CanDecide s d → (room_of (decided s d) +ℤ pos 1) ≤ℤ room_of s
room_falls s (Together u v) i f = falls_by s (Together u v) u v i f (together_shuts s u v)
room_falls s (Apart u v) i f = falls_by s (Apart u v) u v i f (apart_shuts s u v)

room_least : (s : State) → pos 0 ≤ℤ room_of s
room_least s = pair_least (opening s) s.members (λ x y. only_least (not (is_shut s x y)) 1)

pub openings_fall : (s : State) (d : Decision) → IsState s → CanDecide s d → openings (decided s d) < openings s
openings_fall s d i c =
    let h = room_falls s d i c in
    let k = room_least (decided s d) in
    omega (arith, ints, h, k)
