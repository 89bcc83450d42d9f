-- A division that settles: no partition of the class is worth more than it is within the parts together.
use Rattle.std.proofs.Common.{◌≡◌, ◌≢◌, ℕ, ℤ, pos, ◌+ℤ◌, ◌≤ℤ◌, ◌+◌, ◌*◌, ◌<◌, ◌⊎◌, ⊎_elim, List, Contains, refl, ap, ◌∙◌, arith, Bool, true, false, ◌==◌, filter}
use Rattle.std.proofs.lemmas.Int.{ints}
use Rattle.std.proofs.lemmas.Bool.{eq-eqb, eqb-true, eqb-false, false≢true}
use Rattle.clu_partition.specs.Sums.{total, only_if}
use Rattle.clu_partition.specs.Pairs.{weight_of}
use Rattle.clu_partition.specs.Values.{value_on}
use Rattle.clu_partition.specs.Groups.{between}
use Rattle.clu_partition.proofs.SumLaws.{Each, Among, Rising, pair_le, pair_cong_on}
use Rattle.clu_partition.proofs.ListLaws.{each_and, each_among}
use Rattle.clu_partition.proofs.Regroup.{value_split, each_filter}
use Rattle.clu_partition.proofs.TableLaws.{weight_sym}
use Rattle.clu_partition.proofs.PartLaws.{top, top_above, both, both_same, both_test, by_part}
use Rattle.clu_state.specs.State.{State, IsState, InClass, leader, are_apart, group_leaders}
use Rattle.clu_state.proofs.Bridge.{state_are_groups, each_from}
use Rattle.clu_state.proofs.Class.{class_keeps, class_respects, Respects}
use Rattle.clu_state.proofs.Best.{worth}

-- no group is divided, and two groups of different parts are apart or weigh at most 0
pub record Settles (s : State) (part : ℕ → ℕ) : Type 0 where
  pub undivided : (v : ℕ) → Contains s.members v → part (leader s v) ≡ part v
  pub across : (a b : ℕ) → Among a (group_leaders s) → Among b (group_leaders s) → part a ≢ part b →
      (are_apart s a b ≡ true) ⊎ (between (weight_of s.pairs) (leader s) s.members a b ≤ℤ pos 0)

-- the value of a partition of the class, by the groups
pub class_value : (s : State) → IsState s → (label : ℕ → ℕ) → InClass s label →
    worth s label ≡ value_on (weight_of s.pairs) (leader s) s.members +ℤ value_on (between (weight_of s.pairs) (leader s) s.members) label
    (group_leaders s)
class_value s i label c = value_split (weight_of s.pairs) (weight_sym s.pairs) label (leader s) s.members (state_are_groups s i)
    (class_respects s label i c).keeps

-- a weight where the labels are one is at most that where labels and parts are
term : (w : ℤ) (p q e : Bool) → (p ≡ true → q ≡ false → w ≤ℤ pos 0) → (e ≡ true → (p ≡ true) × (q ≡ true)) → (p ≡ true → q ≡ true → e ≡ true) →
    only_if p w ≤ℤ only_if e w
term w true true true f g h = omega (arith, ints)
term w true true false f g h = absurd (false≢true (h refl refl))
term w true false true f g h = absurd (false≢true (g refl).1)
term w true false false f g h = let k = f refl refl in omega (arith, ints, k)
term w false q true f g h = absurd (false≢true (g refl).0)
term w false q false f g h = omega (arith, ints)

pair_point : (s : State) (part label : ℕ → ℕ) (m : ℕ) → Settles s part → Respects label (leader s) (are_apart s) s.members → (a b : ℕ) →
    Among a (group_leaders s) → Among b (group_leaders s) → label a < m → label b < m →
    only_if (label a == label b) (between (weight_of s.pairs) (leader s) s.members a b) ≤ℤ only_if (both m part label a == both m part label b)
    (between (weight_of s.pairs) (leader s) s.members a b)
pair_point s part label m t l a b ma mb la lb = term (between (weight_of s.pairs) (leader s) s.members a b) (label a == label b)
    (part a == part b) (both m part label a == both m part label b)
    (λ p q. ⊎_elim (λ k. absurd (l.parts a b ma mb k (eqb-true (label a) (label b) p))) (λ h. h) (t.across a b ma mb (eqb-false (part a) (part b) q)))
    (λ e. let r = both_same m part label a b la lb (eqb-true (both m part label a) (both m part label b) e) in
    (eq-eqb (label a) (label b) r.1, eq-eqb (part a) (part b) r.0))
    (λ p q. let x : label a ≡ label b = eqb-true (label a) (label b) p in let y : part a ≡ part b = eqb-true (part a) (part b) q in let z =
    ap (λ k. k * m) y in eq-eqb (both m part label a) (both m part label b) (omega (arith, x, z)))

pub parts_bound : (s : State) → IsState s → (part : ℕ → ℕ) (parts : List ℕ) → Rising parts → Each (λ u. Among (part u) parts) s.members →
    Settles s part → (label : ℕ → ℕ) → InClass s label →
    worth s label ≤ℤ total (λ i. value_on (weight_of s.pairs) label (filter (λ u. part u == i) s.members)) parts
parts_bound s i part parts up all t label c =
    let low : Each (λ x. label x < top label s.members) s.members = top_above label (top label s.members) s.members (omega arith) in
    let low_leaders : Each (λ x. label x < top label s.members) (group_leaders s) =
    each_filter (λ x. label x < top label s.members) (λ u. leader s u == u) s.members low in
    let one = class_value s i label c in
    let two = value_split (weight_of s.pairs) (weight_sym s.pairs) (both (top label s.members) part label) (leader s) s.members (state_are_groups s i)
    (each_from (λ u. both (top label s.members) part label (leader s u) ≡ both (top label s.members) part label u) s.members
    (λ u k. ap (λ x. x * top label s.members + label (leader s u)) (t.undivided u k)
    ∙ ap (λ x. part u * top label s.members + x) (class_keeps s label i c u k))) in
    let three = pair_le (λ a b. only_if (label a == label b) (between (weight_of s.pairs) (leader s) s.members a b))
    (λ a b. only_if (both (top label s.members) part label a == both (top label s.members) part label b)
    (between (weight_of s.pairs) (leader s) s.members a b))
    (λ a. Among a (group_leaders s) × (label a < top label s.members)) (group_leaders s)
    (each_and (λ a. Among a (group_leaders s)) (λ a. label a < top label s.members) (group_leaders s)
    (each_among (group_leaders s)) low_leaders)
    (λ a b p q. pair_point s part label (top label s.members) t (class_respects s label i c) a b p.0 q.0 p.1 q.1) in
    let four = pair_cong_on (λ u v. only_if (both (top label s.members) part label u == both (top label s.members) part label v)
    (weight_of s.pairs u v)) (λ u v. only_if (part u == part v) (only_if (label u == label v) (weight_of s.pairs u v)))
    (λ x. label x < top label s.members) s.members low (λ u v p q. both_test (top label s.members) part label u v (weight_of s.pairs u v) p q) in
    let five = by_part (λ u v. only_if (label u == label v) (weight_of s.pairs u v)) part parts s.members up all in
    omega (arith, ints, one, two, three, four, five)
