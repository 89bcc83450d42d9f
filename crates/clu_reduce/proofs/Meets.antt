-- What is asked of the third groups, member by member.
use Rattle.std.proofs.Common.{◌≡◌, ◌≢◌, ⊎_elim, ℕ, ◌<◌, ◌+◌, ℤ, pos, ◌-ℤ◌, ◌≤ℤ◌, ◌<ℤ◌, List, length, get_or, Bool, true, false, not, ◌==◌, ◌||◌, IsTrue, All, Contains, refl, sym, ap, ◌∙◌, subst, arith}
use Rattle.std.proofs.lemmas.Int.{ints}
use Rattle.std.proofs.lemmas.Bool.{cases_eq, false≢true, ne_eqb, eq-eqb}
use Rattle.std.proofs.lemmas.List.{get_or_default}
use Rattle.std.proofs.lemmas.List.Elements.{All-contains}
use Rattle.clu_partition.specs.Sums.{total}
use Rattle.clu_partition.proofs.Regroup.{among_filter, each_passes, leaders_lead}
use Rattle.clu_partition.proofs.StartLaws.{all_from}
use Rattle.clu_state.specs.State.{State, leader, are_apart, group_weight, group_leaders}
use Rattle.clu_state.proofs.Bridge.{contains_from, among_from, each_here}
use Rattle.clu_state.proofs.Class.{among_filtered}
use Rattle.clu_reduce.specs.Conditions.{is_other, others, stake, gain, AreTwins, IsHeavy, IsLight}
use Rattle.clu_reduce.specs.Tests.{IsThird, AreTwinsAt, IsApartToo}

-- ---- one more of a list
pub all_more : (P : ℕ → Type 0) (xs : List ℕ) (i x : ℕ) → i < length xs → x ≡ get_or xs i x → ((k d : ℕ) → k < i → P (get_or xs k d)) → P x →
    (k d : ℕ) → k < i + 1 → P (get_or xs k d)
all_more P xs i x l e h p k d m = ⊎_elim
    (λ f. subst (λ j. P (get_or xs j d)) (sym f) (subst P (e ∙ get_or_default xs i x d l) p))
    (λ n. h k d (omega (arith, m, n)))
    (cases_eq k i)

-- ---- the third groups
parts_of_other : (a b x : ℕ) → is_other a b x ≡ true → (x ≢ a) × (x ≢ b)
parts_of_other a b x t = (
  λ e. false≢true (sym (ap (λ k. not (k || x == b)) (eq-eqb x a e)) ∙ t),
  λ e. false≢true (sym (second (x == a) (eq-eqb x b e)) ∙ t),
)
  where
    second : (k : Bool) → (x == b) ≡ true → not (k || x == b) ≡ false
    second true e = refl
    second false e = ap not e

pub third_of : (s : State) (a b x : ℕ) → Contains (others (group_leaders s) a b) x → Contains s.members x × IsThird s a b x
third_of s a b x c =
    let m = among_from (others (group_leaders s) a b) x c in
    let o = parts_of_other a b x (each_here (λ y. is_other a b y ≡ true) x (others (group_leaders s) a b) (each_passes (is_other a b) (group_leaders s)) m) in
    let n = among_filtered (is_other a b) x (group_leaders s) m in (
      contains_from s.members x (among_filtered (λ u. leader s u == u) x s.members n),
      record { least = each_here (λ y. leader s y ≡ y) x (group_leaders s) (leaders_lead (leader s) s.members) n; first = o.0; second = o.1 },
    )

pub of_third : (s : State) (a b x : ℕ) → Contains s.members x → IsThird s a b x → Contains (others (group_leaders s) a b) x
of_third s a b x c t = contains_from (others (group_leaders s) a b) x
    (among_filter (is_other a b) x (group_leaders s) (ap (λ k. not (k || x == b)) (ne_eqb x a t.first) ∙ ap not (ne_eqb x b t.second))
    (among_filter (λ u. leader s u == u) x s.members (eq-eqb (leader s x) x t.least) (among_from s.members x c)))

pub all_others : (s : State) (a b : ℕ) (P : ℕ → Type 0) → All (λ x. IsThird s a b x → P x) s.members → All P (others (group_leaders s) a b)
all_others s a b P h = all_from P (others (group_leaders s) a b) (λ x c.
    let t = third_of s a b x c in
    All-contains (λ x. IsThird s a b x → P x) s.members x h t.0 t.1)

pub all_thirds : (s : State) (a b : ℕ) (P : ℕ → Type 0) → All P (others (group_leaders s) a b) → All (λ x. IsThird s a b x → P x) s.members
all_thirds s a b P h = all_from (λ x. IsThird s a b x → P x) s.members (λ x c t. All-contains P (others (group_leaders s) a b) x h (of_third s a b x c t))

-- ---- the conditions
pub twins : (s : State) (a b : ℕ) (found : Bool) → pos 0 ≤ℤ group_weight s a b →
    (IsTrue found → All (λ x. IsThird s a b x → AreTwinsAt s a b x) s.members) × (All (λ x. IsThird s a b x → AreTwinsAt s a b x) s.members → IsTrue found) →
    (IsTrue found → AreTwins (group_weight s) (are_apart s) (group_leaders s) a b) × (AreTwins (group_weight s) (are_apart s) (group_leaders s) a b → IsTrue found)
twins s a b found l h = (
  λ t. (let k = all_others s a b (AreTwinsAt s a b) (h.0 t) in record {
    lossless = l;
    partners = λ i d m. (k i d m).partners;
    weights = λ i d m. (k i d m).weights;
  }),
  λ t. h.1 (all_thirds s a b (AreTwinsAt s a b) (λ i d m. record { partners = t.partners i d m; weights = t.weights i d m })),
)

pub heavy : (s : State) (a b : ℕ) (found : Bool) → total (stake (group_weight s) (are_apart s) a) (others (group_leaders s) a b) ≤ℤ group_weight s a b →
    (IsTrue found → All (λ x. IsThird s a b x → IsApartToo s a b x) s.members) × (All (λ x. IsThird s a b x → IsApartToo s a b x) s.members → IsTrue found) →
    (IsTrue found → IsHeavy (group_weight s) (are_apart s) (group_leaders s) a b) × (IsHeavy (group_weight s) (are_apart s) (group_leaders s) a b → IsTrue found)
heavy s a b found l h = (
  λ t. record { partners = all_others s a b (IsApartToo s a b) (h.0 t); enough = l },
  λ t. h.1 (all_thirds s a b (IsApartToo s a b) t.partners),
)

pub light : (s : State) (a b : ℕ) (w room : ℤ) (found : Bool) → w ≡ group_weight s a b → w <ℤ pos 0 → room ≡ pos 0 -ℤ w →
    (IsTrue found → total (gain (group_weight s) (are_apart s) a) (others (group_leaders s) a b) ≤ℤ room)
    × (total (gain (group_weight s) (are_apart s) a) (others (group_leaders s) a b) ≤ℤ room → IsTrue found) →
    (IsTrue found → IsLight (group_weight s) (are_apart s) (group_leaders s) a b) × (IsLight (group_weight s) (are_apart s) (group_leaders s) a b → IsTrue found)
light s a b w room found e l r h = (
  λ t. (let k = h.0 t in record { losing = omega (arith, ints, e, l); enough = omega (arith, ints, e, r, k) }),
  λ t. h.1 (let k = t.enough in omega (arith, ints, e, r, k)),
)
