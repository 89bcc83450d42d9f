-- Costs that are taken from a room one by one.
use Rattle.std.proofs.Common.{◌≡◌, ℕ, ◌<◌, ◌≤◌, ◌+◌, ℤ, pos, ◌+ℤ◌, ◌-ℤ◌, ◌≤ℤ◌, ◌<ℤ◌, unsigned_abs, List, length, get_or, drop, Bool, true, false, not, ◌==◌, IsTrue, refl, sym, ap, ◌∙◌, subst, arith}
use Rattle.std.proofs.lemmas.Int.{ints}
use Rattle.std.proofs.lemmas.Bool.{false≢true}
use Rattle.std.proofs.lemmas.List.{drop_all, drop_more}
use Rattle.clu_partition.specs.Sums.{total, only_if, positive}
use Rattle.clu_partition.proofs.SumLaws.{total_least, only_least}
use Rattle.clu_partition.proofs.Regroup.{filter_total}
use Rattle.clu_state.specs.State.{State, leader, are_apart, group_weight, group_leaders}
use Rattle.clu_reduce.specs.Conditions.{is_other, others, gain}
use Rattle.clu_reduce.specs.Tests.{cost_of, cost_at}
use Rattle.clu_reduce.specs.declared.step.Kind.{Kind}
use Rattle.clu_reduce.specs.declared.step.Kind.TheVariants.{Twin, Pair, Heavy, Light}

-- ---- a room
pub record IsLeft (f : ℕ → ℤ) (xs : List ℕ) (room : ℤ) (i : ℕ) (left : ℤ) : Type 0 where
  pub least : pos 0 ≤ℤ left
  pub small : left ≤ℤ room
  pub sum : left +ℤ total f xs ≡ room +ℤ total f (drop i xs)

pub next : (f : ℕ → ℤ) (xs : List ℕ) (i x : ℕ) → i < length xs → x ≡ get_or xs i x → total f (drop i xs) ≡ f x +ℤ total f (drop (i + 1) xs)
next f xs i x l e = ap (total f) (drop_more xs i x l) ∙ ap (λ y. f y +ℤ total f (drop (i + 1) xs)) (sym e)

pub left_next : (f : ℕ → ℤ) (xs : List ℕ) (room left cost now : ℤ) (i x : ℕ) → IsLeft f xs room i left → ((y : ℕ) → pos 0 ≤ℤ f y) → i < length xs →
    x ≡ get_or xs i x → cost ≡ f x → cost ≤ℤ left → now ≡ left -ℤ cost → IsLeft f xs room (i + 1) now
left_next f xs room left cost now i x h least l e c n is =
    let a = next f xs i x l e in
    let b = h.sum in
    let d = h.small in
    let k = least x in
    record { least = omega (arith, ints, n, is); small = omega (arith, ints, is, c, k, d); sum = omega (arith, ints, a, b, c, is) }

pub past_room : (f : ℕ → ℤ) (xs : List ℕ) (room left cost : ℤ) (i x : ℕ) → IsLeft f xs room i left → ((y : ℕ) → pos 0 ≤ℤ f y) → i < length xs →
    x ≡ get_or xs i x → cost ≡ f x → left <ℤ cost → total f xs ≤ℤ room → ⊥
past_room f xs room left cost i x h least l e c more fits =
    let a = next f xs i x l e in
    let b = h.sum in
    let k = total_least f (drop (i + 1) xs) least in
    omega (arith, ints, a, b, c, k, more, fits)

pub within_room : (f : ℕ → ℤ) (xs : List ℕ) (room left : ℤ) (i : ℕ) → IsLeft f xs room i left → length xs ≤ i → total f xs ≤ℤ room
within_room f xs room left i h l =
    let a = ap (total f) (drop_all i xs l) in
    let b = h.sum in
    let k = h.least in
    omega (arith, ints, a, b, k)

-- ---- costs
cost_least : (kind : Kind) (w : ℕ → ℕ → ℤ) (apart : ℕ → ℕ → Bool) (a b x : ℕ) → pos 0 ≤ℤ cost_of kind w apart a b x
cost_least Twin w apart a b x = omega (arith, ints)
cost_least Pair w apart a b x =
    let h = only_least (not (apart a x)) (positive (w a x)) in
    let k = only_least (not (apart b x)) (positive (w b x)) in
    omega (arith, ints, h, k)
cost_least Heavy w apart a b x = only_least (not (apart a x)) (unsigned_abs (w a x))
cost_least Light w apart a b x = only_least (not (apart a x)) (positive (w a x))

if_least : (b : Bool) (z : ℤ) → pos 0 ≤ℤ z → pos 0 ≤ℤ only_if b z
if_least true z l = l
if_least false z l = omega (arith, ints)

pub cost_at_least : (s : State) (kind : Kind) (a b x : ℕ) → pos 0 ≤ℤ cost_at s kind a b x
cost_at_least s kind a b x = if_least (leader s x == x) (only_if (is_other a b x) (cost_of kind (group_weight s) (are_apart s) a b x))
    (if_least (is_other a b x) (cost_of kind (group_weight s) (are_apart s) a b x) (cost_least kind (group_weight s) (are_apart s) a b x))

-- the sum over the other groups, by the members
pub costs_are : (s : State) (kind : Kind) (a b : ℕ) →
    total (cost_of kind (group_weight s) (are_apart s) a b) (others (group_leaders s) a b) ≡ total (cost_at s kind a b) s.members
costs_are s kind a b =
    filter_total (cost_of kind (group_weight s) (are_apart s) a b) (is_other a b) (group_leaders s)
    ∙ filter_total (λ x. only_if (is_other a b x) (cost_of kind (group_weight s) (are_apart s) a b x)) (λ x. leader s x == x) s.members

-- a room below 0 is too small for any costs
pub no_room : (f : ℕ → ℤ) (xs : List ℕ) (room : ℤ) → ((y : ℕ) → pos 0 ≤ℤ f y) → room <ℤ pos 0 → total f xs ≤ℤ room → ⊥
no_room f xs room least l h = let k = total_least f xs least in omega (arith, ints, k, l, h)

-- ---- the answers
abbrev IsWithin : State → Kind → ℕ → ℕ → ℤ → Type 0
IsWithin s kind a b room = total (cost_of kind (group_weight s) (are_apart s) a b) (others (group_leaders s) a b) ≤ℤ room

pub refused : (s : State) (kind : Kind) (a b : ℕ) (room : ℤ) → (total (cost_at s kind a b) s.members ≤ℤ room → ⊥) →
    (IsTrue false → IsWithin s kind a b room) × (IsWithin s kind a b room → IsTrue false)
refused s kind a b room n = (
  λ e. absurd (false≢true e),
  λ h. absurd (n (subst (λ (z : ℤ). z ≤ℤ room) (costs_are s kind a b) h)),
)

pub granted : (s : State) (kind : Kind) (a b : ℕ) (room : ℤ) → total (cost_at s kind a b) s.members ≤ℤ room →
    (IsTrue true → IsWithin s kind a b room) × (IsWithin s kind a b room → IsTrue true)
granted s kind a b room h = (λ _. subst (λ (z : ℤ). z ≤ℤ room) (sym (costs_are s kind a b)) h, λ _. refl)

pub at_in : (list xs : List ℕ) (i x : ℕ) → list ≡ xs → i < length list → x ≡ get_or list i x → (i < length xs) × (x ≡ get_or xs i x)
at_in list xs i x are l e = (subst (λ ys. i < length ys) are l, e ∙ ap (λ ys. get_or ys i x) are)

pub pair_cost : (kind : Kind) (w : ℕ → ℕ → ℤ) (apart : ℕ → ℕ → Bool) (a b x : ℕ) (g h sum : ℤ) → kind ≡ Pair → g ≡ gain w apart a x → h ≡ gain w apart b x →
    sum ≡ g +ℤ h → sum ≡ cost_of kind w apart a b x
pair_cost kind w apart a b x g h sum k p q e = subst (λ (kind : Kind). sum ≡ cost_of kind w apart a b x) (sym k) (omega (arith, ints, p, q, e))
