-- Lines one after the other: weights that grow by a line, and their sizes.
use Rattle.std.proofs.Common.{◌≡◌, ◌≢◌, ⊎_elim, inl, ℕ, ◌+◌, ◌^◌, ◌<◌, ◌≤◌, ◌+ℤ◌, ◌&&◌, ◌==◌, Bool, true, not, List, [], ◌∷◌, length, get_or, take, unsigned_abs, refl, sym, ◌∙◌, ap, arith}
use Rattle.std.proofs.lemmas.Int.{ints}
use Rattle.std.proofs.lemmas.Bool.{eq-eqb, false≢true}
use Rattle.std.proofs.lemmas.List.Sums.{sum_by-cons, sum_by-take-le}
use Rattle.clu_partition.specs.Pairs.{Pairs, are_pair, weight_of}
use Rattle.clu_partition.specs.Sums.{only_if}
use Rattle.clu_partition.proofs.BoolLaws.{or_turn}
use Rattle.clu_partition.proofs.PairLaws.{is_pair, one_less}
use Rattle.clu_partition.proofs.SumLaws.{total_cong, total_next}
use Rattle.clu_partition.proofs.TableLaws.{weight_sym}
use Rattle.clu_partition.proofs.ValueSizes.{only_size}
use Rattle.clu_network.specs.declared.network.NetLine.{NetLine}
use Rattle.clu_objective.specs.Lines.{line_weight, all_sizes}

-- no pair weighs more than all lines without their signs
pub line_size : (lines : List NetLine) (x z : ℕ) → unsigned_abs (line_weight lines x z) ≤ all_sizes lines
line_size [] x z = omega (arith, ints)
line_size (l ∷ lines) x z =
    let h = line_size lines x z in
    let k = only_size (are_pair l.u l.v x z) l.weight in
    let s = sum_by-cons (λ (m : NetLine). unsigned_abs m.weight) l lines in
    omega (arith, ints, h, k, s)

pub line_sym : (lines : List NetLine) (x z : ℕ) → line_weight lines x z ≡ line_weight lines z x
line_sym lines x z = total_cong (λ l. only_if (are_pair l.u l.v x z) l.weight) (λ l. only_if (are_pair l.u l.v z x) l.weight) lines
    (λ l. ap (λ b. only_if b l.weight) (or_turn (l.u == x && l.v == z) (l.u == z && l.v == x)))

pub line_next : (lines : List NetLine) (i x z : ℕ) (l : NetLine) → i < length lines → l ≡ get_or lines i l
    → line_weight (take (i + 1) lines) x z ≡ line_weight (take i lines) x z +ℤ only_if (are_pair l.u l.v x z) l.weight
line_next lines i x z l at is =
    total_next (λ m. only_if (are_pair m.u m.v x z) m.weight) i lines l at ∙
    ap (λ (m : NetLine). line_weight (take i lines) x z +ℤ only_if (are_pair m.u m.v x z) m.weight) (sym is)

-- a line's own pair has room for it
pub line_room : (pairs : Pairs) (lines : List NetLine) (n i : ℕ) (l : NetLine) → i < length lines → l ≡ get_or lines i l → l.u < n → l.v < n → l.u ≢ l.v
    → ((x z : ℕ) → x < z → z < n → weight_of pairs x z ≡ line_weight (take i lines) x z)
    → all_sizes lines ≤ 2 ^ 88 → unsigned_abs (weight_of pairs l.u l.v +ℤ l.weight) ≤ 2 ^ 88
line_room pairs lines n i l at is lu lv differ done small =
    let next = line_next lines i l.u l.v l at is in
    let own : only_if (are_pair l.u l.v l.u l.v) l.weight ≡ l.weight = ap (λ b. only_if b l.weight) (is_pair l.u l.v l.u l.v (inl (refl, refl))) in
    let size = line_size (take (i + 1) lines) l.u l.v in
    let most = sum_by-take-le (λ (m : NetLine). unsigned_abs m.weight) lines (i + 1) in
    let now : weight_of pairs l.u l.v ≡ line_weight (take i lines) l.u l.v = ⊎_elim
    (λ o. done l.u l.v o lv)
    (λ o. weight_sym pairs l.u l.v ∙ done l.v l.u o lu ∙ line_sym (take i lines) l.v l.u)
    (one_less l.u l.v differ) in
    omega (arith, ints, next, own, size, most, now, small)

-- what a test of two vertices says
pub differ : (a b : ℕ) (r : Bool) → r ≡ not (a == b) → r ≡ true → a ≢ b
differ a b r n t e = false≢true (sym (n ∙ ap not (eq-eqb a b e)) ∙ t)

-- one line more
pub line_done : (old new : Pairs) (lines : List NetLine) (n i : ℕ) (l : NetLine) → i < length lines → l ≡ get_or lines i l
    → ((x z : ℕ) → x < z → z < n → weight_of new x z ≡ weight_of old x z +ℤ only_if (are_pair l.u l.v x z) l.weight)
    → ((x z : ℕ) → x < z → z < n → weight_of old x z ≡ line_weight (take i lines) x z)
    → (x z : ℕ) → x < z → z < n → weight_of new x z ≡ line_weight (take (i + 1) lines) x z
line_done old new lines n i l at is step done x z o h =
    step x z o h ∙ ap (λ k. k +ℤ only_if (are_pair l.u l.v x z) l.weight) (done x z o h) ∙ sym (line_next lines i x z l at is)
