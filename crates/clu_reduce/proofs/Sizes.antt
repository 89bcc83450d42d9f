-- No weight between two groups of a state passes 2 ^ 88.
use Rattle.std.proofs.Common.{◌≡◌, ◌≢◌, ℕ, ℤ, pos, negsuc, ◌+ℤ◌, ◌-ℤ◌, ◌≤◌, ◌^◌, unsigned_abs, Bool, true, false, not, Contains, FitsSigned, arith}
use Rattle.std.specs.Int.{w128}
use Rattle.std.proofs.lemmas.Int.{ints}
use Rattle.clu_partition.specs.Sums.{only_if, positive}
use Rattle.clu_state.specs.State.{State, IsState, leader, are_apart, group_weight}
use Rattle.clu_state.proofs.Bounds.{weight_small}
use Rattle.clu_reduce.specs.Conditions.{gain}

part_small : (apart : Bool) (w : ℤ) → unsigned_abs w ≤ 2 ^ 88 → unsigned_abs (only_if (not apart) (pos (positive w))) ≤ 2 ^ 88
part_small true w l = omega (arith, ints)
part_small false (pos n) l = l
part_small false (negsuc n) l = omega (arith, ints)

pub gains_fit : (s : State) → IsState s → (a b x : ℕ) (g h : ℤ) → Contains s.members a → Contains s.members b → Contains s.members x → leader s a ≢ leader s x →
    leader s b ≢ leader s x → g ≡ gain (group_weight s) (are_apart s) a x → h ≡ gain (group_weight s) (are_apart s) b x → FitsSigned w128 (g +ℤ h)
gains_fit s i a b x g h ca cb cx n m e f =
    let k = part_small (are_apart s a x) (group_weight s a x) (weight_small s i a x ca cx n) in
    let l = part_small (are_apart s b x) (group_weight s b x) (weight_small s i b x cb cx m) in
    omega (arith, ints, e, f, k, l)

pub minus_fits : (s : State) → IsState s → (a x : ℕ) (w : ℤ) → Contains s.members a → Contains s.members x → leader s a ≢ leader s x →
    w ≡ group_weight s a x → FitsSigned w128 (pos 0 -ℤ w)
minus_fits s i a x w ca cx n e = let l = weight_small s i a x ca cx n in omega (arith, ints, e, l)
