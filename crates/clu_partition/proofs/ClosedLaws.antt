-- Laws of closed rules.
use Rattle.std.proofs.Common.{slice_index, ◌≡◌, ℕ, ◌<◌, List, [], length, get_or, sym, ap, ◌∙◌, arith}
use Rattle.std.proofs.lemmas.List.{same_lists, get_or_default}
use Rattle.clu_partition.specs.Closed.{Closed, IsClosed, BindsNothing, IsPermitted}
use Rattle.clu_partition.specs.Partition.{below}
use Rattle.clu_partition.proofs.Ranges.{below_at, below_size}

-- each vertex alone, and no forbidden pair
pub open_rules : (n : ℕ) (group : List ℕ) (forbidden : List (ℕ × ℕ)) → group ≡ below n → forbidden ≡ [] → BindsNothing n (record { group = group; forbidden = forbidden })
open_rules n group forbidden is none = record {
  size = ap length is ∙ below_size n;
  alone = λ v at. ap (λ (vs : List ℕ). get_or vs v 0) is ∙ below_at n v 0 at;
  none_forbidden = none;
}

no_place : (pairs : List (ℕ × ℕ)) (k : ℕ) → pairs ≡ [] → k < length pairs → ⊥
no_place pairs k none at = let size = ap length none in omega (arith, size, at)

pub open_closed : (n : ℕ) (c : Closed) → BindsNothing n c → IsClosed c
open_closed n c none =
    let alone : (v : ℕ) → v < length c.group → get_or c.group v 0 ≡ v = λ v at. none.alone v (omega (arith, none.size)) in
    record {
      below = λ v at. omega (arith, alone v at);
      least = λ v at. ap (λ (u : ℕ). get_or c.group u 0) (alone v at);
      in_range = λ k d at. absurd (no_place c.forbidden k none.none_forbidden at);
      least_pairs = λ k d at. absurd (no_place c.forbidden k none.none_forbidden at);
      ordered = λ k d at. absurd (no_place c.forbidden k none.none_forbidden at);
      rising = rw none.none_forbidden tt;
    }

-- the partition into groups is permitted
pub own_permitted : (c : Closed) → IsClosed c → IsPermitted c (slice_index c.group)
own_permitted c closed = record {
  required = closed.least;
  forbidden = λ k d at same.
      let least = closed.least_pairs k d at in
      let less = closed.ordered k d at in
      omega (arith, same, least.0, least.1, less);
}

-- there is one value of rules that require and forbid nothing
pub one_open : (n : ℕ) (c d : Closed) → BindsNothing n c → BindsNothing n d → c ≡ d
one_open n c d first second = together c.group d.group c.forbidden d.forbidden
    (same_lists c.group d.group (first.size ∙ sym second.size) at)
    (first.none_forbidden ∙ sym second.none_forbidden)
  where
    together : (g h : List ℕ) (f k : List (ℕ × ℕ)) → g ≡ h → f ≡ k
        → ◌≡◌ {A = Closed} (record { group = g; forbidden = f }) (record { group = h; forbidden = k })
    together g h f k p q = λ i. record { group = p i; forbidden = q i }

    at : (v e : ℕ) → v < length c.group → get_or c.group v e ≡ get_or d.group v e
    at v e l =
        let s = first.size in
        let t = second.size in
        get_or_default c.group v e 0 l ∙ first.alone v (omega (arith, l, s))
        ∙ sym (second.alone v (omega (arith, l, s))) ∙ get_or_default d.group v 0 e (omega (arith, l, s, t))
