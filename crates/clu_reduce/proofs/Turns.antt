-- A step that is worth taking is so by the least vertices of its groups, and for twins and pairs in either order.
use Rattle.std.proofs.Common.{◌≡◌, ⊎_elim, ℕ, ℤ, pos, ◌+ℤ◌, ◌≤ℤ◌, ◌<◌, List, [], ◌∷◌, Bool, true, false, not, ◌==◌, ◌||◌, if◌then◌else◌, filter, All, refl, sym, ap, ◌∙◌, subst, arith}
use Rattle.std.proofs.lemmas.Int.{ints}
use Rattle.std.proofs.lemmas.List.Elements.{All-weaker}
use Rattle.clu_partition.specs.Sums.{total}
use Rattle.clu_partition.proofs.PairLaws.{one_less}
use Rattle.clu_partition.proofs.SumLaws.{total_cong}
use Rattle.clu_state.specs.State.{State, IsState, IsFree, leader, are_apart, group_weight, group_leaders}
use Rattle.clu_state.proofs.GroupLaws.{state_groups}
use Rattle.clu_reduce.specs.Conditions.{is_other, others, gain, AreTwins, AreInseparable}
use Rattle.clu_reduce.specs.Reduction.{Allows, Serves, Reduces}
use Rattle.clu_reduce.specs.Sweep.{IsDue, InKindOrder}
use Rattle.clu_reduce.specs.declared.step.Kind.{Kind}
use Rattle.clu_reduce.specs.declared.step.Kind.TheVariants.{Twin, Pair, Heavy, Light}
use Rattle.clu_reduce.proofs.FreeLaws.{free_turn, weight_turn, free_least}

-- ---- in either order
or_turn : (a b : Bool) → (a || b) ≡ (b || a)
or_turn true true = refl
or_turn true false = refl
or_turn false true = refl
or_turn false false = refl

same_filter : (p q : ℕ → Bool) → ((x : ℕ) → p x ≡ q x) → (xs : List ℕ) → filter p xs ≡ filter q xs
same_filter p q e [] = refl
same_filter p q e (x ∷ xs) = ap (λ (b : Bool). if b then x ∷ filter p xs else filter p xs) (e x)
    ∙ ap (λ ys. if q x then x ∷ ys else ys) (same_filter p q e xs)

others_turn : (groups : List ℕ) (u v : ℕ) → others groups u v ≡ others groups v u
others_turn groups u v = same_filter (is_other u v) (is_other v u) (λ x. ap not (or_turn (x == u) (x == v))) groups

twins_turn : (w : ℕ → ℕ → ℤ) (apart : ℕ → ℕ → Bool) (groups : List ℕ) (u v : ℕ) → w u v ≡ w v u → AreTwins w apart groups u v → AreTwins w apart groups v u
twins_turn w apart groups u v e t = record {
  lossless = subst (λ z. pos 0 ≤ℤ z) e t.lossless;
  partners = subst (All (λ x. apart v x ≡ apart u x)) (others_turn groups u v)
      (All-weaker (λ x. apart u x ≡ apart v x) (λ x. apart v x ≡ apart u x) (λ x h. sym h) (others groups u v) t.partners);
  weights = subst (All (λ x. apart v x ≡ false → w v x ≡ w u x)) (others_turn groups u v)
      (λ k d l f. sym (t.weights k d l (t.partners k d l ∙ f)));
}

pair_turn : (w : ℕ → ℕ → ℤ) (apart : ℕ → ℕ → Bool) (groups : List ℕ) (u v : ℕ) → w u v ≡ w v u → AreInseparable w apart groups u v → AreInseparable w apart groups v u
pair_turn w apart groups u v e p = record {
  enough =
      let a = total_cong (λ x. gain w apart u x +ℤ gain w apart v x) (λ x. gain w apart v x +ℤ gain w apart u x)
      (others groups u v) (λ x. swap (gain w apart u x) (gain w apart v x)) in
      let b = ap (total (λ x. gain w apart v x +ℤ gain w apart u x)) (others_turn groups u v) in
      let h = p.enough in
      omega (arith, ints, a, b, h, e);
}
  where
    swap : (a b : ℤ) → a +ℤ b ≡ b +ℤ a
    swap a b = omega (arith, ints)

twin_turns : (s : State) (a b : ℕ) → Reduces s (record { kind = Twin; u = a; v = b }) → Reduces s (record { kind = Twin; u = b; v = a })
twin_turns s a b r = record {
  holds = record {
    free = free_turn s a b r.holds.free;
    allowed = twins_turn (group_weight s) (are_apart s) (group_leaders s) (leader s a) (leader s b) (weight_turn s (leader s a) (leader s b)) r.holds.allowed;
  };
  serves = tt;
}

pair_turns : (s : State) (a b : ℕ) → Reduces s (record { kind = Pair; u = a; v = b }) → Reduces s (record { kind = Pair; u = b; v = a })
pair_turns s a b r = record {
  holds = record {
    free = free_turn s a b r.holds.free;
    allowed = pair_turn (group_weight s) (are_apart s) (group_leaders s) (leader s a) (leader s b) (weight_turn s (leader s a) (leader s b)) r.holds.allowed;
  };
  serves = tt;
}

-- ---- by the least vertices
least_at : (s : State) → IsState s → (P : ℕ → ℕ → Type 0) (u v : ℕ) → IsFree s u v → P (leader s u) (leader s v) →
    P (leader s (leader s u)) (leader s (leader s v))
least_at s i P u v f h = subst (λ x. P x (leader s (leader s v))) (sym ((state_groups s i).idem u f.first))
    (subst (λ y. P (leader s u) y) (sym ((state_groups s i).idem v f.second)) h)

least_reduces : (s : State) → IsState s → (kind : Kind) (u v : ℕ) → Reduces s (record { kind = kind; u = u; v = v }) →
    Reduces s (record { kind = kind; u = leader s u; v = leader s v })
least_reduces s i kind u v r = record {
  holds = record {
    free = free_least s u v (leader s u) (leader s v) i r.holds.free refl refl;
    allowed = least_at s i (Allows kind (group_weight s) (are_apart s) (group_leaders s)) u v r.holds.free r.holds.allowed;
  };
  serves = least_at s i (Serves kind (group_weight s) (are_apart s) (group_leaders s)) u v r.holds.free r.serves;
}

-- ---- steps that are due
pub record Due (s : State) (kind : Kind) : Type 0 where
  pub u : ℕ
  pub v : ℕ
  pub due : IsDue s (record { kind = kind; u = u; v = v })

in_order : (s : State) → IsState s → (kind : Kind) (u v : ℕ) → Reduces s (record { kind = kind; u = u; v = v }) →
    InKindOrder kind (leader s u) (leader s v) → Due s kind
in_order s i kind u v r first =
    let g = state_groups s i in
    record {
      u = leader s u;
      v = leader s v;
      due = record {
        turn = record { first = g.idem u r.holds.free.first; second = g.idem v r.holds.free.second; order = first };
        reduces = least_reduces s i kind u v r;
      };
    }

-- with the smaller vertex first, whatever the order of the step
either_order : (s : State) → IsState s → (kind : Kind) → ((a b : ℕ) → a < b → InKindOrder kind a b) →
    ((a b : ℕ) → Reduces s (record { kind = kind; u = a; v = b }) → Reduces s (record { kind = kind; u = b; v = a })) →
    (u v : ℕ) → Reduces s (record { kind = kind; u = u; v = v }) → Due s kind
either_order s i kind first turn u v r = ⊎_elim
    (λ l. in_order s i kind u v r (first (leader s u) (leader s v) l))
    (λ l. in_order s i kind v u (turn u v r) (first (leader s v) (leader s u) l))
    (one_less (leader s u) (leader s v) r.holds.free.differ)

pub due_of : (s : State) → IsState s → (kind : Kind) (u v : ℕ) → Reduces s (record { kind = kind; u = u; v = v }) → Due s kind
due_of s i Twin u v r = either_order s i Twin (λ a b l. l) (twin_turns s) u v r
due_of s i Pair u v r = either_order s i Pair (λ a b l. l) (pair_turns s) u v r
due_of s i Heavy u v r = in_order s i Heavy u v r tt
due_of s i Light u v r = in_order s i Light u v r tt
