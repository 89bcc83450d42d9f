-- Free pairs in either order, and by the least vertices of their groups.
use Rattle.std.proofs.Common.{◌≡◌, ℕ, Contains, sym, ap, ◌∙◌, subst}
use Rattle.clu_partition.specs.Pairs.{weight_of}
use Rattle.clu_partition.proofs.JoinLaws.{joins_same, joins_turn}
use Rattle.clu_partition.proofs.Regroup.{between_sym}
use Rattle.clu_partition.proofs.TableLaws.{weight_sym}
use Rattle.clu_state.specs.State.{State, IsState, IsFree, kept_apart, leader, group_weight}
use Rattle.clu_state.proofs.GroupLaws.{state_groups}

-- ---- in either order
pub free_turn : (s : State) (u v : ℕ) → IsFree s u v → IsFree s v u
free_turn s u v f = record {
  first = f.second;
  second = f.first;
  differ = λ e. f.differ (sym e);
  allowed = joins_turn (leader s) (kept_apart s) v u ∙ f.allowed;
}

pub weight_turn : (s : State) (u v : ℕ) → group_weight s u v ≡ group_weight s v u
weight_turn s u v = between_sym (weight_of s.pairs) (weight_sym s.pairs) (leader s) s.members (leader s u) (leader s v)

-- ---- by the least vertices
pub free_least : (s : State) (u v a b : ℕ) → IsState s → IsFree s u v → a ≡ leader s u → b ≡ leader s v → IsFree s a b
free_least s u v a b i f p q =
    let g = state_groups s i in
    subst (λ y. IsFree s a y) (sym q) (subst (λ x. IsFree s x (leader s v)) (sym p) (record {
      first = g.into u f.first;
      second = g.into v f.second;
      differ = λ e. f.differ (sym (g.idem u f.first) ∙ e ∙ g.idem v f.second);
      allowed = joins_same (leader s) (kept_apart s) (leader s u) (leader s v) u v (g.idem u f.first) (g.idem v f.second) ∙ f.allowed;
    }))

pub least_of : (s : State) (u a : ℕ) → IsState s → Contains s.members u → a ≡ leader s u → leader s a ≡ a
least_of s u a i c e = ap (leader s) e ∙ (state_groups s i).idem u c ∙ sym e
