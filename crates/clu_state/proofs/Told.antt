-- What the tables of a `Rebuilt` answer.
use Rattle.std.proofs.Common.{◌≡◌, ◌≢◌, ℕ, ℤ, ◌<◌, List, length, slice_index, Contains, ap, sym, ◌∙◌, arith}
use Rattle.clu_partition.specs.Pairs.{Pairs, weight_of}
use Rattle.clu_partition.proofs.JoinLaws.{joins_same}
use Rattle.clu_partition.specs.PairSets.{Chosen, has}
use Rattle.clu_state.specs.State.{State, leader, group_weight, are_apart, kept_apart}
use Rattle.clu_state.specs.Rebuilt.{TablesAgree, IsGroupPlace}
use Rattle.clu_state.proofs.GroupLaws.{leader_leads, leader_below, state_groups}
use Rattle.clu_state.proofs.Joined.{place_is}

-- the place of the group of x
abbrev pub at_group : State → List ℕ → ℕ → ℕ
at_group s place x = slice_index place (leader s x)

pub record Placed (s : State) (place : List ℕ) (weights : Pairs) (apart : Chosen) (x : ℕ) : Type 0 where
  pub leads : leader s x < length place
  pub in_weights : at_group s place x < weights.n
  pub in_marks : at_group s place x < apart.n

pub placed : (s : State) (group place : List ℕ) (weights : Pairs) (apart : Chosen) (fixed : ℤ) (x : ℕ) → TablesAgree s group place weights apart fixed → Contains s.members x → Placed s place weights apart x
placed s group place weights apart fixed x g c =
    let p = (place_is s.members place (leader s x) g.places (leader_leads s x g.state c).member).0 in
    let b = leader_below s x g.state c in
    record {
      leads = let k = g.place_size in omega (arith, b, k);
      in_weights = let k = g.table_size in omega (arith, p, k);
      in_marks = let k = g.marks_size in omega (arith, p, k);
    }

-- where the tables have the group of x, there it is
pub group_found : (s : State) (group place : List ℕ) (weights : Pairs) (apart : Chosen) (fixed : ℤ) (x : ℕ) → TablesAgree s group place weights apart fixed → Contains s.members x →
    IsGroupPlace s x (at_group s place x)
group_found s group place weights apart fixed x g c =
    let p = place_is s.members place (leader s x) g.places (leader_leads s x g.state c).member in
    record { within = p.0; there = p.1 }

-- and it is nowhere else
at_place : (s : State) (group place : List ℕ) (weights : Pairs) (apart : Chosen) (fixed : ℤ) (x p : ℕ) → TablesAgree s group place weights apart fixed → IsGroupPlace s x p →
    p ≡ at_group s place x
at_place s group place weights apart fixed x p g h = sym (g.places p h.within) ∙ ap (slice_index place) h.there

pub weight_at : (s : State) (group place : List ℕ) (weights : Pairs) (apart : Chosen) (fixed : ℤ) (u v p q : ℕ) → TablesAgree s group place weights apart fixed →
    Contains s.members u → Contains s.members v → leader s u ≢ leader s v → IsGroupPlace s u p → IsGroupPlace s v q → weight_of weights p q ≡ group_weight s u v
weight_at s group place weights apart fixed u v p q g cu cv n ep eq' =
    ap (λ x. weight_of weights x q) (at_place s group place weights apart fixed u p g ep) ∙
    ap (weight_of weights (at_group s place u)) (at_place s group place weights apart fixed v q g eq') ∙
    g.contracted (leader s u) (leader s v) (leader_leads s u g.state cu) (leader_leads s v g.state cv) n

pub apart_at : (s : State) (group place : List ℕ) (weights : Pairs) (apart : Chosen) (fixed : ℤ) (u v p q : ℕ) → TablesAgree s group place weights apart fixed →
    Contains s.members u → Contains s.members v → leader s u ≢ leader s v → IsGroupPlace s u p → IsGroupPlace s v q → has apart p q ≡ are_apart s u v
apart_at s group place weights apart fixed u v p q g cu cv n ep eq' =
    ap (λ x. has apart x q) (at_place s group place weights apart fixed u p g ep) ∙
    ap (has apart (at_group s place u)) (at_place s group place weights apart fixed v q g eq') ∙
    g.separated (leader s u) (leader s v) (leader_leads s u g.state cu) (leader_leads s v g.state cv) n ∙
    joins_same (leader s) (kept_apart s) (leader s u) (leader s v) u v ((state_groups s g.state).idem u cu) ((state_groups s g.state).idem v cv)
