-- Between facts by places, as clauses have them, and facts by recursion.
use Rattle.std.proofs.Common.{◌≡◌, ℕ, ◌<◌, inl, inr, ⊎_elim, List, [], ◌∷◌, length, get_or, slice_index, refl, sym, subst, arith, zero, suc, Contains}
use Rattle.std.proofs.lemmas.List.Elements.{Contains-append_right, All-contains}
use Rattle.clu_partition.proofs.SumLaws.{Each, Among, Rising}
use Rattle.clu_partition.proofs.Regroup.{AreGroups, leaders_among}
use Rattle.clu_state.specs.State.{State, IsState, leader, group_leaders}
use Rattle.clu_state.proofs.GroupLaws.{Groups, state_groups}
use Rattle.std.proofs.lemmas.Grind.{get_or_default_zero}

pub each_from : (P : ℕ → Type 0) (xs : List ℕ) → ((x : ℕ) → Contains xs x → P x) → Each P xs
each_from P [] f = tt
each_from P (x ∷ xs) f = (f x (0, omega arith, refl), each_from P xs (λ y c. f y (Contains-append_right (x ∷ []) xs y c)))

pub each_from_index : (P : ℕ → Type 0) (xs : List ℕ) → ((j : ℕ) → j < length xs → P (slice_index xs j)) → Each P xs
each_from_index P [] f = tt
each_from_index P (x ∷ xs) f = (f zero (omega arith), each_from_index P xs (λ j l. f (suc j) (omega arith)))

pub rising_from_index : (xs : List ℕ) → ((i j : ℕ) → i < j → j < length xs → slice_index xs i < slice_index xs j) → Rising xs
rising_from_index [] f = tt
rising_from_index (x ∷ xs) f =
    (each_from_index (λ y. x < y) xs (λ j l. f zero (suc j) (omega arith) (omega arith)), rising_from_index xs (λ i j l k. f (suc i) (suc j) (omega arith) (omega arith)))

among_at : (xs : List ℕ) (k c : ℕ) → k < length xs → get_or xs k c ≡ c → Among c xs
among_at [] k c l e = absurd (omega arith)
among_at (x ∷ xs) zero c l e = inl (sym e)
among_at (x ∷ xs) (suc k) c l e = inr (among_at xs k c (omega arith) e)

pub among_from : (xs : List ℕ) (c : ℕ) → Contains xs c → Among c xs
among_from xs c h = among_at xs h.0 c h.1 h.2

pub contains_at : (xs : List ℕ) (j : ℕ) → j < length xs → Contains xs (slice_index xs j)
contains_at xs j l = (j, l, get_or_default_zero xs j (slice_index xs j) l)

pub contains_from : (xs : List ℕ) (c : ℕ) → Among c xs → Contains xs c
contains_from [] c m = absurd m
contains_from (x ∷ xs) c m = ⊎_elim (λ e. (0, omega arith, sym e)) (λ n. Contains-append_right (x ∷ []) xs c (contains_from xs c n)) m

pub are_groups : (group : ℕ → ℕ) (members : List ℕ) → Rising members → Groups group members → AreGroups group members
are_groups group members up g = record {
  rising = up;
  least_in = each_from (λ u. Among (group u) members) members (λ u c. among_from members (group u) (g.into u c));
  least_of = each_from (λ u. group (group u) ≡ group u) members (λ u c. g.idem u c);
}

pub state_are_groups : (s : State) → IsState s → AreGroups (leader s) s.members
state_are_groups s i = are_groups (leader s) s.members (rising_from_index s.members i.members.rising) (state_groups s i)

pub each_here : (P : ℕ → Type 0) (v : ℕ) (xs : List ℕ) → Each P xs → Among v xs → P v
each_here P v [] e m = absurd m
each_here P v (x ∷ xs) e m = ⊎_elim (λ f. subst P (sym f) e.0) (λ n. each_here P v xs e.1 n) m

pub leader_among : (s : State) → IsState s → (v : ℕ) → Contains s.members v → Among (leader s v) (group_leaders s)
leader_among s i v c = each_here (λ u. Among (leader s u) (group_leaders s)) v s.members (leaders_among (leader s) s.members (state_are_groups s i)) (among_from s.members v c)

pub below_all : (s : State) → IsState s → Each (λ v. v < s.pairs.n) s.members
below_all s i = each_from (λ v. v < s.pairs.n) s.members (λ v c. let h = All-contains (λ x. x < length s.start.group) s.members v i.members.below c in let k = i.one_size in omega (arith, h, k))
