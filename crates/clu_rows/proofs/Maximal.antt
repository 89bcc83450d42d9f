-- When no triple is left, the packing is maximal.
use Rattle.std.proofs.Common.{◌≤◌, ◌≡◌, ◌≢◌, ◌⊎◌, inl, inr, ⊎_elim, ℕ, ◌<◌, ◌+◌, ℤ, pos, neg_ℤ, ◌≤ℤ◌, ◌<ℤ◌, ◌-ℤ◌, List, [], length, slice_index, Bool, true, false, not, Contains, refl, sym, ap, ◌∙◌, subst, arith}
use Rattle.std.proofs.lemmas.Int.{ints}
use Rattle.std.proofs.lemmas.Bool.{cases_eq, true≢false, false≢true}
use Rattle.std.proofs.lemmas.Grind.{get_or_default_zero}
use Rattle.clu_partition.specs.Sums.{only_if}
use Rattle.clu_partition.specs.Grids.{IsGrid}
use Rattle.clu_rows.specs.Rows.{TwoSet}
use Rattle.clu_partition.specs.Pairs.{Pairs, weight_of, with_weight}
use Rattle.clu_partition.proofs.SumLaws.{Among}
use Rattle.clu_partition.proofs.TableLaws.{weight_sym, set_same, set_other}
use Rattle.clu_partition.proofs.Regroup.{between_sym}
use Rattle.clu_state.specs.State.{State, IsState, leader, are_apart, kept_apart, group_leaders, group_weight}
use Rattle.clu_state.proofs.Bridge.{leader_among, contains_from}
use Rattle.clu_partition.proofs.JoinLaws.{joins_turn}
use Rattle.clu_rows.specs.Packing.{CanApply, IsMaximal}
use Rattle.clu_rows.specs.Packing.IsPacking.{nothing}
use Rattle.clu_rows.specs.Table.{IsLeftTable, Stuck, AllStuck}
use Rattle.clu_rows.proofs.Steps.{stuck_turn}
use Rattle.clu_partition.proofs.PairLaws.{one_less}

AllSettled : State → List ℕ → Pairs → Type 0
AllSettled s groups left = (x y z : ℕ) → x < y → y < z → z < length groups → AllStuck s groups left x y z

stuck_any : (s : State) (groups : List ℕ) (left : Pairs) (x y z : ℕ) → AllSettled s groups left → x < length groups → y < length groups → z < length groups → x ≢ y → x ≢ z → y ≢ z → Stuck s groups left x y z
unfolding AllSettled
stuck_any s groups left x y z h lx ly lz xy xz yz = ⊎_elim
    (λ (a : x < y). ⊎_elim
    (λ (b : y < z). (h x y z a b lz).at_first)
    (λ (b : z < y). ⊎_elim
    (λ (c : x < z). stuck_turn s groups left x y z (h x z y c b ly).at_first)
    (λ (c : z < x). stuck_turn s groups left x y z (h z x y c a ly).at_second)
    (one_less x z xz))
    (one_less y z yz))
    (λ (a : y < x). ⊎_elim
    (λ (b : y < z). ⊎_elim
    (λ (c : x < z). (h y x z a c lz).at_second)
    (λ (c : z < x). (h y z x b c lx).at_third)
    (one_less x z xz))
    (λ (b : z < y). stuck_turn s groups left x y z (h z y x b a lx).at_third)
    (one_less y z yz))
    (one_less x y xy)

pub record Index (groups : List ℕ) (a : ℕ) : Type 0 where
  pub at' : ℕ
  pub below : at' < length groups
  pub is' : slice_index groups at' ≡ a

index_of : (s : State) (groups : List ℕ) (a : ℕ) → IsState s → groups ≡ group_leaders s → Contains s.members a → leader s a ≡ a → Index groups a
index_of s groups a i e c l =
    let k = contains_from (group_leaders s) a (subst (λ x. Among x (group_leaders s)) l (leader_among s i a c)) in
    subst (λ xs. Index xs a) (sym e) (record { at' = k.0; below = k.1; is' = sym (get_or_default_zero (group_leaders s) k.0 a k.1) ∙ k.2 })

shown : (apart : Bool) (w l : ℤ) → w ≡ only_if (not apart) l → apart ≡ false → pos 1 ≤ℤ l → pos 0 <ℤ w
shown true w l e f p = absurd (true≢false f)
shown false w l e f p = omega (arith, ints, e, p)

opposed : (apart : Bool) (w l : ℤ) → w ≡ only_if (not apart) l → (apart ≡ true) ⊎ (l ≤ℤ neg_ℤ (pos 1)) → (apart ≡ true) ⊎ (w <ℤ pos 0)
opposed true w l e c = inl refl
opposed false w l e c = ⊎_elim (λ h. absurd (false≢true h)) (λ h. inr (omega (arith, ints, e, h))) c

pub maximal : (s : State) (groups : List ℕ) (left : Pairs) (rows : List TwoSet) → IsLeftTable s groups left rows → ((x y z : ℕ) → x < y → y < z → z < length groups → AllStuck s groups left x y z) → IsMaximal s rows
unfolding AllSettled
maximal s groups left rows p h = λ a b c t can.
    let i = index_of s groups a p.state p.groups_are t.first t.first_least in
    let j = index_of s groups b p.state p.groups_are t.second t.second_least in
    let k = index_of s groups c p.state p.groups_are t.third t.third_least in
    let ij : i.at' ≢ j.at' = λ e. t.one_two (sym i.is' ∙ ap (slice_index groups) e ∙ j.is') in
    let ik : i.at' ≢ k.at' = λ e. t.one_three (sym i.is' ∙ ap (slice_index groups) e ∙ k.is') in
    let jk : j.at' ≢ k.at' = λ e. t.two_three (sym j.is' ∙ ap (slice_index groups) e ∙ k.is') in
    let can' : CanApply s rows (slice_index groups i.at') (slice_index groups j.at') (slice_index groups k.at') 1 =
    subst (λ a. CanApply s rows a (slice_index groups j.at') (slice_index groups k.at') 1) (sym i.is') (subst (λ b. CanApply s rows a b (slice_index groups k.at') 1) (sym j.is') (subst (λ c. CanApply s rows a b c 1) (sym k.is') can)) in
    stuck_any s groups left i.at' j.at' k.at' h i.below j.below k.below ij ik jk
    (shown (are_apart s (slice_index groups i.at') (slice_index groups j.at')) _ _ (p.agrees i.at' j.at' i.below j.below ij) can'.first_free can'.first)
    (shown (are_apart s (slice_index groups i.at') (slice_index groups k.at')) _ _ (p.agrees i.at' k.at' i.below k.below ik) can'.second_free can'.second)
    (opposed (are_apart s (slice_index groups j.at') (slice_index groups k.at')) _ _ (p.agrees j.at' k.at' j.below k.below jk) can'.third)

-- ---- the table before the first triangle
pub first_table : (s : State) (groups : List ℕ) (left : Pairs) → IsState s → groups ≡ group_leaders s → length groups ≤ left.n →
    ((x z : ℕ) → x < z → z < length groups → weight_of left x z ≡ only_if (not (are_apart s (slice_index groups x) (slice_index groups z))) (group_weight s (slice_index groups x) (slice_index groups z))) → IsLeftTable s groups left []
first_table s groups left i e n h = record {
  state = i;
  groups_are = e;
  size = n;
  agrees = λ x z lx lz d. ⊎_elim
      (λ (l : x < z). h x z l lz ∙ ap (only_if (not (are_apart s (slice_index groups x) (slice_index groups z)))) (less_nothing _))
      (λ (l : z < x). weight_sym left x z ∙ h z x l lx ∙ ap (λ b. only_if (not b) (group_weight s (slice_index groups z) (slice_index groups x))) (joins_turn (leader s) (kept_apart s) (slice_index groups z) (slice_index groups x)) ∙
      ap (only_if (not (are_apart s (slice_index groups x) (slice_index groups z)))) (between_sym (weight_of s.pairs) (weight_sym s.pairs) (leader s) s.members (leader s (slice_index groups z)) (leader s (slice_index groups x)) ∙ less_nothing _))
      (one_less x z d);
  packing = nothing;
}
  where
    less_nothing : (w : ℤ) → w ≡ w -ℤ pos 0
    less_nothing w = omega (arith, ints)

-- ---- filling the table
pub row_more : (s : State) (groups : List ℕ) (start old new : Pairs) (i j : ℕ) (w : ℤ) (f : ℕ → ℕ → ℤ) → length groups ≤ old.n → IsGrid old → i < j → j < length groups →
    new ≡ with_weight old i j w → w ≡ f i j → ((z : ℕ) → i < z → z < j → weight_of old i z ≡ f i z) → (z : ℕ) → i < z → z < j + 1 → weight_of new i z ≡ f i z
row_more s groups start old new i j w f n p ij jl e v h z iz zj = subst (λ (t : Pairs). weight_of t i z ≡ f i z) (sym e) (⊎_elim
    (λ q. subst (λ z. weight_of (with_weight old i j w) i z ≡ f i z) (sym q) (set_same old i j w (omega (arith, n)) (omega (arith, n)) (λ r. omega (arith, r, ij)) p ∙ v))
    (λ d. set_other old i j i z w (omega (arith, n)) (omega (arith, n)) (omega (arith, n)) (omega (arith, n)) (λ k. let a = k.0 in let b = k.1 in omega (arith, a, b, d, ij, iz)) ∙ h z iz (omega (arith, d)))
    (cases_eq z j))

pub row_others : (old new : Pairs) (n i j x z : ℕ) (w : ℤ) → n ≤ old.n → i < j → j < n → x < i → x < z → z < n → new ≡ with_weight old i j w → weight_of new x z ≡ weight_of old x z
row_others old new n i j x z w e ij jn xi xz zn f = subst (λ (t : Pairs). weight_of t x z ≡ weight_of old x z) (sym f) (set_other old i j x z w (omega (arith, e)) (omega (arith, e)) (omega (arith, e)) (omega (arith, e)) (λ k. let a = k.0 in let b = k.1 in omega (arith, a, b, ij, xi, xz)))

pub unwrapped : (b apart : Bool) (r v w w' : ℤ) → b ≡ apart → r ≡ only_if (not b) w' → w' ≡ v → v ≡ w → r ≡ only_if (not apart) w
unwrapped b apart r v w w' e f g h = f ∙ ap (λ k. only_if (not k) w') e ∙ ap (only_if (not apart)) (g ∙ h)
