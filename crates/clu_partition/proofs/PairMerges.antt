-- Chosen before and after a write, and the loop that merges two places.
use Rattle.std.proofs.Common.{◌≡◌, ◌≢◌, ℕ, ◌+◌, ◌≤◌, ◌<◌, ⊎_elim, min, max, Bool, true, false, ◌||◌, refl, sym, ap, ◌∙◌, subst, arith, if◌then◌else◌}
use Rattle.std.proofs.lemmas.Bool.{cases_eq, or_right}
use Rattle.clu_partition.specs.Grids.{IsGrid}
use Rattle.clu_partition.specs.PairSets.{Chosen, has, with_pair}
use Rattle.clu_partition.proofs.GridLaws.{value_sym, value_here, value_other, grid_set}
use Rattle.clu_partition.proofs.BoolLaws.{or_false}
use Rattle.clu_partition.proofs.PairLaws.{pair_without, pair_other}

pub has_turn : (m : Chosen) (u v : ℕ) → has m u v ≡ has m v u
has_turn m u v = value_sym m false u v

pub put_here : (m : Chosen) (u v : ℕ) → IsGrid m → u < m.n → v < m.n → has (with_pair m u v) u v ≡ true
put_here m u v is p q = value_here m false true u v is p q

pub put_other : (m : Chosen) (u v x y : ℕ) → u < m.n → v < m.n → x < m.n → y < m.n → ((min u v ≡ min x y) × (max u v ≡ max x y) → ⊥) →
    has (with_pair m u v) x y ≡ has m x y
put_other m u v x y p q r s n = value_other m false true u v x y p q r s n

-- ---- the loop over the vertices
-- those below j are done
pub record MergedBelow (old now : Chosen) (low high j : ℕ) : Type 0 where
  pub grid : IsGrid now
  pub size : now.n ≡ old.n
  pub done : (k : ℕ) → k < j → k < old.n → k ≢ low → has now low k ≡ (has old low k || has old high k)
  pub left : (k : ℕ) → j ≤ k → k < old.n → k ≢ low → has now low k ≡ has old low k
  pub others : (i k : ℕ) → i < old.n → k < old.n → i ≢ low → k ≢ low → has now i k ≡ has old i k

abbrev copied : Chosen → Bool → ℕ → ℕ → Chosen
copied m b low j = if b then with_pair m low j else m

copied_size : (m : Chosen) (b : Bool) (low j : ℕ) → (copied m b low j).n ≡ m.n
copied_size m true low j = refl
copied_size m false low j = refl

copied_grid : (m : Chosen) (b : Bool) (low j : ℕ) → IsGrid m → IsGrid (copied m b low j)
copied_grid m true low j a = grid_set m low j true a
copied_grid m false low j a = a

copied_here : (m : Chosen) (b : Bool) (low j : ℕ) → IsGrid m → low < m.n → j < m.n → has (copied m b low j) low j ≡ (has m low j || b)
copied_here m true low j a p q = put_here m low j a p q ∙ sym (or_right (has m low j) true refl)
copied_here m false low j a p q = sym (or_false (has m low j))

copied_other : (m : Chosen) (b : Bool) (low j x y : ℕ) → low < m.n → j < m.n → x < m.n → y < m.n → ((min low j ≡ min x y) × (max low j ≡ max x y) → ⊥) →
    has (copied m b low j) x y ≡ has m x y
copied_other m true low j x y p q r s n = put_other m low j x y p q r s n
copied_other m false low j x y p q r s n = refl

pub merged_next : (old now new : Chosen) (low high j : ℕ) → low < old.n → high < old.n → j < old.n → low ≢ high →
    new ≡ (if has now high j then with_pair now low j else now) → MergedBelow old now low high j → MergedBelow old new low high (j + 1)
merged_next old now new low high j p q l n e m = subst (λ x. MergedBelow old x low high (j + 1)) (sym e) (record {
  grid = copied_grid now (has now high j) low j m.grid;
  size = copied_size now (has now high j) low j ∙ m.size;
  done = λ k i b d. ⊎_elim
      (λ g. subst (λ x. has (copied now (has now high j) low j) low x ≡ (has old low x || has old high x)) (sym g) (here (λ h. d (g ∙ h))))
      (λ g. copied_other now (has now high j) low j low k lo jo lo (in_now k b) (pair_other low j k g) ∙ m.done k (omega (arith, i, g)) b d)
      (cases_eq k j);
  left = λ k i b d. copied_other now (has now high j) low j low k lo jo lo (in_now k b) (pair_other low j k (λ g. omega (arith, g, i))) ∙ m.left k (omega (arith, i)) b d;
  others = λ i k b c d f. copied_other now (has now high j) low j i k lo jo (in_now i b) (in_now k c) (pair_without low j i k d f) ∙ m.others i k b c d f;
})
  where
    in_now : (x : ℕ) → x < old.n → x < now.n
    in_now x h = let s = m.size in omega (arith, s, h)

    lo : low < now.n
    lo = in_now low p

    jo : j < now.n
    jo = in_now j l

    here : j ≢ low → has (copied now (has now high j) low j) low j ≡ (has old low j || has old high j)
    here d =
        copied_here now (has now high j) low j m.grid lo jo ∙
        ap (λ x. x || has now high j) (m.left j (omega arith) l d) ∙
        ap (λ x. has old low j || x) (m.others high j q l (λ h. n (sym h)) d)
