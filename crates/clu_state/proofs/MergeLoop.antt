-- The loop that adds one row of the contracted weights to another.
use Rattle.std.proofs.Common.{◌≡◌, ℕ, ◌+ℤ◌, ◌+◌, ◌≤◌, ◌<◌, ◌≢◌, ⊎_elim, List, length, slice_index, sym, ap, ◌∙◌, subst, arith}
use Rattle.std.proofs.lemmas.Bool.{cases_eq}
use Rattle.clu_partition.specs.Pairs.{Pairs, weight_of, with_weight, IsTable}
use Rattle.clu_partition.proofs.TableLaws.{set_same, set_other}
use Rattle.clu_partition.proofs.PairLaws.{pair_without, pair_other}

-- the places below j are done
pub record MergedTo (old now : Pairs) (members group : List ℕ) (low high j : ℕ) : Type 0 where
  pub size : now.n ≡ old.n
  pub done : (k : ℕ) → k < j → k ≢ low → k ≢ high → slice_index group (slice_index members k) ≡ slice_index members k → weight_of now low k ≡ weight_of old low k +ℤ weight_of old high k
  pub left : (k : ℕ) → j ≤ k → k < length members → weight_of now low k ≡ weight_of old low k
  pub others : (i k : ℕ) → i < length members → k < length members → i ≢ low → k ≢ low → weight_of now i k ≡ weight_of old i k

pub step_skip : (old now : Pairs) (members group : List ℕ) (low high j : ℕ) →
    ((slice_index group (slice_index members j) ≡ slice_index members j) × ((j ≢ low) × (j ≢ high)) → ⊥) →
    MergedTo old now members group low high j → MergedTo old now members group low high (j + 1)
step_skip old now members group low high j n m = record {
  size = m.size;
  done = λ k l p q e. ⊎_elim
      (λ f. absurd (n (subst (λ i. slice_index group (slice_index members i) ≡ slice_index members i) f e, ((λ g. p (f ∙ g)), (λ g. q (f ∙ g))))))
      (λ d. m.done k (omega arith) p q e)
      (cases_eq k j);
  left = λ k l h. m.left k (omega arith) h;
  others = m.others;
}

pub step_add : (old now new : Pairs) (members group : List ℕ) (low high j : ℕ) → old.n ≡ length members → IsTable now → j < length members → low < length members → high < length members → low ≢ high →
    j ≢ low → j ≢ high →
    new ≡ with_weight now low j (weight_of now low j +ℤ weight_of now high j) →
    MergedTo old now members group low high j → MergedTo old new members group low high (j + 1)
step_add old now new members group low high j size t l p q n a b e m = subst (λ x. MergedTo old x members group low high (j + 1)) (sym e) (record {
  size = m.size;
  done = λ k i c d f. ⊎_elim
      (λ g. subst (λ k. weight_of (with_weight now low j (weight_of now low j +ℤ weight_of now high j)) low k ≡ weight_of old low k +ℤ weight_of old high k) (sym g) at_j)
      (λ g. set_other now low j low k (weight_of now low j +ℤ weight_of now high j) lo jo lo (let h = m.size in omega (arith, h, size)) (pair_other low j k g) ∙ m.done k (omega arith) c d f)
      (cases_eq k j);
  left = λ k i h. set_other now low j low k (weight_of now low j +ℤ weight_of now high j) lo jo lo (let s = m.size in omega (arith, h, s, size)) (pair_other low j k (λ g. omega (arith, g, i))) ∙ m.left k (omega arith) h;
  others = λ i k x y c d. set_other now low j i k (weight_of now low j +ℤ weight_of now high j) lo jo (let s = m.size in omega (arith, s, size, x)) (let s = m.size in omega (arith, s, size, y)) (pair_without low j i k c d) ∙ m.others i k x y c d;
})
  where
    lo : low < now.n
    lo = let s = m.size in omega (arith, s, size)

    jo : j < now.n
    jo = let s = m.size in omega (arith, s, size)

    at_j : weight_of (with_weight now low j (weight_of now low j +ℤ weight_of now high j)) low j ≡ weight_of old low j +ℤ weight_of old high j
    at_j = set_same now low j (weight_of now low j +ℤ weight_of now high j) lo jo (λ g. a (sym g)) t.grid ∙ ap (λ z. z +ℤ weight_of now high j) (m.left j (omega arith) l) ∙ ap (λ z. weight_of old low j +ℤ z) (m.others high j q l (λ g. n (sym g)) a)
