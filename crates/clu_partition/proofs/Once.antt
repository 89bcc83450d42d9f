-- Each vertex stands in the blocks of a partition exactly once.
use Rattle.std.proofs.Common.{◌≡◌, ℕ, zero, suc, ◌+◌, ◌<◌, ◌≤◌, Bool, true, false, cond, List, [], ◌∷◌, ◌++◌, length, get_or, filter, map, nat_eq, refl, sym, ◌∙◌, ap, inl, inr, arith}
use Rattle.std.specs.Prelude.{count_by}
use Rattle.std.specs.List.{All, concat, range_with_len}
use Rattle.std.proofs.lemmas.List.Elements.{All-append, All-filter, All-from_get_or}
use Rattle.std.proofs.lemmas.List.FromFn.{length-range_with_len, get_or-range_with_len}
use Rattle.std.proofs.lemmas.Bool.{cases_eq, eq-eqb, ne_eqb}
use Rattle.std.proofs.lemmas.List.Sums.{sum_by-append, sum_by-cons}
use Rattle.clu_partition.specs.Partition.{block_count_of, block_of, blocks_of, EachOnce}
use Rattle.clu_partition.proofs.Blocks.{label_below}

-- how often v stands in a list
abbrev count_of : ℕ → List ℕ → ℕ
count_of v us = count_by (λ u. nat_eq u v) us

count_of-cons : (v u : ℕ) (us : List ℕ) → count_of v (u ∷ us) ≡ cond (nat_eq u v) 1 0 + count_of v us
count_of-cons v u us = sum_by-cons (λ w. cond (nat_eq w v) 1 0) u us

count_of-append : (v : ℕ) (us ws : List ℕ) → count_of v (us ++ ws) ≡ count_of v us + count_of v ws
count_of-append v us ws = sum_by-append (λ u. cond (nat_eq u v) 1 0) us ws

-- a number below the first of a range doesn't stand in it
none_below : (v a n : ℕ) → v < a → count_of v (range_with_len a n) ≡ 0
none_below v a zero lower = refl
none_below v a (suc n) lower =
    count_of-cons v a (range_with_len (a + 1) n)
    ∙ ap (λ (b : Bool). cond b 1 0 + count_of v (range_with_len (a + 1) n)) (ne_eqb a v (λ e. omega arith))
    ∙ omega (arith, none_below v (a + 1) n (omega arith))

once_in_range : (v a n : ℕ) → a ≤ v → v < a + n → count_of v (range_with_len a n) ≡ 1
once_in_range v a zero low high = absurd (omega arith)
once_in_range v a (suc n) low high = count_of-cons v a (range_with_len (a + 1) n) ∙ (elim (cases_eq a v) [
  | inl same ↦
      ap (λ (b : Bool). cond b 1 0 + count_of v (range_with_len (a + 1) n)) (eq-eqb a v same)
      ∙ omega (arith, none_below v (a + 1) n (omega arith))
  | inr differ ↦
      ap (λ (b : Bool). cond b 1 0 + count_of v (range_with_len (a + 1) n)) (ne_eqb a v differ)
      ∙ omega (arith, once_in_range v (a + 1) n (omega arith) (omega arith))
])

module _ (q : ℕ → Bool) (v u : ℕ) (us : List ℕ) (rest : count_of v (filter q us) ≡ cond (q v) (count_of v us) 0) where
  kept_same : (b : Bool) → q u ≡ b → u ≡ v → count_of v (cond b (u ∷ filter q us) (filter q us)) ≡ cond (q v) (count_of v (u ∷ us)) 0
  kept_same true is same =
      let at : q v ≡ true = ap q (sym same) ∙ is in
      count_of-cons v u (filter q us) ∙ ap (λ (n : ℕ). cond (nat_eq u v) 1 0 + n) (rest ∙ ap (λ (b : Bool). cond b (count_of v us) 0) at)
      ∙ sym (ap (λ (b : Bool). cond b (count_of v (u ∷ us)) 0) at ∙ count_of-cons v u us)
  kept_same false is same =
      let at : q v ≡ false = ap q (sym same) ∙ is in
      rest ∙ ap (λ (b : Bool). cond b (count_of v us) 0) at ∙ sym (ap (λ (b : Bool). cond b (count_of v (u ∷ us)) 0) at)

  kept_other : (b : Bool) → q u ≡ b → nat_eq u v ≡ false → count_of v (cond b (u ∷ filter q us) (filter q us)) ≡ cond (q v) (count_of v (u ∷ us)) 0
  kept_other b is differ =
      let more : count_of v (u ∷ us) ≡ count_of v us = count_of-cons v u us ∙ ap (λ (c : Bool). cond c 1 0 + count_of v us) differ ∙ omega arith in
      let same : count_of v (cond b (u ∷ filter q us) (filter q us)) ≡ count_of v (filter q us) = without b in
      same ∙ rest ∙ ap (λ (n : ℕ). cond (q v) n 0) (sym more)
    where
      without : (b : Bool) → count_of v (cond b (u ∷ filter q us) (filter q us)) ≡ count_of v (filter q us)
      without true = count_of-cons v u (filter q us) ∙ ap (λ (c : Bool). cond c 1 0 + count_of v (filter q us)) differ ∙ omega arith
      without false = refl

-- a filter keeps v as often as it stands there, or not at all
count_of-filter : (q : ℕ → Bool) (v : ℕ) (us : List ℕ) → count_of v (filter q us) ≡ cond (q v) (count_of v us) 0
count_of-filter q v [] = elim (q v) as (λ b. ◌≡◌ {A = ℕ} 0 (cond b 0 0)) [ true ↦ refl | false ↦ refl ]
count_of-filter q v (u ∷ us) = elim (cases_eq u v) [
  | inl same ↦ kept_same q v u us (count_of-filter q v us) (q u) refl same
  | inr differ ↦ kept_other q v u us (count_of-filter q v us) (q u) refl (ne_eqb u v differ)
]

-- in a block stands each vertex with its label
in_block : (labels : List ℕ) (v b : ℕ) → v < length labels → count_of v (block_of labels b) ≡ cond (nat_eq (get_or labels v 0) b) 1 0
in_block labels v b at =
    count_of-filter (λ u. nat_eq (get_or labels u 0) b) v (range_with_len 0 (length labels))
    ∙ ap (λ (n : ℕ). cond (nat_eq (get_or labels v 0) b) n 0) (once_in_range v 0 (length labels) (omega arith) (omega arith))

in_blocks : (labels : List ℕ) (v a n : ℕ) → v < length labels
    → count_of v (concat (map (block_of labels) (range_with_len a n))) ≡ count_of (get_or labels v 0) (range_with_len a n)
in_blocks labels v a zero at = refl
in_blocks labels v a (suc n) at =
    count_of-append v (block_of labels a) (concat (map (block_of labels) (range_with_len (a + 1) n)))
    ∙ omega (arith, in_block labels v a at, in_blocks labels v (a + 1) n at, swapped)
    ∙ sym (count_of-cons (get_or labels v 0) a (range_with_len (a + 1) n))
  where
    swapped : ◌≡◌ {A = ℕ} (cond (nat_eq (get_or labels v 0) a) 1 0) (cond (nat_eq a (get_or labels v 0)) 1 0)
    swapped = elim (cases_eq a (get_or labels v 0)) [
      | inl same ↦ ap (λ (b : Bool). cond b 1 0) (eq-eqb _ _ (sym same) ∙ sym (eq-eqb _ _ same))
      | inr differ ↦ ap (λ (b : Bool). cond b 1 0) (ne_eqb _ _ (λ e. differ (sym e)) ∙ sym (ne_eqb _ _ differ))
    ]

below_within : (n : ℕ) → All (λ v. v < n) (range_with_len 0 n)
below_within n = All-from_get_or (λ v. v < n) (range_with_len 0 n) 0 (λ i h.
    let at : i < n = omega (arith, length-range_with_len 0 n) in
    omega (arith, get_or-range_with_len 0 n i 0 at))

in_block_within : (labels : List ℕ) (b : ℕ) → All (λ v. v < length labels) (block_of labels b)
in_block_within labels b = All-filter (λ u. nat_eq (get_or labels u 0) b) (λ v. v < length labels) (range_with_len 0 (length labels)) (below_within (length labels))

in_blocks_within : (labels : List ℕ) (a n : ℕ) → All (λ v. v < length labels) (concat (map (block_of labels) (range_with_len a n)))
in_blocks_within labels a zero = λ k d h. absurd (omega arith)
in_blocks_within labels a (suc n) =
    All-append (λ v. v < length labels) (block_of labels a) (concat (map (block_of labels) (range_with_len (a + 1) n))) (in_block_within labels a) (in_blocks_within labels (a + 1) n)

pub each_once : (labels : List ℕ) → EachOnce (length labels) (blocks_of labels)
each_once labels = record {
  once = λ v at.
      in_blocks labels v 0 (block_count_of labels) at
      ∙ once_in_range (get_or labels v 0) 0 (block_count_of labels) (omega arith) (omega (arith, label_below labels v at));
  only = in_blocks_within labels 0 (block_count_of labels);
}
