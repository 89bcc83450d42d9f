-- The blocks of the vertices so far.
use Rattle.std.proofs.Common.{◌≡◌, ℕ, zero, suc, ◌+◌, ◌<◌, Bool, true, false, cond, List, [], ◌∷◌, ◌++◌, length, get_or, filter, nat_eq, sym, ◌∙◌, ap, inl, inr, arith, length-set}
use Rattle.std.proofs.Math.ListN.{set}
use Rattle.std.specs.Prelude.{replicate}
use Rattle.std.specs.List.{range_with_len}
use Rattle.std.proofs.lemmas.Bool.{cases_eq, eq-eqb, ne_eqb}
use Rattle.std.proofs.lemmas.List.{append-nil, get_or-replicate, get_or-set_same, get_or-set_other, length-replicate}
use Rattle.std.proofs.lemmas.List.Elements.{filter-append}
use Rattle.std.proofs.lemmas.List.FromFn.{fill_by_all}
use Rattle.clu_partition.specs.Partition.{block_count_of, blocks_of}
use Rattle.clu_partition.proofs.Ranges.{below_more}

-- those of the vertices below i that have the label k
abbrev pub block_below : List ℕ → ℕ → ℕ → List ℕ
block_below labels i k = filter (λ v. nat_eq (get_or labels v 0) k) (range_with_len 0 i)

-- each block has its vertices below i
pub record Divided (labels : List ℕ) (i : ℕ) (blocks : List (List ℕ)) : Type 0 where
  pub count : length blocks ≡ block_count_of labels
  pub each : (k : ℕ) → k < block_count_of labels → get_or blocks k [] ≡ block_below labels i k

pub divided_none : (labels : List ℕ) (count : ℕ) → count ≡ block_count_of labels → Divided labels 0 (replicate count [])
divided_none labels count is = record {
  count = length-replicate count [] ∙ is;
  each = λ k h. get_or-replicate count k [] [] (omega (arith, is));
}

block_more : (labels : List ℕ) (i k : ℕ) (b : Bool) → nat_eq (get_or labels i 0) k ≡ b → block_below labels (i + 1) k ≡ block_below labels i k ++ cond b (i ∷ []) []
block_more labels i k b is =
    let p : ℕ → Bool = λ v. nat_eq (get_or labels v 0) k in
    ap (filter p) (below_more i)
    ∙ filter-append p (range_with_len 0 i) (i ∷ [])
    ∙ ap (λ (c : Bool). block_below labels i k ++ cond c (i ∷ []) []) is

-- a vertex goes behind the others of its block
pub divided_more : (labels : List ℕ) (i label : ℕ) (blocks : List (List ℕ)) → label ≡ get_or labels i 0 → label < block_count_of labels → Divided labels i blocks
    → Divided labels (i + 1) (set blocks label (get_or blocks label [] ++ i ∷ []))
divided_more labels i label blocks is at old = record {
  count = length-set blocks label _ ∙ old.count;
  each = λ k h. elim (cases_eq k label) [
    | inl same ↦
        ap (λ (n : ℕ). get_or (set blocks label (get_or blocks label [] ++ i ∷ [])) n []) same
        ∙ get_or-set_same blocks label _ [] (omega (arith, old.count))
        ∙ ap (λ (n : ℕ). get_or blocks n [] ++ i ∷ []) (sym same)
        ∙ ap (λ (vs : List ℕ). vs ++ i ∷ []) (old.each k h)
        ∙ sym (block_more labels i k true (eq-eqb _ _ (sym is ∙ sym same)))
    | inr differ ↦
        get_or-set_other blocks label k _ [] differ
        ∙ old.each k h
        ∙ sym (append-nil (block_below labels i k))
        ∙ sym (block_more labels i k false (ne_eqb _ _ (λ e. differ (sym e ∙ sym is))))
  ];
}

pub divided_all : (labels : List ℕ) (blocks : List (List ℕ)) → Divided labels (length labels) blocks → blocks ≡ blocks_of labels
divided_all labels blocks all = fill_by_all (block_below labels (length labels)) blocks (block_count_of labels) [] all.count all.each

-- each label is below the number of blocks
pub label_below : (labels : List ℕ) (v : ℕ) → v < length labels → get_or labels v 0 < block_count_of labels
label_below [] v at = absurd (omega arith)
label_below (label ∷ labels) zero at = omega arith
label_below (label ∷ labels) (suc v) at = omega (arith, label_below labels v (omega arith))
