-- The labels numbered so far.
use Rattle.std.proofs.Common.{◌≡◌, ℕ, ◌+◌, ◌<◌, ◌≤◌, List, [], ◌∷◌, ◌++◌, length, max, get_or, refl, sym, ◌∙◌, ap, subst, inl, inr, arith, length-append}
use Rattle.std.proofs.Math.Seq.{get_or-append_seam}
use Rattle.std.proofs.lemmas.Bool.{cases_lt, cases_order}
use Rattle.std.proofs.lemmas.List.{get_or_append_left}
use Rattle.clu_partition.specs.Partition.{EachOnce, IsNumberedFrom, IsPartition, SameBlocks, block_count_of, blocks_of}
use Rattle.clu_partition.specs.Placing.{NoLabelTwice, IsPlaced}
use Rattle.clu_partition.proofs.Once.{each_once}

pub record Numbering (labels : List ℕ) (i : ℕ) (firsts numbered : List ℕ) : Type 0 where
  pub count : length numbered ≡ i
  pub placed : (k : ℕ) → k < i → (get_or numbered k 0 < length firsts) × (get_or firsts (get_or numbered k 0) 0 ≡ get_or labels k 0)
  pub apart : NoLabelTwice firsts
  pub numbered_is : IsNumberedFrom 0 numbered
  pub next : block_count_of numbered ≡ length firsts
  pub fewer : length firsts ≤ i

pub none : (labels : List ℕ) → Numbering labels 0 [] []
none labels = record {
  count = refl;
  placed = λ k h. absurd (omega arith);
  apart = λ a b l h e. absurd (omega arith);
  numbered_is = tt;
  next = refl;
  fewer = omega arith;
}

numbered_push : (next : ℕ) (xs : List ℕ) (x : ℕ) → IsNumberedFrom next xs → x ≤ max next (block_count_of xs) → IsNumberedFrom next (xs ++ x ∷ [])
numbered_push next [] x is low = (omega arith, tt)
numbered_push next (y ∷ ys) x is low = (is.0, numbered_push (max next (y + 1)) ys x is.1 (omega arith))

count_push : (xs : List ℕ) (x : ℕ) → block_count_of (xs ++ x ∷ []) ≡ max (block_count_of xs) (x + 1)
count_push [] x = omega arith
count_push (y ∷ ys) x = omega (arith, count_push ys x)

module _ (labels firsts new numbered : List ℕ) (i place : ℕ) (old : Numbering labels i firsts numbered) (step : IsPlaced firsts new (get_or labels i 0) place) where
  pushed : List ℕ
  pushed = numbered ++ place ∷ []

  placed_more : (k : ℕ) → k < i + 1 → (get_or (numbered ++ place ∷ []) k 0 < length new) × (get_or new (get_or (numbered ++ place ∷ []) k 0) 0 ≡ get_or labels k 0)
  placed_more k h = elim (cases_lt k i) [
    | inl before ↦
        let same : get_or (numbered ++ place ∷ []) k 0 ≡ get_or numbered k 0 = get_or_append_left numbered (place ∷ []) 0 k (omega (arith, old.count)) in
        let was = old.placed k before in
        (omega (arith, same, was.0, step.grown), ap (λ (n : ℕ). get_or new n 0) same ∙ step.kept _ was.0 ∙ was.1)
    | inr now ↦
        let here : k ≡ length numbered = omega (arith, old.count) in
        let at : k ≡ i = omega arith in
        let same : get_or (numbered ++ place ∷ []) k 0 ≡ place = ap (λ (n : ℕ). get_or (numbered ++ place ∷ []) n 0) here ∙ get_or-append_seam numbered place [] 0 in
        (omega (arith, same, step.grown), ap (λ (n : ℕ). get_or new n 0) same ∙ step.there ∙ ap (λ (n : ℕ). get_or labels n 0) (sym at))
  ]

  pub one_more : Numbering labels (i + 1) new (numbered ++ place ∷ [])
  one_more = record {
    count = omega (arith, length-append numbered (place ∷ []), old.count);
    placed = placed_more;
    apart = step.apart;
    numbered_is = numbered_push 0 numbered place old.numbered_is (omega (arith, old.next, step.within));
    next = count_push numbered place ∙ omega (arith, old.next, step.grown);
    fewer = omega (arith, old.fewer, step.grown, step.within);
  }

module _ (labels firsts numbered : List ℕ) (all : Numbering labels (length labels) firsts numbered) where
  pub is_partition : IsPartition (length labels) numbered
  is_partition = record { one_each = all.count; numbered = all.numbered_is }

  one_place : (a b : ℕ) → a < length firsts → b < length firsts → get_or firsts a 0 ≡ get_or firsts b 0 → a ≡ b
  one_place a b la lb e = elim (cases_order a b) [
    | inl same ↦ same
    | inr differ ↦ elim differ [
      | inl lower ↦ absurd (all.apart a b lower lb e)
      | inr higher ↦ absurd (all.apart b a higher la (sym e))
    ]
  ]

  pub same_blocks : SameBlocks labels numbered
  same_blocks u v at_u at_v =
      let pu = all.placed u at_u in
      let pv = all.placed v at_v in
      ((λ e. one_place _ _ pu.0 pv.0 (pu.1 ∙ e ∙ sym pv.1)), (λ e. sym pu.1 ∙ ap (λ (n : ℕ). get_or firsts n 0) e ∙ pv.1))

  pub once : EachOnce (length labels) (blocks_of numbered)
  once = subst (λ (n : ℕ). EachOnce n (blocks_of numbered)) all.count (each_once numbered)
