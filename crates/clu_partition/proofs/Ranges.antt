-- The numbers from one on, and those below another.
use Rattle.std.proofs.Common.{◌-◌, ◌≤◌, ◌≡◌, ℕ, zero, suc, ◌+◌, ◌<◌, List, [], ◌∷◌, ◌++◌, length, get_or, ◌∙◌, ap, arith}
use Rattle.std.specs.List.{range_with_len}
use Rattle.std.proofs.lemmas.List.FromFn.{get_or-range_with_len, length-range_with_len}
use Rattle.clu_partition.specs.Partition.{below}
use Rattle.clu_partition.proofs.SumLaws.{Each}

range_more : (a n : ℕ) → range_with_len a (n + 1) ≡ range_with_len a n ++ (a + n) ∷ []
range_more a zero = ap (λ (k : ℕ). k ∷ []) (omega arith)
range_more a (suc n) =
    let longer : suc n + 1 ≡ suc (n + 1) = omega arith in
    let last : (a + 1) + n ≡ a + suc n = omega arith in
    ap (range_with_len a) longer ∙ ap (λ (ks : List ℕ). a ∷ ks) (range_more (a + 1) n ∙ ap (λ (k : ℕ). range_with_len (a + 1) n ++ k ∷ []) last)

-- one number more stands behind the others
pub below_more : (n : ℕ) → below (n + 1) ≡ below n ++ n ∷ []
below_more n = let last : 0 + n ≡ n = omega arith in range_more 0 n ∙ ap (λ (k : ℕ). below n ++ k ∷ []) last

pub below_size : (n : ℕ) → length (below n) ≡ n
below_size n = length-range_with_len 0 n

pub below_at : (n i d : ℕ) → i < n → get_or (below n) i d ≡ i
below_at n i d at = get_or-range_with_len 0 n i d at ∙ (omega arith)

-- the first of the numbers from u to n - 1 is u
pub range_first : (n u : ℕ) → u < n → range_with_len u (n - u) ≡ u ∷ range_with_len (u + 1) (n - (u + 1))
range_first n u at = let more : n - u ≡ suc (n - (u + 1)) = omega arith in ap (range_with_len u) more

each_more : (n a k : ℕ) → a + k ≤ n → Each (λ v. v < n) (range_with_len a k)
each_more n a zero all = tt
each_more n a (suc k) all = (omega arith, each_more n (a + 1) k (omega arith))

pub each_below : (n : ℕ) → Each (λ v. v < n) (below n)
each_below n = each_more n 0 n (omega arith)
