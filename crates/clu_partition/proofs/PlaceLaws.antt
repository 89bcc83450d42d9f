-- Values by the places of the members.
use Rattle.std.proofs.Common.{◌≡◌, ℕ, ◌<◌, ℤ, ◌+ℤ◌, List, [], ◌∷◌, length, get_or, map, refl, sym, ap, ◌∙◌, arith, ◌==◌}
use Rattle.std.proofs.lemmas.Int.{ints}
use Rattle.std.proofs.lemmas.List.FromFn.{fill_by_all}
use Rattle.clu_partition.specs.Partition.{below}
use Rattle.clu_partition.specs.Sums.{total, pair_total, only_if}
use Rattle.clu_partition.specs.Values.{value_on, value_by_place}
use Rattle.clu_partition.proofs.SumLaws.{pair_cong_on}
use Rattle.clu_partition.proofs.Ranges.{each_below}

total_map : {A : Type 0} (g : ℕ → A) (f : A → ℤ) (xs : List ℕ) → total f (map g xs) ≡ total (λ i. f (g i)) xs
total_map g f [] = refl
total_map g f (x ∷ xs) = ap (λ z. f (g x) +ℤ z) (total_map g f xs)

pub pair_map : {A : Type 0} (g : ℕ → A) (f : A → A → ℤ) (xs : List ℕ) → pair_total f (map g xs) ≡ pair_total (λ i j. f (g i) (g j)) xs
pair_map g f [] = refl
pair_map g f (x ∷ xs) = let h = total_map g (f (g x)) xs in let k = pair_map g f xs in omega (arith, ints, h, k)

-- a list is what stands at its places
pub places : (xs : List ℕ) → xs ≡ map (λ i. get_or xs i 0) (below (length xs))
places xs = fill_by_all (λ i. get_or xs i 0) xs (length xs) 0 refl (λ k at. refl)

-- labels by place are the labels of the members
pub value_of_places : (weight : ℕ → ℕ → ℤ) (label : ℕ → ℕ) (labels members : List ℕ) → ((i : ℕ) → i < length members → label (get_or members i 0) ≡ get_or labels i 0)
    → value_by_place weight labels members ≡ value_on weight label members
value_of_places weight label labels members is =
    let f : ℕ → ℕ → ℤ = λ u v. only_if (label u == label v) (weight u v) in
    let g : ℕ → ℕ = λ i. get_or members i 0 in
    let at : ℕ → ℕ → ℤ = λ i j. only_if (get_or labels i 0 == get_or labels j 0) (weight (g i) (g j)) in
    pair_cong_on at (λ i j. f (g i) (g j)) (λ i. i < length members) (below (length members)) (each_below (length members))
    (λ i j p q. ap (λ k. only_if (k == get_or labels j 0) (weight (g i) (g j))) (sym (is i p)) ∙ ap (λ k. only_if (label (g i) == k) (weight (g i) (g j))) (sym (is j q)))
    ∙ sym (pair_map g f (below (length members)))
    ∙ ap (pair_total f) (sym (places members))
