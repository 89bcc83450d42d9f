-- How bytes are cut at a byte.
use Rattle.std.proofs.Common.{◌≡◌, ℕ, ◌+◌, ◌<◌, ◌≤◌, false, List, [], ◌∷◌, length, take, drop, arith}
use Rattle.std.specs.List.{slice_split, position_or_len}
use Rattle.std.proofs.lemmas.List.Elements.{All-from_get_or}
use Rattle.std.proofs.lemmas.List.Splits.{slice_split_first, slice_split_none}
use Rattle.std.proofs.lemmas.List.Sums.{fails_before_first}
use Rattle.clu_cert.specs.Cut.{is_byte}

pub cut_first : (by : ℕ) (xs : List ℕ) (e : ℕ) → e ≡ position_or_len (is_byte by) xs → e < length xs
    → slice_split (is_byte by) xs ≡ take e xs ∷ slice_split (is_byte by) (drop (e + 1) xs)
cut_first by xs e is at = rw is (slice_split_first (is_byte by) xs 0 (omega (arith, is)))

pub cut_none : (by : ℕ) (xs : List ℕ) (e : ℕ) → e ≡ position_or_len (is_byte by) xs → length xs ≤ e
    → slice_split (is_byte by) xs ≡ xs ∷ []
cut_none by xs e is past = slice_split_none (is_byte by) xs
    (All-from_get_or (λ x. is_byte by x ≡ false) xs 0 (λ k h. fails_before_first (is_byte by) xs k 0 (omega arith)))
