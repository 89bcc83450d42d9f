-- The lines of the blocks so far.
use Rattle.std.proofs.Common.{◌≡◌, ℕ, ◌+◌, ◌<◌, List, [], ◌∷◌, ◌++◌, length, take, get_or, sym, ◌∙◌, ap, subst, arith, append_assoc, Some}
use Rattle.std.specs.Prelude.{All, slice_get, nat_eq, slice_index}
use Rattle.std.specs.List.{flat_map}
use Rattle.std.proofs.lemmas.Grind.{flat_map-append}
use Rattle.std.proofs.lemmas.List.{take_more, append-nil}
use Rattle.std.proofs.lemmas.List.Elements.{All-filter, All-from_get_or}
use Rattle.std.proofs.lemmas.List.FromFn.{length-range_with_len, get_or-range_with_len, get_or-map-range_with_len, length-map-range_with_len}
use Rattle.std.proofs.lemmas.Option.{get_or_from_slice_get}
use Rattle.clu_partition.specs.Partition.{below, block_count_of, block_of, blocks_of}
use Rattle.clu_cli.specs.Report.{named}

-- one more name stands behind the others
pub name_more : (names : List (List ℕ)) (block start word out spaced ended bytes : List ℕ) (i v : ℕ)
    → out ≡ start ++ (word ++ flat_map (named names) (take i block)) → spaced ≡ out ++ 32 ∷ [] → ended ≡ spaced ++ bytes
    → i < length block → v ≡ get_or block i v → slice_get names v ≡ Some bytes
    → ended ≡ start ++ (word ++ flat_map (named names) (take (i + 1) block))
name_more names block start word out spaced ended bytes i v is_out is_spaced is_ended at is_v is_name =
    let name : named names v ≡ 32 ∷ bytes = ap (λ (bs : List ℕ). 32 ∷ bs) (get_or_from_slice_get names v bytes [] is_name) in
    let taken : take (i + 1) block ≡ take i block ++ v ∷ [] = take_more block i v at ∙ ap (λ (u : ℕ). take i block ++ u ∷ []) (sym is_v) in
    let more : flat_map (named names) (take (i + 1) block) ≡ flat_map (named names) (take i block) ++ 32 ∷ bytes =
    ap (flat_map (named names)) taken
    ∙ flat_map-append (named names) (take i block) (v ∷ [])
    ∙ ap (λ (bs : List ℕ). flat_map (named names) (take i block) ++ bs) (append-nil (named names v) ∙ name) in
    is_ended
    ∙ ap (λ (bs : List ℕ). bs ++ bytes) (is_spaced ∙ ap (λ (bs : List ℕ). bs ++ 32 ∷ []) is_out)
    ∙ append_assoc (start ++ (word ++ flat_map (named names) (take i block))) (32 ∷ []) bytes
    ∙ append_assoc start (word ++ flat_map (named names) (take i block)) (32 ∷ bytes)
    ∙ ap (λ (bs : List ℕ). start ++ bs) (append_assoc word (flat_map (named names) (take i block)) (32 ∷ bytes) ∙ ap (λ (bs : List ℕ). word ++ bs) (sym more))

below_within : (n : ℕ) → All (λ v. v < n) (below n)
below_within n = All-from_get_or (λ v. v < n) (below n) 0 (λ i h.
    let at : i < n = omega (arith, length-range_with_len 0 n) in
    omega (arith, get_or-range_with_len 0 n i 0 at))

-- the vertices of a block are those of the labels
pub block_within : (labels : List ℕ) (blocks : List (List ℕ)) (n i : ℕ) (item block : List ℕ) → blocks ≡ blocks_of labels → length labels ≡ n
    → i < length blocks → item ≡ get_or blocks i item → block ≡ item → All (λ v. v < n) block
block_within labels blocks n i item block are each at is_item is =
    let count : i < block_count_of labels = omega (arith, at, ap length are, length-map-range_with_len (block_of labels) 0 (block_count_of labels)) in
    let here : block ≡ block_of labels i =
    is ∙ is_item ∙ ap (λ (bs : List (List ℕ)). get_or bs i item) are ∙ get_or-map-range_with_len (block_of labels) 0 (block_count_of labels) i i item count (omega arith) in
    let all : All (λ v. v < length labels) (block_of labels i) = All-filter (λ v. nat_eq (slice_index labels v) i) (λ v. v < length labels) (below (length labels)) (below_within (length labels)) in
    subst (λ (k : ℕ). All (λ v. v < k) block) each (subst (λ (vs : List ℕ). All (λ v. v < length labels) vs) (sym here) all)
