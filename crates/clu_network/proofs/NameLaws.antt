-- A test on the bytes of stored names is one on the names.
use Rattle.std.proofs.Common.{String, ℕ, IsUtf8, bytes_eq, if◌then◌else◌, sym, ◌≡◌, ◌+◌, ◌≤◌, subst, Bool, false, List, [], ◌∷◌, ◌++◌, None, Some, length, map, position, refl, ◌∙◌, ap, cond, nat_lt, not, ◌||◌, arith}
use Rattle.std.proofs.lemmas.Bool.{or_parts, false_from_ne_true}
use Rattle.std.proofs.lemmas.Bool.Decides.{nat_tests}
use Rattle.std.proofs.lemmas.Slice.Eq.{bytes_eq-Decides}
use Rattle.std.proofs.lemmas.Str.{IsUtf8-string_bytes}
use Rattle.std.proofs.lemmas.List.{length-map, map_push}
use Rattle.std.specs.String.{string_bytes, string_eq}
use Rattle.std.specs.List.{position_or_len, list_any, IsDistinct}

pub position_or_len_map : {A B : Type 0} (p : B → Bool) (f : A → B) (xs : List A) → position_or_len p (map f xs) ≡ position_or_len (λ x. p (f x)) xs
position_or_len_map p f [] = refl
position_or_len_map p f (x ∷ xs) = ap (λ k. cond (not (p (f x))) (1 + k) 0) (position_or_len_map p f xs)

pub position_map : {A B : Type 0} (p : B → Bool) (f : A → B) (xs : List A) → position p (map f xs) ≡ position (λ x. p (f x)) xs
position_map p f xs =
    let e = position_or_len_map p f xs in
    let l : length (map f xs) ≡ length xs = length-map xs f in
    λ i. cond (nat_lt (e i) (l i)) (Some (e i)) None

pub any_map : {A B : Type 0} (p : B → Bool) (f : A → B) (xs : List A) → list_any p (map f xs) ≡ list_any (λ x. p (f x)) xs
any_map p f [] = refl
any_map p f (x ∷ xs) = ap (λ b. p (f x) || b) (any_map p f xs)

-- no names are within the limit, and none stands twice
pub no_names : {Z : Type 0} (keys : List (String Z)) → keys ≡ [] → (length keys ≤ 1000) × IsDistinct bytes_eq (map string_bytes keys)
unfolding IsDistinct
no_names {Z} keys none = subst (λ (ks : List (String Z)). (length ks ≤ 1000) × IsDistinct bytes_eq (map string_bytes ks)) (sym none) (omega arith, tt)

-- where none passes, the place is behind all
pub none_passes : {A : Type 0} (p : A → Bool) (xs : List A) → list_any p xs ≡ false → position_or_len p xs ≡ length xs
none_passes p [] e = refl
none_passes p (x ∷ xs) e =
    let h = or_parts (p x) (list_any p xs) e in
    ap (λ b. cond (not b) (1 + position_or_len p xs) 0) h.0 ∙ ap (λ k. 1 + k) (none_passes p xs h.1) ∙ (omega arith)

-- a new text goes behind the others, and so do its bytes
pub pushed : {Z : Type 0} (old new : List (String Z)) (owned : String Z) (name : List ℕ)
    → new ≡ (if list_any (string_eq owned) old then old else old ++ owned ∷ []) → string_bytes owned ≡ name
    → list_any (bytes_eq name) (map string_bytes old) ≡ false → map string_bytes new ≡ map string_bytes old ++ name ∷ []
pushed old new owned name keys bytes absent =
    let none : list_any (string_eq owned) old ≡ false =
    sym (any_map (bytes_eq (string_bytes owned)) string_bytes old) ∙ ap (λ b. list_any (bytes_eq b) (map string_bytes old)) bytes ∙ absent in
    ap (map string_bytes) (keys ∙ ap (λ b. if b then old else old ++ owned ∷ []) none) ∙ map_push string_bytes old owned ∙ (λ i. map string_bytes old ++ bytes i ∷ [])

-- bytes that are no text are not among texts
pub no_text : {Z : Type 0} (keys : List (String Z)) (name : List ℕ) → (IsUtf8 name → ⊥) → list_any (bytes_eq name) (map string_bytes keys) ≡ false
no_text [] name bad = refl
no_text (key ∷ keys) name bad =
    let differ : bytes_eq name (string_bytes key) ≡ false = false_from_ne_true _ (λ t. bad (subst IsUtf8 (sym ((bytes_eq-Decides name (string_bytes key)).0 t)) (IsUtf8-string_bytes key))) in
    let rest = no_text keys name bad in
    λ i. differ i || rest i

pub not_found : {Z : Type 0} (keys : List (String Z)) (name : List ℕ) → (IsUtf8 name → ⊥) → None ≡ position (bytes_eq name) (map string_bytes keys)
not_found keys name bad =
    let names : List (List ℕ) = map string_bytes keys in
    let past : position_or_len (bytes_eq name) (map string_bytes keys) ≡ length (map string_bytes keys) = none_passes (bytes_eq name) (map string_bytes keys) (no_text keys name bad) in
    let test : nat_lt (length (map string_bytes keys)) (length (map string_bytes keys)) ≡ false = grind (arith, nat_tests) in
    sym (ap (λ (k : ℕ). cond (nat_lt k (length (map string_bytes keys))) (Some k) None) past ∙ ap (λ b. cond b (Some (length (map string_bytes keys))) None) test)
