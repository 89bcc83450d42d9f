-- The part that a member is in, by its place in the list of parts.
use Rattle.std.proofs.Common.{◌≡◌, ℕ, zero, suc, ◌<◌, ⊎_elim, List, [], ◌∷◌, ◌++◌, length, get_or, Bool, true, false, ◌==◌, if◌then◌else◌, All, Contains, sym, ap, ◌∙◌, subst, arith}
use Rattle.std.proofs.lemmas.List.{get_or_default}
use Rattle.std.proofs.lemmas.List.Elements.{All-contains, Contains-append_left, Contains-append_right, Contains-push}
use Rattle.std.proofs.lemmas.Bool.{eq-eqb, eqb-true, or_left, or_right, or_cases, false_from_ne_true, false≢true}
use Rattle.clu_partition.proofs.JoinLaws.{front_or_rest}
use Rattle.clu_state.specs.State.{State}
use Rattle.clu_reduce.specs.Parts.{IsPart, AllParts, Cover, IsOutside, is_in}

-- ---- whether a part has a member
pub is_in_listed : (part : List ℕ) (v : ℕ) → Contains part v → is_in part v ≡ true
is_in_listed [] v c = absurd (omega (arith, c.1))
is_in_listed (u ∷ part) v c = ⊎_elim
    (λ e. or_left (u == v) (is_in part v) (eq-eqb u v e))
    (λ r. or_right (u == v) (is_in part v) (is_in_listed part v r))
    (front_or_rest u part v c)

pub listed_is_in : (part : List ℕ) (v : ℕ) → is_in part v ≡ true → Contains part v
listed_is_in [] v t = absurd (false≢true t)
listed_is_in (u ∷ part) v t = ⊎_elim
    (λ e. (0, omega arith, eqb-true u v e))
    (λ r. Contains-append_right (u ∷ []) part v (listed_is_in part v r))
    (or_cases (u == v) (is_in part v) t)

-- ---- the place of the first part that has v
abbrev pub place_of : List (List ℕ) → ℕ → ℕ
place_of [] v = 0
place_of (part ∷ parts) v = if is_in part v then 0 else suc (place_of parts v)

-- no later part has a vertex of an earlier one
lacks_earlier : (s : State) (earlier parts : List (List ℕ)) → AllParts s earlier parts → (part : List ℕ) → Contains earlier part → (k : ℕ) →
    k < length parts → (v : ℕ) →
    Contains (get_or parts k []) v → Contains part v → ⊥
lacks_earlier s earlier [] a part c k l v m n = absurd (omega arith)
lacks_earlier s earlier (first ∷ parts) a part c zero l v m n =
    All-contains (IsOutside part) first v (All-contains (λ other. All (IsOutside other) first) earlier part a.0.new c) m n
lacks_earlier s earlier (first ∷ parts) a part c (suc k) l v m n =
    lacks_earlier s (earlier ++ first ∷ []) parts a.1 part (Contains-append_left earlier (first ∷ []) part c) k (omega arith) v m n

pub place_is : (s : State) (earlier parts : List (List ℕ)) → AllParts s earlier parts → (k : ℕ) → k < length parts → (v : ℕ) →
    Contains (get_or parts k []) v → place_of parts v ≡ k
place_is s earlier [] a k l v m = absurd (omega arith)
place_is s earlier (part ∷ parts) a zero l v m = ap (λ (b : Bool). if b then 0 else suc (place_of parts v)) (is_in_listed part v m)
place_is s earlier (part ∷ parts) a (suc k) l v m =
    let other : is_in part v ≡ false = false_from_ne_true (is_in part v) (λ t.
    lacks_earlier s (earlier ++ part ∷ []) parts a.1 part (Contains-push earlier part) k (omega arith) v m (listed_is_in part v t)) in
    ap (λ (b : Bool). if b then 0 else suc (place_of parts v)) other ∙ ap suc (place_is s (earlier ++ part ∷ []) parts a.1 k (omega arith) v m)

-- ---- what is said of each part
pub record PartAt (s : State) (parts : List (List ℕ)) (k : ℕ) : Type 0 where
  pub earlier : List (List ℕ)
  pub is : IsPart s earlier (get_or parts k [])

pub part_at : (s : State) (earlier parts : List (List ℕ)) → AllParts s earlier parts → (k : ℕ) → k < length parts → PartAt s parts k
part_at s earlier [] a k l = absurd (omega arith)
part_at s earlier (part ∷ parts) a zero l = record { earlier = earlier; is = a.0 }
part_at s earlier (part ∷ parts) a (suc k) l =
    let h = part_at s (earlier ++ part ∷ []) parts a.1 k (omega arith) in
    record { earlier = h.earlier; is = h.is }

-- a member is in the part with this place
pub record InPart (parts : List (List ℕ)) (v : ℕ) : Type 0 where
  pub place : ℕ
  pub within : place < length parts
  pub has : Contains (get_or parts place []) v

pub covered : (s : State) (parts : List (List ℕ)) → Cover s parts → (v : ℕ) → Contains s.members v → InPart parts v
covered s parts all v c = found h.0 h.1.0 h.1.1 h.1.2 h.2
  where
    h : (part : List ℕ) × Contains parts part × Contains part v
    h = All-contains (λ v. (part : List ℕ) × Contains parts part × Contains part v) s.members v all c

    found : (part : List ℕ) (k : ℕ) → k < length parts → get_or parts k part ≡ part → Contains part v → InPart parts v
    found part k l e m = record {
      place = k;
      within = l;
      has = subst (λ p. Contains p v) (sym (get_or_default parts k [] part l ∙ e)) m;
    }
