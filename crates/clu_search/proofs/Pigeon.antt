-- A list without repeats, all of it among another, is no longer than that.
use Rattle.std.proofs.Common.{◌≡◌, ℕ, ◌<◌, ◌≤◌, ◌≢◌, ◌⊎◌, inl, inr, List, [], ◌∷◌, ◌++◌, length, map, filter, get_or, Contains, cond, refl, sym, ap, ◌∙◌, arith, zero, suc, Bool, true, false}
use Rattle.std.proofs.lemmas.List.{length-map}
use Rattle.clu_partition.proofs.SumLaws.{Each, Among}
use Rattle.clu_partition.proofs.ListLaws.{each_append, each_map}

-- each differs from all that follow it, in the given sense
abbrev pub Pairwise : {A : Type 0} → (A → A → Type 0) → List A → Type 0
Pairwise R [] = Unit {0}
Pairwise R (x ∷ xs) = Each (R x) xs × Pairwise R xs

-- ---- one element less
-- the list without the one that was found
without : {A : Type 0} (c : A) (xs : List A) → Among c xs → List A
without c [] m = []
without c (x ∷ xs) (inl e) = xs
without c (x ∷ xs) (inr n) = x ∷ without c xs n

without_length : {A : Type 0} (c : A) (xs : List A) (m : Among c xs) → length xs ≡ suc (length (without c xs m))
unfolding without
without_length c [] m = absurd m
without_length c (x ∷ xs) (inl e) = refl
without_length c (x ∷ xs) (inr n) = ap suc (without_length c xs n)

stays_among : {A : Type 0} (c d : A) (xs : List A) (m : Among c xs) → c ≢ d → Among d xs → Among d (without c xs m)
unfolding without
stays_among c d [] m n k = absurd k
stays_among c d (x ∷ xs) (inl e) n (inl f) = absurd (n (e ∙ sym f))
stays_among c d (x ∷ xs) (inl e) n (inr k) = k
stays_among c d (x ∷ xs) (inr m) n (inl f) = inl f
stays_among c d (x ∷ xs) (inr m) n (inr k) = inr (stays_among c d xs m n k)

all_stay : {A : Type 0} (c : A) (ys : List A) (m : Among c ys) (xs : List A) → Each (λ x. c ≢ x) xs → Each (λ x. Among x ys) xs →
    Each (λ x. Among x (without c ys m)) xs
all_stay c ys m [] n a = tt
all_stay c ys m (x ∷ xs) n a = (stays_among c x ys m n.0 a.0, all_stay c ys m xs n.1 a.1)

pub pigeon : {A : Type 0} (xs ys : List A) → Pairwise (λ x y. x ≢ y) xs → Each (λ x. Among x ys) xs → length xs ≤ length ys
pigeon [] ys p a = omega arith
pigeon (x ∷ xs) ys p a =
    let h = pigeon xs (without x ys a.0) p.1 (all_stay x ys a.0 xs p.0 a.1) in
    let k = without_length x ys a.0 in
    omega (arith, h, k)

-- ---- what holds of each element, in a mapped list and in two lists
pub each_mapped : {A B : Type 0} (P : B → Type 0) (f : A → B) (xs : List A) → Each (λ x. P (f x)) xs → Each P (map f xs)
each_mapped P f [] a = tt
each_mapped P f (x ∷ xs) a = (a.0, each_mapped P f xs a.1)

pub each_cross : {A B : Type 0} (P : A → Type 0) (Q : B → Type 0) (R : A → B → Type 0) (xs : List A) (ys : List B) →
    ((x : A) (y : B) → P x → Q y → R x y) → Each P xs → Each Q ys → Each (λ x. Each (R x) ys) xs
each_cross P Q R [] ys h a b = tt
each_cross P Q R (x ∷ xs) ys h a b = (each_map Q (R x) ys (λ y q. h x y a.0 q) b, each_cross P Q R xs ys h a.1 b)

-- ---- what holds of each two elements
pub pairwise_weaker : {A : Type 0} (R S : A → A → Type 0) (xs : List A) → ((x y : A) → R x y → S x y) → Pairwise R xs → Pairwise S xs
pairwise_weaker R S [] h p = tt
pairwise_weaker R S (x ∷ xs) h p = (each_map (R x) (S x) xs (h x) p.0, pairwise_weaker R S xs h p.1)

pub pairwise_mapped : {A B : Type 0} (R : A → A → Type 0) (S : B → B → Type 0) (f : A → B) (xs : List A) →
    ((x y : A) → R x y → S (f x) (f y)) → Pairwise R xs → Pairwise S (map f xs)
pairwise_mapped R S f [] h p = tt
pairwise_mapped R S f (x ∷ xs) h p =
    (each_mapped (S (f x)) f xs (each_map (R x) (λ y. S (f x) (f y)) xs (h x) p.0), pairwise_mapped R S f xs h p.1)

-- all of one list differ from all of the other
pub pairwise_append : {A : Type 0} (R : A → A → Type 0) (xs ys : List A) → Pairwise R xs → Pairwise R ys → Each (λ x. Each (R x) ys) xs →
    Pairwise R (xs ++ ys)
pairwise_append R [] ys p q a = q
pairwise_append R (x ∷ xs) ys p q a = (each_append (R x) xs ys p.0 a.0, pairwise_append R xs ys p.1 q a.1)

-- ---- an element of a list
among_at : {A : Type 0} (xs : List A) (k : ℕ) (c : A) → k < length xs → get_or xs k c ≡ c → Among c xs
among_at [] k c l e = absurd (omega arith)
among_at (x ∷ xs) zero c l e = inl (sym e)
among_at (x ∷ xs) (suc k) c l e = inr (among_at xs k c (omega arith) e)

pub among_contains : {A : Type 0} (xs : List A) (c : A) → Contains xs c → Among c xs
among_contains xs c h = among_at xs h.0 c h.1 h.2

pub among_mapped : {A B : Type 0} (f : A → B) (c : A) (xs : List A) → Among c xs → Among (f c) (map f xs)
among_mapped f c [] m = absurd m
among_mapped f c (x ∷ xs) (inl e) = inl (ap f e)
among_mapped f c (x ∷ xs) (inr m) = inr (among_mapped f c xs m)

pub among_left : {A : Type 0} (c : A) (xs ys : List A) → Among c xs → Among c (xs ++ ys)
among_left c [] ys m = absurd m
among_left c (x ∷ xs) ys (inl e) = inl e
among_left c (x ∷ xs) ys (inr m) = inr (among_left c xs ys m)

pub among_right : {A : Type 0} (c : A) (xs ys : List A) → Among c ys → Among c (xs ++ ys)
among_right c [] ys m = m
among_right c (x ∷ xs) ys m = inr (among_right c xs ys m)

pub among_either : {A : Type 0} (c : A) (xs ys : List A) → Among c (xs ++ ys) → Among c xs ⊎ Among c ys
among_either c [] ys m = inr m
among_either c (x ∷ xs) ys (inl e) = inl (inl e)
among_either c (x ∷ xs) ys (inr m) = further (among_either c xs ys m)
  where
    further : Among c xs ⊎ Among c ys → ((c ≡ x) ⊎ Among c xs) ⊎ Among c ys
    further (inl h) = inl (inr h)
    further (inr k) = inr k

among_cond : {A : Type 0} (b : Bool) (c x : A) (ys : List A) → ((c ≡ x) × (b ≡ true)) ⊎ Among c ys → Among c (cond b (x ∷ ys) ys)
among_cond true c x ys (inl e) = inl e.0
among_cond true c x ys (inr m) = inr m
among_cond false c x ys (inl e) = absurd (cc)
among_cond false c x ys (inr m) = m

pub among_filtered : {A : Type 0} (test : A → Bool) (c : A) (xs : List A) → Among c xs → test c ≡ true → Among c (filter test xs)
among_filtered test c [] m t = absurd m
among_filtered test c (x ∷ xs) (inl e) t = among_cond (test x) c x (filter test xs) (inl (e, ap test (sym e) ∙ t))
among_filtered test c (x ∷ xs) (inr m) t = among_cond (test x) c x (filter test xs) (inr (among_filtered test c xs m t))

-- ---- a family
-- where different members of a family give different things of a list, the family is no longer than the list
pub pigeon_mapped : {A B : Type 0} (R : A → A → Type 0) (f : A → B) (xs : List A) (ys : List B) → ((x y : A) → R x y → f x ≢ f y) →
    Pairwise R xs → Each (λ x. Among (f x) ys) xs → length xs ≤ length ys
pigeon_mapped R f xs ys h p a =
    let k = pigeon (map f xs) ys (pairwise_mapped R (λ x y. x ≢ y) f xs h p) (each_mapped (λ y. Among y ys) f xs a) in
    let e = length-map xs f in
    omega (arith, k, e)
