-- Numbers from 1 on a line, read up to some place.
use Rattle.std.proofs.Common.{◌≡◌, ℕ, ◌+◌, List, [], ◌∷◌, ◌++◌, map, codes, refl, sym, ◌∙◌, subst, arith, append_assoc}
use Rattle.std.specs.List.{AllByRecursion}
use Rattle.std.proofs.lemmas.List.{append-nil, map-append}
use Rattle.clu_cert.specs.Text.{from_one}
use Rattle.clu_cert.specs.Fits.{IndexFits}
use Rattle.clu_cert.proofs.Plain.{value_is, starts, Starts}

pub same_place : (m n : ℕ) → IndexFits m → IndexFits n → from_one m ≡ from_one n → m ≡ n
same_place m n p q e =
    let a = value_is (n + 1) (from_one m) (omega arith) e in
    let b = value_is (m + 1) (from_one m) (omega arith) refl in
    omega (arith, a.1, b.1)

pub no_slash : (n : ℕ) → IndexFits n → codes "/" ≡ from_one n → ⊥
no_slash n p e =
    let s : Starts (n + 1) (codes "/") = subst (Starts (n + 1)) (sym e) (starts (n + 1) (omega arith)) in
    omega (arith, s.1)

pub all_append : (P : ℕ → Type 0) (xs ys : List ℕ) → AllByRecursion P xs → AllByRecursion P ys → AllByRecursion P (xs ++ ys)
all_append P [] ys a b = b
all_append P (x ∷ xs) ys a b = (a.0, all_append P xs ys a.1 b)

pub spelled_more : (whole left : List (List ℕ)) (field : List ℕ) (done : List ℕ) (n : ℕ) → whole ≡ map from_one done ++ (field ∷ left)
    → field ≡ from_one n → whole ≡ map from_one (done ++ (n ∷ [])) ++ left
spelled_more whole left field done n e is =
    e ∙ (λ i. map from_one done ++ (is i ∷ left)) ∙ sym (append_assoc (map from_one done) (from_one n ∷ []) left)
    ∙ (λ i. sym (map-append from_one done (n ∷ [])) i ++ left)

-- what else the same fields may spell, behind the numbers that are read
pub record Rest (done : List ℕ) (left : List (List ℕ)) (ns : List ℕ) (tail : List (List ℕ)) : Type 0 where
  pub more : List ℕ
  pub is : ns ≡ done ++ more
  pub left_is : left ≡ map from_one more ++ tail
  pub fits : AllByRecursion IndexFits more

pub rest_of : (done ns : List ℕ) (left tail : List (List ℕ)) → ((n : ℕ) (rest : List (List ℕ)) → IndexFits n → from_one n ∷ rest ≡ tail → ⊥)
    → AllByRecursion IndexFits done → AllByRecursion IndexFits ns → map from_one done ++ left ≡ map from_one ns ++ tail → Rest done left ns tail
rest_of [] ns left tail ends a b e = record { more = ns; is = refl; left_is = e; fits = b }
rest_of (d ∷ done) [] left tail ends a b e = absurd (ends d (map from_one done ++ left) a.0 e)
rest_of (d ∷ done) (n ∷ ns) left tail ends a b e =
    let first : from_one d ≡ from_one n = cc e in
    let others : map from_one done ++ left ≡ map from_one ns ++ tail = cc e in
    let same : d ≡ n = same_place d n a.0 b.0 first in
    let r = rest_of done ns left tail ends a.1 b.1 others in
    record { more = r.more; is = (λ i. sym same i ∷ r.is i); left_is = r.left_is; fits = r.fits }

pub ends_nil : (n : ℕ) (rest : List (List ℕ)) → IndexFits n → from_one n ∷ rest ≡ [] → ⊥
ends_nil n rest p e = cc e

pub ends_slash : (t : List (List ℕ)) (n : ℕ) (rest : List (List ℕ)) → IndexFits n → from_one n ∷ rest ≡ codes "/" ∷ t → ⊥
ends_slash t n rest p e = let first : from_one n ≡ codes "/" = cc e in no_slash n p (sym first)

-- all is read
pub only_all : (whole : List (List ℕ)) (done ns : List ℕ) → AllByRecursion IndexFits done → whole ≡ map from_one done ++ []
    → AllByRecursion IndexFits ns → whole ≡ map from_one ns → ns ≡ done
only_all whole done ns a e b is =
    let r = rest_of done ns [] [] ends_nil a b (sym e ∙ is ∙ sym (append-nil (map from_one ns))) in
    none_more r.more r.is r.left_is
  where
    none_more : (more : List ℕ) → ns ≡ done ++ more → [] ≡ map from_one more ++ [] → ns ≡ done
    none_more [] is left_is = is ∙ append-nil done
    none_more (m ∷ more) is left_is = absurd (cc left_is)

-- a field that is no number from 1 to 1,000
pub bad_field : (whole left : List (List ℕ)) (field : List ℕ) (done ns : List ℕ) (tail : List (List ℕ))
    → ((n : ℕ) (rest : List (List ℕ)) → IndexFits n → from_one n ∷ rest ≡ tail → ⊥)
    → (field ∷ left ≡ tail → ⊥) → AllByRecursion IndexFits done → whole ≡ map from_one done ++ (field ∷ left)
    → ((n : ℕ) → IndexFits n → field ≡ from_one n → ⊥)
    → AllByRecursion IndexFits ns → whole ≡ map from_one ns ++ tail → ⊥
bad_field whole left field done ns tail ends other a e none b is =
    let r = rest_of done ns (field ∷ left) tail ends a b (sym e ∙ is) in at r.more r.left_is r.fits
  where
    at : (more : List ℕ) → field ∷ left ≡ map from_one more ++ tail → AllByRecursion IndexFits more → ⊥
    at [] left_is fits = other left_is
    at (m ∷ more) left_is fits = none m fits.0 (cc left_is)

-- a slash behind the numbers
pub only_slash : (whole left : List (List ℕ)) (done ns : List ℕ) (t : List (List ℕ)) → AllByRecursion IndexFits done
    → whole ≡ map from_one done ++ (codes "/" ∷ left)
    → AllByRecursion IndexFits ns → whole ≡ map from_one ns ++ (codes "/" ∷ t) → (ns ≡ done) × (t ≡ left)
only_slash whole left done ns t a e b is =
    let r = rest_of done ns (codes "/" ∷ left) (codes "/" ∷ t) (ends_slash t) a b (sym e ∙ is) in at r.more r.is r.left_is r.fits
  where
    at : (more : List ℕ) → ns ≡ done ++ more → codes "/" ∷ left ≡ map from_one more ++ (codes "/" ∷ t) → AllByRecursion IndexFits more → (ns ≡ done)
        × (t ≡ left)
    at [] is left_is fits = (is ∙ append-nil done, cc left_is)
    at (m ∷ more) is left_is fits = absurd (no_slash m fits.0 (cc left_is))

-- no slash comes
pub no_slash_left : (whole : List (List ℕ)) (done ns : List ℕ) (t : List (List ℕ)) → AllByRecursion IndexFits done → whole ≡ map from_one done ++ []
    → AllByRecursion IndexFits ns → whole ≡ map from_one ns ++ (codes "/" ∷ t) → ⊥
no_slash_left whole done ns t a e b is =
    let r = rest_of done ns [] (codes "/" ∷ t) (ends_slash t) a b (sym e ∙ is) in at r.more r.left_is
  where
    at : (more : List ℕ) → [] ≡ map from_one more ++ (codes "/" ∷ t) → ⊥
    at [] left_is = cc left_is
    at (m ∷ more) left_is = cc left_is
