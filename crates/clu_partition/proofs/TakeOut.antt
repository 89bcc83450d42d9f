-- One or two numbers taken out of a list, and what that does to sums.
use Rattle.std.proofs.Common.{◌≡◌, ℕ, ℤ, ◌<◌, ◌≢◌, inl, inr, ⊎_elim, ◌+ℤ◌, List, [], ◌∷◌, length, refl, sym, ap, arith, suc, subst}
use Rattle.std.proofs.lemmas.Int.{ints}
use Rattle.clu_partition.specs.Sums.{total, pair_total}
use Rattle.clu_partition.proofs.SumLaws.{Each, Among, Rising}
use Rattle.clu_partition.proofs.ListLaws.{each_among, each_map}

-- the second list is the first with t put in at some place
pub data Splice (t : ℕ) : List ℕ → List ℕ → Type 0 where
  here : {r : List ℕ} → Splice t r (t ∷ r)
  there : {x : ℕ} {r l : List ℕ} → Splice t r l → Splice t (x ∷ r) (x ∷ l)

pub splice_length : {t : ℕ} {r l : List ℕ} → Splice t r l → length l ≡ suc (length r)
splice_length here = refl
splice_length (there s) = ap suc (splice_length s)

pub splice_total : (f : ℕ → ℤ) {t : ℕ} {r l : List ℕ} → Splice t r l → total f l ≡ f t +ℤ total f r
splice_total f here = refl
splice_total f (there s) = let h = splice_total f s in omega (arith, ints, h)

pub splice_pairs : (f : ℕ → ℕ → ℤ) → ((x y : ℕ) → f x y ≡ f y x) → (t : ℕ) {r l : List ℕ} → Splice t r l → pair_total f l ≡ total (f t) r +ℤ pair_total f r
splice_pairs f sy t here = refl
splice_pairs f sy t (there {x} {r} {l} s) =
    let h = splice_pairs f sy t s in
    let k = splice_total (f x) s in
    let e = sy x t in
    omega (arith, ints, h, k, e)

-- ---- two groups taken out of the list
pub record TwoOut (groups : List ℕ) (u v : ℕ) : Type 0 where
  pub once : List ℕ
  pub rest : List ℕ
  pub first : Splice u once groups
  pub second : Splice v rest once
  pub not_first : Each (λ x. x ≢ u) rest
  pub not_second : Each (λ x. x ≢ v) rest
  pub inside : Each (λ x. Among x groups) rest

take_out : (t : ℕ) (l : List ℕ) → Among t l → (r : List ℕ) × Splice t r l
take_out t [] m = absurd m
take_out t (x ∷ xs) m = ⊎_elim (λ e. (xs, subst (λ c. Splice t xs (c ∷ xs)) e here)) (λ n. let p : (r : List ℕ) × Splice t r xs = take_out t xs n in ((x ∷ p.0), there p.1)) m

pub each_splice : (P : ℕ → Type 0) {t : ℕ} {r l : List ℕ} → Splice t r l → Each P l → Each P r
each_splice P here p = p.1
each_splice P (there s) p = (p.0, each_splice P s p.1)

splice_here : (P : ℕ → Type 0) {t : ℕ} {r l : List ℕ} → Splice t r l → Each P l → P t
splice_here P here p = p.0
splice_here P (there s) p = splice_here P s p.1

splice_differ : {t : ℕ} {r l : List ℕ} → Splice t r l → Rising l → Each (λ x. x ≢ t) r
splice_differ {t} (here {r}) up = each_map (λ y. t < y) (λ y. y ≢ t) r (λ y l e. omega (arith, l, e)) up.0
splice_differ {t} (there {x} s) up = (below x t (splice_here (λ y. x < y) s up.0), splice_differ s up.1)
  where
    below : (x t : ℕ) → x < t → x ≢ t
    below x t l e = omega (arith, l, e)

among_rest : (x : ℕ) {t : ℕ} {r l : List ℕ} → Splice t r l → Among x l → x ≢ t → Among x r
among_rest x here m n = ⊎_elim (λ e. absurd (n e)) (λ a. a) m
among_rest x (there s) m n = ⊎_elim (λ e. inl e) (λ a. inr (among_rest x s a n)) m

pub rising_splice : {t : ℕ} {r l : List ℕ} → Splice t r l → Rising l → Rising r
rising_splice here up = up.1
rising_splice (there {x} s) up = (each_splice (λ y. x < y) s up.0, rising_splice s up.1)

pub two_out : (groups : List ℕ) (u v : ℕ) → Rising groups → Among u groups → Among v groups → u ≢ v → TwoOut groups u v
two_out groups u v up mu mv n =
    let p : (r : List ℕ) × Splice u r groups = take_out u groups mu in
    let q : (r : List ℕ) × Splice v r p.0 = take_out v p.0 (among_rest v p.1 mv (λ e. n (sym e))) in
    record {
      once = p.0;
      rest = q.0;
      first = p.1;
      second = q.1;
      not_first = each_splice (λ x. x ≢ u) q.1 (splice_differ p.1 up);
      not_second = splice_differ q.1 (rising_splice p.1 up);
      inside = each_splice (λ x. Among x groups) q.1 (each_splice (λ x. Among x groups) p.1 (each_among groups));
    }

pub out_pairs : (f : ℕ → ℕ → ℤ) → ((x y : ℕ) → f x y ≡ f y x) → (groups : List ℕ) (u v : ℕ) (o : TwoOut groups u v) →
    pair_total f groups ≡ f u v +ℤ total (f u) o.rest +ℤ total (f v) o.rest +ℤ pair_total f o.rest
out_pairs f s groups u v o =
    let h = splice_pairs f s u o.first in
    let k = splice_pairs f s v o.second in
    let i = splice_total (f u) o.second in
    omega (arith, ints, h, k, i)
