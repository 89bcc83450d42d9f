-- Laws of the sums.
use Rattle.std.proofs.Common.{unsigned_abs, ◌≡◌, ℕ, ℤ, pos, ◌<◌, ◌⊎◌, ⊎_elim, ◌+ℤ◌, ◌*ℤ◌, ◌≤ℤ◌, List, [], ◌∷◌, ◌++◌, length, Bool, true, false, refl, sym, ap, arith, zero, suc, ◌==◌, eqb, ◌≢◌, ◌∙◌, ◌+◌, negsuc, not, take, get_or}
use Rattle.std.proofs.Math.IntN.{suc_ℤ-*ℤ, zero-*ℤ}
use Rattle.std.proofs.lemmas.Int.{ints}
use Rattle.std.proofs.lemmas.Bool.{eq-eqb, ne_eqb, cases_eq}
use Rattle.clu_partition.specs.Sums.{total, pair_total, cross_total, only_if, positive}

-- what holds of each element
abbrev pub Each : {A : Type 0} → (A → Type 0) → List A → Type 0
Each P [] = Unit {0}
Each P (x ∷ xs) = P x × Each P xs

-- x is one of the list
abbrev pub Among : {A : Type 0} → A → List A → Type 0
Among c [] = ⊥
Among c (x ∷ xs) = (c ≡ x) ⊎ Among c xs

-- each number is below all that follow it
abbrev pub Rising : List ℕ → Type 0
Rising [] = Unit {0}
Rising (x ∷ xs) = Each (λ y. x < y) xs × Rising xs

-- ---- totals
pub total_cong : {A : Type 0} (f g : A → ℤ) (xs : List A) → ((x : A) → f x ≡ g x) → total f xs ≡ total g xs
total_cong f g [] e = refl
total_cong f g (x ∷ xs) e = let h = total_cong f g xs e in let k = e x in omega (arith, ints, k, h)

pub total_cong_on : {A : Type 0} (f g : A → ℤ) (P : A → Type 0) (xs : List A) → Each P xs → ((x : A) → P x → f x ≡ g x) → total f xs ≡ total g xs
total_cong_on f g P [] all e = refl
total_cong_on f g P (x ∷ xs) all e = let h = total_cong_on f g P xs all.1 e in let k = e x all.0 in omega (arith, ints, k, h)

pub total_le : {A : Type 0} (f g : A → ℤ) (P : A → Type 0) (xs : List A) → Each P xs → ((x : A) → P x → f x ≤ℤ g x) → total f xs ≤ℤ total g xs
total_le f g P [] all e = omega (arith, ints)
total_le f g P (x ∷ xs) all e = let h = total_le f g P xs all.1 e in let k = e x all.0 in omega (arith, ints, k, h)

pub total_add : {A : Type 0} (f g : A → ℤ) (xs : List A) → total (λ x. f x +ℤ g x) xs ≡ total f xs +ℤ total g xs
total_add f g [] = refl
total_add f g (x ∷ xs) = let h = total_add f g xs in omega (arith, ints, h)

pub total_zero : {A : Type 0} (xs : List A) → total (λ _. pos 0) xs ≡ pos 0
total_zero [] = refl
total_zero (x ∷ xs) = let h = total_zero xs in omega (arith, ints, h)

-- as many ones as elements
pub total_ones : {A : Type 0} (xs : List A) → total (λ _. pos 1) xs ≡ pos (length xs)
total_ones [] = refl
total_ones (x ∷ xs) = let h = total_ones xs in omega (arith, ints, h)

pub total_append : {A : Type 0} (f : A → ℤ) (xs ys : List A) → total f (xs ++ ys) ≡ total f xs +ℤ total f ys
total_append f [] ys = omega (arith, ints)
total_append f (x ∷ xs) ys = let h = total_append f xs ys in omega (arith, ints, h)

-- the order of two sums
pub total_swap : {A B : Type 0} (f : A → B → ℤ) (xs : List A) (ys : List B) → total (λ x. total (λ y. f x y) ys) xs ≡ total (λ y. total (λ x. f x y) xs) ys
total_swap f [] ys = sym (total_zero ys)
total_swap f (x ∷ xs) ys =
    let h = total_swap f xs ys in
    let k = total_add (λ y. f x y) (λ y. total (λ z. f z y) xs) ys in
    omega (arith, ints, h, k)

-- ---- the front of a list
pub total_front : {A : Type 0} (f : A → ℤ) → ((x : A) → pos 0 ≤ℤ f x) → (k : ℕ) (xs : List A) → (pos 0 ≤ℤ total f (take k xs)) × (total f (take k xs) ≤ℤ total f xs)
total_front f h zero [] = (omega (arith, ints), omega (arith, ints))
total_front f h (suc k) [] = (omega (arith, ints), omega (arith, ints))
total_front f h zero (x ∷ xs) =
    let i = total_front f h zero xs in
    let a = h x in
    let b = i.0 in
    let c = i.1 in
    (omega (arith, ints), omega (arith, ints, a, b, c))
total_front f h (suc k) (x ∷ xs) =
    let i = total_front f h k xs in
    let a = h x in
    let b = i.0 in
    let c = i.1 in
    (omega (arith, ints, a, b), omega (arith, ints, a, b, c))

pub total_next : {A : Type 0} (f : A → ℤ) (k : ℕ) (xs : List A) (d : A) → k < length xs → total f (take (k + 1) xs) ≡ total f (take k xs) +ℤ f (get_or xs k d)
total_next f k [] d l = absurd (omega arith)
total_next f zero (x ∷ xs) d l = omega (arith, ints)
total_next f (suc k) (x ∷ xs) d l = let h = total_next f k xs d (omega arith) in rw more (omega (arith, ints, h))
  where
    more : suc k + 1 ≡ suc (k + 1)
    more = omega arith

-- ---- a multiple by a natural number
pub scale_add : (k : ℕ) (a b : ℤ) → pos k *ℤ (a +ℤ b) ≡ pos k *ℤ a +ℤ pos k *ℤ b
scale_add zero a b = let h = zero-*ℤ (a +ℤ b) in let i = zero-*ℤ a in let j = zero-*ℤ b in omega (arith, ints, h, i, j)
scale_add (suc k) a b =
    let h = suc_ℤ-*ℤ (pos k) (a +ℤ b) in
    let i = suc_ℤ-*ℤ (pos k) a in
    let j = suc_ℤ-*ℤ (pos k) b in
    let n = scale_add k a b in
    omega (arith, ints, h, i, j, n)

pub scale_le : (k : ℕ) (a b : ℤ) → a ≤ℤ b → (pos k *ℤ a) ≤ℤ (pos k *ℤ b)
scale_le zero a b l = let i = zero-*ℤ a in let j = zero-*ℤ b in omega (arith, ints, i, j)
scale_le (suc k) a b l =
    let i = suc_ℤ-*ℤ (pos k) a in
    let j = suc_ℤ-*ℤ (pos k) b in
    let n = scale_le k a b l in
    omega (arith, ints, i, j, n)

pub total_scale : {A : Type 0} (k : ℕ) (f : A → ℤ) (xs : List A) → total (λ x. pos k *ℤ f x) xs ≡ pos k *ℤ total f xs
total_scale k f [] = omega (arith, ints)
total_scale k f (x ∷ xs) = let h = total_scale k f xs in let i = scale_add k (f x) (total f xs) in omega (arith, ints, h, i)

-- ---- pairs
pub pair_cong_on : {A : Type 0} (f g : A → A → ℤ) (P : A → Type 0) (xs : List A) → Each P xs → ((x y : A) → P x → P y → f x y ≡ g x y) → pair_total f xs ≡ pair_total g xs
pair_cong_on f g P [] all e = refl
pair_cong_on f g P (x ∷ xs) all e =
    let h = pair_cong_on f g P xs all.1 e in
    let k = total_cong_on (f x) (g x) P xs all.1 (λ y p. e x y all.0 p) in
    omega (arith, ints, h, k)

pub pair_le : {A : Type 0} (f g : A → A → ℤ) (P : A → Type 0) (xs : List A) → Each P xs → ((x y : A) → P x → P y → f x y ≤ℤ g x y) → pair_total f xs ≤ℤ pair_total g xs
pair_le f g P [] all e = omega (arith, ints)
pair_le f g P (x ∷ xs) all e =
    let h = pair_le f g P xs all.1 e in
    let k = total_le (f x) (g x) P xs all.1 (λ y p. e x y all.0 p) in
    omega (arith, ints, h, k)

pub pair_add : {A : Type 0} (f g : A → A → ℤ) (xs : List A) → pair_total (λ x y. f x y +ℤ g x y) xs ≡ pair_total f xs +ℤ pair_total g xs
pair_add f g [] = refl
pair_add f g (x ∷ xs) = let h = pair_add f g xs in let k = total_add (f x) (g x) xs in omega (arith, ints, h, k)

pub pair_zero : {A : Type 0} (xs : List A) → pair_total (λ _ _. pos 0) xs ≡ pos 0
pair_zero [] = refl
pair_zero (x ∷ xs) = let h = pair_zero xs in let k = total_zero xs in omega (arith, ints, h, k)

pub pair_scale : {A : Type 0} (k : ℕ) (f : A → A → ℤ) (xs : List A) → pair_total (λ x y. pos k *ℤ f x y) xs ≡ pos k *ℤ pair_total f xs
pair_scale k f [] = omega (arith, ints)
pair_scale k f (x ∷ xs) =
    let h = pair_scale k f xs in
    let i = total_scale k (f x) xs in
    let j = scale_add k (total (f x) xs) (pair_total f xs) in
    omega (arith, ints, h, i, j)

-- a sum over rows of sums over pairs
pub pair_swap : {A B : Type 0} (f : B → A → A → ℤ) (rows : List B) (xs : List A) → pair_total (λ x y. total (λ r. f r x y) rows) xs ≡ total (λ r. pair_total (f r) xs) rows
pair_swap f rows [] = sym (total_zero rows)
pair_swap f rows (x ∷ xs) =
    let h = pair_swap f rows xs in
    let k = total_swap (λ y r. f r x y) xs rows in
    let i = total_add (λ r. total (f r x) xs) (λ r. pair_total (f r) xs) rows in
    omega (arith, ints, h, k, i)

-- a sum over all ordered pairs is twice that over the pairs, and the diagonal
pub square_is : {A : Type 0} (f : A → A → ℤ) → ((x y : A) → f x y ≡ f y x) → (xs : List A) → cross_total f xs xs ≡ pair_total f xs +ℤ pair_total f xs +ℤ total (λ x. f x x) xs
square_is f s [] = refl
square_is f s (x ∷ xs) =
    let h = square_is f s xs in
    let k = total_add (λ z. f z x) (λ z. total (f z) xs) xs in
    let i = total_cong (λ z. f z x) (f x) xs (λ z. s z x) in
    omega (arith, ints, h, k, i)

-- ---- a number at two that are one
pub only_same : (a b : ℕ) (z : ℤ) → a ≡ b → only_if (a == b) z ≡ z
only_same a b z e = ap (λ t. only_if t z) (eq-eqb a b e)

pub only_other : (a b : ℕ) (z : ℤ) → a ≢ b → only_if (a == b) z ≡ pos 0
only_other a b z n = ap (λ t. only_if t z) (ne_eqb a b n)

-- the weight of a pair that shares a label, in either order
pub shared_sym : (w : ℕ → ℕ → ℤ) → ((u v : ℕ) → w u v ≡ w v u) → (label : ℕ → ℕ) (u v : ℕ) → only_if (label u == label v) (w u v) ≡ only_if (label v == label u) (w v u)
shared_sym w s label u v = ⊎_elim
    (λ e. only_same (label u) (label v) (w u v) e ∙ s u v ∙ sym (only_same (label v) (label u) (w v u) (sym e)))
    (λ n. only_other (label u) (label v) (w u v) n ∙ sym (only_other (label v) (label u) (w v u) (λ e. n (sym e))))
    (cases_eq (label u) (label v))

-- ---- picking one element
pub pick_none : (c : ℕ) (z : ℕ → ℤ) (xs : List ℕ) → Each (λ y. c < y) xs → total (λ a. only_if (c == a) (z a)) xs ≡ pos 0
pick_none c z [] all = refl
pick_none c z (x ∷ xs) all =
    let h = pick_none c z xs all.1 in
    let l : eqb c x ≡ false = ne_eqb c x (λ e. omega (arith, e, all.0)) in
    let k : only_if (c == x) (z x) ≡ pos 0 = ap (λ b. only_if b (z x)) l in
    omega (arith, ints, h, k)

-- an element of a list that rises above x is above x
pub below_later : (c x : ℕ) (xs : List ℕ) → Each (λ y. x < y) xs → Among c xs → x < c
below_later c x [] all m = absurd m
below_later c x (y ∷ ys) all m = ⊎_elim (λ e. omega (arith, e, all.0)) (λ n. below_later c x ys all.1 n) m

pick_here : (c x : ℕ) (z : ℕ → ℤ) (xs : List ℕ) → c ≡ x → Each (λ y. x < y) xs → total (λ a. only_if (c == a) (z a)) (x ∷ xs) ≡ z c
pick_here c x z xs e all =
    let l : eqb c x ≡ true = eq-eqb c x e in
    let k : only_if (c == x) (z x) ≡ z x = ap (λ b. only_if b (z x)) l in
    let above : Each (λ y. c < y) xs = rw e all in
    let f : total (λ a. only_if (c == a) (z a)) xs ≡ pos 0 = pick_none c z xs above in
    let i : z c ≡ z x = ap z e in
    omega (arith, ints, k, f, i)

pick_there : (c x : ℕ) (z : ℕ → ℤ) (xs : List ℕ) → x < c → total (λ a. only_if (c == a) (z a)) xs ≡ z c → total (λ a. only_if (c == a) (z a)) (x ∷ xs) ≡ z c
pick_there c x z xs b h =
    let l : eqb c x ≡ false = ne_eqb c x (λ e. omega (arith, e, b)) in
    let k : only_if (c == x) (z x) ≡ pos 0 = ap (λ b. only_if b (z x)) l in
    omega (arith, ints, k, h)

pub pick_one : (c : ℕ) (z : ℕ → ℤ) (xs : List ℕ) → Rising xs → Among c xs → total (λ a. only_if (c == a) (z a)) xs ≡ z c
pick_one c z [] r m = absurd m
pick_one c z (x ∷ xs) r m = ⊎_elim
    (λ e. pick_here c x z xs e r.0)
    (λ n. pick_there c x z xs (below_later c x xs r.0 n) (pick_one c z xs r.1 n))
    m

-- ---- sums that are not negative
pub zero_least : (n : ℕ) → pos 0 ≤ℤ pos n
zero_least n = omega (arith, ints)

pub only_least : (b : Bool) (n : ℕ) → pos 0 ≤ℤ only_if b (pos n)
only_least true n = omega (arith, ints)
only_least false n = omega (arith, ints)

pub total_least : {A : Type 0} (f : A → ℤ) (xs : List A) → ((x : A) → pos 0 ≤ℤ f x) → pos 0 ≤ℤ total f xs
total_least f [] h = omega (arith, ints)
total_least f (x ∷ xs) h = let i = total_least f xs h in let k = h x in omega (arith, ints, i, k)

pub pair_least : {A : Type 0} (f : A → A → ℤ) (xs : List A) → ((x y : A) → pos 0 ≤ℤ f x y) → pos 0 ≤ℤ pair_total f xs
pair_least f [] h = omega (arith, ints)
pair_least f (x ∷ xs) h = let i = pair_least f xs h in let k = total_least (f x) xs (h x) in omega (arith, ints, i, k)

-- the size of a sum of sizes is the sum
pub size_of_counts : {A : Type 0} (f : A → A → ℕ) (xs : List A) (sum : ℤ) (size : ℕ) → size ≡ unsigned_abs sum → sum ≡ pair_total (λ x y. pos (f x y)) xs → pos size ≡ pair_total (λ x y. pos (f x y)) xs
size_of_counts f xs sum size e is = let h = pair_least (λ x y. pos (f x y)) xs (λ x y. zero_least (f x y)) in omega (arith, ints, h, e, is)

-- the positive part of a number is no larger than its size
pub positive_size : (a : Bool) (z : ℤ) → only_if (not a) (pos (positive z)) ≤ℤ pos (unsigned_abs z)
positive_size true (pos n) = omega (arith, ints)
positive_size true (negsuc n) = omega (arith, ints)
positive_size false (pos n) = omega (arith, ints)
positive_size false (negsuc n) = omega (arith, ints)
