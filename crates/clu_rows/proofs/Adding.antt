-- Adding to a pair's number.
use Rattle.std.proofs.Common.{◌≡◌, ◌≢◌, ◌⊎◌, inl, inr, ⊎_elim, ℕ, ◌<◌, ◌≤◌, ◌+◌, ◌*◌, ℤ, pos, ◌+ℤ◌, List, [], ◌∷◌, length, take, drop, neg_ℤ, ◌-◌, length-drop, get_or, Bool, true, false, refl, ap, ◌∙◌, subst, arith, zero, suc, unsigned_abs}
use Rattle.std.proofs.Math.Seq.{take-length}
use Rattle.std.proofs.lemmas.Int.{ints}
use Rattle.std.proofs.lemmas.Bool.{cases_eq}
use Rattle.clu_partition.specs.Sums.{total, pair_total, cross_total, only_if}
use Rattle.std.proofs.Math.Nat.{mul-le-mul_right}
use Rattle.clu_partition.specs.Pairs.{Pairs, weight_of, are_pair}
use Rattle.clu_partition.proofs.TableLaws.{weight_same}
use Rattle.clu_rows.specs.Prices.{hit}
use Rattle.clu_partition.proofs.ListLaws.{tail_is}
use Rattle.clu_partition.proofs.SumLaws.{total_next}

-- the sum of f over the pairs of which the first is one of the first i
abbrev pub part : (ℕ → ℕ → ℤ) → ℕ → List ℕ → ℤ
part f zero vs = pos 0
part f (suc i) [] = pos 0
part f (suc i) (v ∷ vs) = total (f v) vs +ℤ part f i vs

-- sums of are_pair are no larger than their number times k
pub hits_small : (group : ℕ → ℕ) (x z v : ℕ) (k : ℤ) (n : ℕ) (ws : List ℕ) → unsigned_abs (total (hit group x z k v) (take n ws)) ≤ length ws * unsigned_abs k
hits_small group x z v k zero ws = omega arith
hits_small group x z v k (suc n) [] = omega arith
hits_small group x z v k (suc n) (w ∷ ws) = one (are_pair (group v) (group w) x z) k (total (hit group x z k v) (take n ws)) (length ws) (hits_small group x z v k n ws)
  where
    one : (b : Bool) (k t : ℤ) (m : ℕ) → unsigned_abs t ≤ m * unsigned_abs k → unsigned_abs (only_if b k +ℤ t) ≤ suc m * unsigned_abs k
    one true k t m h = let e : suc m * unsigned_abs k ≡ m * unsigned_abs k + unsigned_abs k = omega arith in omega (arith, ints, e, h)
    one false k t m h = let e : suc m * unsigned_abs k ≡ m * unsigned_abs k + unsigned_abs k = omega arith in omega (arith, ints, e, h)

pub step_sums : (group : ℕ → ℕ) (x z v i : ℕ) (k : ℤ) (ws : List ℕ) (w ga gw : ℕ) (o m n : ℤ) → i < length ws → w ≡ get_or ws i w → ga ≡ group v → gw ≡ group w → n ≡ m +ℤ only_if (are_pair ga gw x z) k → m ≡ o +ℤ total (hit group x z k v) (take i ws) →
    n ≡ o +ℤ total (hit group x z k v) (take (i + 1) ws)
step_sums group x z v i k ws w ga gw o m n l iw ea eb e f =
    let t = total_next (hit group x z k v) i ws w l in
    let p = ap (λ y. hit group x z k v y) iw in
    let q : only_if (are_pair ga gw x z) k ≡ hit group x z k v w = ap (λ a. only_if (are_pair a gw x z) k) ea ∙ ap (λ b. only_if (are_pair (group v) b x z) k) eb in
    omega (arith, ints, t, p, q, e, f)

pub step_small : (P : ℕ → Type 0) (old now : Pairs) (group : ℕ → ℕ) (v i a b top : ℕ) (k : ℤ) (ws : List ℕ) →
    ((x z : ℕ) → P x → P z → x ≢ z → weight_of now x z ≡ weight_of old x z +ℤ total (hit group x z k v) (take i ws)) →
    ((x z : ℕ) → P x → P z → unsigned_abs (weight_of old x z) + (length ws + 1) * unsigned_abs k < top) →
    P a → P b → unsigned_abs (weight_of now a b) + unsigned_abs k < top
step_small P old now group v i a b top k ws sums small la lb =
    let s = small a b la lb in
    let m : (length ws + 1) * unsigned_abs k ≡ length ws * unsigned_abs k + unsigned_abs k = omega arith in
    ⊎_elim
    (λ q. let w = weight_same now a b q in omega (arith, ints, s, m, w))
    (λ d. let t = sums a b la lb d in let h = hits_small group a b v k i ws in omega (arith, ints, s, m, t, h))
    (cases_eq a b)

pub all_taken : {A : Type 0} (f : A → ℤ) (i : ℕ) (ws : List A) (o m : ℤ) → i ≡ length ws → m ≡ o +ℤ total f (take i ws) → m ≡ o +ℤ total f ws
all_taken f i ws o m e h = h ∙ ap (λ t. o +ℤ total f t) (ap (λ j. take j ws) e ∙ take-length ws)

-- ---- a list of vertices with another, and with those after it
pub hits_all : (group : ℕ → ℕ) (x z v : ℕ) (k : ℤ) (ws : List ℕ) → unsigned_abs (total (hit group x z k v) ws) ≤ length ws * unsigned_abs k
hits_all group x z v k ws = subst (λ t. unsigned_abs (total (hit group x z k v) t) ≤ length ws * unsigned_abs k) (take-length ws) (hits_small group x z v k (length ws) ws)

pub step_across : (f : ℕ → ℤ) (i v : ℕ) (vs : List ℕ) (o m n : ℤ) → i < length vs → v ≡ get_or vs i v → n ≡ m +ℤ f v → m ≡ o +ℤ total f (take i vs) → n ≡ o +ℤ total f (take (i + 1) vs)
step_across f i v vs o m n l e g h = let t = total_next f i vs v l in let p = ap f e in omega (arith, ints, t, p, g, h)

pub front_small : (f : ℕ → ℤ) (u : ℕ) → ((v : ℕ) → unsigned_abs (f v) ≤ u) → (i : ℕ) (vs : List ℕ) → unsigned_abs (total f (take i vs)) ≤ i * u
front_small f u h zero vs = omega arith
front_small f u h (suc i) [] = omega arith
front_small f u h (suc i) (v ∷ vs) = let a = front_small f u h i vs in let b = h v in let e : suc i * u ≡ i * u + u = omega arith in omega (arith, ints, a, b, e)

room : (cell old t : ℤ) (i n u top : ℕ) → i < n → unsigned_abs old + n * u < top → unsigned_abs t ≤ i * u → (cell ≡ old +ℤ t) ⊎ (cell ≡ pos 0) → unsigned_abs cell + u < top
room cell old t i n u top l h s c =
    let m : suc i * u ≤ n * u = mul-le-mul_right u l in
    let e : suc i * u ≡ i * u + u = omega arith in
    ⊎_elim (λ q. omega (arith, ints, h, s, m, e, q)) (λ q. omega (arith, ints, h, m, e, q)) c

pub across_room : (P : ℕ → Type 0) (old now : Pairs) (group : ℕ → ℕ) (i top : ℕ) (k : ℤ) (vs ws : List ℕ) → i < length vs →
    ((x z : ℕ) → P x → P z → x ≢ z → weight_of now x z ≡ weight_of old x z +ℤ cross_total (hit group x z k) (take i vs) ws) →
    ((x z : ℕ) → P x → P z → unsigned_abs (weight_of old x z) + length vs * ((length ws + 1) * unsigned_abs k) < top) →
    (x z : ℕ) → P x → P z → unsigned_abs (weight_of now x z) + (length ws + 1) * unsigned_abs k < top
across_room P old now group i top k vs ws l sums small x z lx lz =
    let f = front_small (λ v. total (hit group x z k v) ws) ((length ws + 1) * unsigned_abs k) (λ v. let h = hits_all group x z v k ws in let m : (length ws + 1) * unsigned_abs k ≡ length ws * unsigned_abs k + unsigned_abs k = omega arith in omega (arith, h, m)) i vs in
    room (weight_of now x z) (weight_of old x z) (cross_total (hit group x z k) (take i vs) ws) i (length vs) ((length ws + 1) * unsigned_abs k) top l (small x z lx lz) f
    (⊎_elim (λ q. inr (weight_same now x z q)) (λ d. inl (sums x z lx lz d)) (cases_eq x z))

pub part_next : (f : ℕ → ℕ → ℤ) (i v : ℕ) (vs : List ℕ) → i < length vs → v ≡ get_or vs i v → part f (i + 1) vs ≡ part f i vs +ℤ total (f v) (drop (i + 1) vs)
part_next f i v [] l e = absurd (omega arith)
part_next f zero v (w ∷ vs) l e = let a = ap (λ t. total (f t) vs) e in omega (arith, ints, a)
part_next f (suc i) v (w ∷ vs) l e = let h = part_next f i v vs (omega arith) e in rw more (omega (arith, ints, h))
  where
    more : suc i + 1 ≡ suc (i + 1)
    more = omega arith

pub part_all : (f : ℕ → ℕ → ℤ) (vs : List ℕ) → part f (length vs) vs ≡ pair_total f vs
part_all f [] = refl
part_all f (v ∷ vs) = let h = part_all f vs in omega (arith, ints, h)

pub part_small : (group : ℕ → ℕ) (x z : ℕ) (k : ℤ) (u i : ℕ) (vs : List ℕ) → length vs * unsigned_abs k ≤ u → unsigned_abs (part (hit group x z k) i vs) ≤ i * u
part_small group x z k u zero vs h = omega arith
part_small group x z k u (suc i) [] h = omega arith
part_small group x z k u (suc i) (v ∷ vs) h =
    let m : suc (length vs) * unsigned_abs k ≡ length vs * unsigned_abs k + unsigned_abs k = omega arith in
    let a = part_small group x z k u i vs (omega (arith, h, m)) in
    let b = hits_all group x z v k vs in
    let e : suc i * u ≡ i * u + u = omega arith in
    omega (arith, ints, a, b, e, h, m)

pub inside_room : (P : ℕ → Type 0) (old now : Pairs) (group : ℕ → ℕ) (i top : ℕ) (k : ℤ) (vs ws : List ℕ) → i < length vs → length ws + 1 ≤ length vs →
    ((x z : ℕ) → P x → P z → x ≢ z → weight_of now x z ≡ weight_of old x z +ℤ part (hit group x z k) i vs) →
    ((x z : ℕ) → P x → P z → unsigned_abs (weight_of old x z) + length vs * (length vs * unsigned_abs k) < top) →
    (x z : ℕ) → P x → P z → unsigned_abs (weight_of now x z) + (length ws + 1) * unsigned_abs k < top
inside_room P old now group i top k vs ws l short sums small x z lx lz =
    let f = part_small group x z k (length vs * unsigned_abs k) i vs (omega arith) in
    let r = room (weight_of now x z) (weight_of old x z) (part (hit group x z k) i vs) i (length vs) (length vs * unsigned_abs k) top l (small x z lx lz) f
    (⊎_elim (λ q. inr (weight_same now x z q)) (λ d. inl (sums x z lx lz d)) (cases_eq x z)) in
    let m : (length ws + 1) * unsigned_abs k ≤ length vs * unsigned_abs k = mul-le-mul_right (unsigned_abs k) short in
    omega (arith, r, m)

pub tail_short : (i : ℕ) (xs : List ℕ) → i < length xs → length (take (length xs - (i + 1)) (drop (i + 1) xs)) + 1 ≤ length xs
tail_short i xs l = let e = ap length (tail_is (i + 1) xs) in let f = length-drop (i + 1) xs in omega (arith, e, f, l)

pub step_inside : (f : ℕ → ℕ → ℤ) (i v : ℕ) (vs ws : List ℕ) (o m n : ℤ) → i < length vs → v ≡ get_or vs i v → ws ≡ drop (i + 1) vs → n ≡ m +ℤ total (f v) ws → m ≡ o +ℤ part f i vs → n ≡ o +ℤ part f (i + 1) vs
step_inside f i v vs ws o m n l e d g h = let p = part_next f i v vs l e in let q = ap (total (f v)) d in omega (arith, ints, p, q, g, h)

pub all_inside : (f : ℕ → ℕ → ℤ) (i : ℕ) (vs : List ℕ) (o m : ℤ) → i ≡ length vs → m ≡ o +ℤ part f i vs → m ≡ o +ℤ pair_total f vs
all_inside f i vs o m e h = h ∙ ap (λ t. o +ℤ t) (ap (λ j. part f j vs) e ∙ part_all f vs)

hit_neg : (b : Bool) (k : ℤ) → only_if b (neg_ℤ k) ≡ neg_ℤ (only_if b k)
hit_neg true k = refl
hit_neg false k = refl

total_neg : (group : ℕ → ℕ) (x z v : ℕ) (k : ℤ) (vs : List ℕ) → total (hit group x z (neg_ℤ k) v) vs ≡ neg_ℤ (total (hit group x z k v) vs)
total_neg group x z v k [] = refl
total_neg group x z v k (w ∷ vs) = let h = total_neg group x z v k vs in let e = hit_neg (are_pair (group v) (group w) x z) k in omega (arith, ints, h, e)

pub pairs_neg : (group : ℕ → ℕ) (x z : ℕ) (k : ℤ) (vs : List ℕ) → pair_total (hit group x z (neg_ℤ k)) vs ≡ neg_ℤ (pair_total (hit group x z k) vs)
pairs_neg group x z k [] = refl
pairs_neg group x z k (v ∷ vs) = let h = pairs_neg group x z k vs in let e = total_neg group x z v k vs in omega (arith, ints, h, e)
