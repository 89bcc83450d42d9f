-- The tables of a state without decisions, as they are built.
use Rattle.std.proofs.Common.{◌≡◌, ◌≢◌, All, ℕ, ◌<◌, ◌≤◌, ◌+◌, ◌^◌, ℤ, pos, ◌+ℤ◌, ◌≤ℤ◌, List, [], ◌∷◌, length, take, drop, ◌-◌, get_or, Bool, true, false, ◌==◌, sym, ap, ◌∙◌, subst, arith, zero, suc, unsigned_abs}
use Rattle.std.proofs.lemmas.Int.{ints}
use Rattle.std.proofs.lemmas.List.Elements.{All-drop}
use Rattle.clu_partition.specs.Sums.{total, pair_total, only_if}
use Rattle.clu_partition.specs.Grids.{IsGrid}
use Rattle.clu_partition.specs.Pairs.{Pairs, weight_of, with_weight, are_pair}
use Rattle.clu_state.specs.Building.{GrownBy, weight_between, weight_within, size_between, HasHome, HasRoom}
use Rattle.clu_partition.proofs.PairLaws.{not_pair, added}
use Rattle.clu_partition.proofs.ListLaws.{tail_is}
use Rattle.clu_partition.proofs.SumLaws.{zero_least, total_least, pair_least}

-- ---- one more pair
pub pair_added : (t old new : Pairs) (at' : ℕ → ℕ) (u v p q x z : ℕ) (k w : ℤ) → IsGrid old → p < old.n → q < old.n → x < old.n → z < old.n → x ≢ z →
    p ≡ at' u → q ≡ at' v → k ≡ weight_of t u v → w ≡ weight_of old p q +ℤ k → new ≡ with_weight old p q w → weight_of new x z ≡ weight_of old x z +ℤ weight_between (weight_of t) at' x z u v
pair_added t old new at' u v p q x z k w l lp lq lx lz d ep eq' ek ew en =
    added old new p q x z k w l lp lq lx lz d ew en ∙
    ap (λ c. weight_of old x z +ℤ only_if (are_pair c q x z) k) ep ∙
    ap (λ c. weight_of old x z +ℤ only_if (are_pair (at' u) c x z) k) eq' ∙
    ap (λ c. weight_of old x z +ℤ only_if (are_pair (at' u) (at' v) x z) c) ek

-- two vertices of one group share nothing with two places
pub pair_inside : (t old : Pairs) (at' : ℕ → ℕ) (u v x z : ℕ) → at' u ≡ at' v → x ≢ z → weight_of old x z ≡ weight_of old x z +ℤ weight_between (weight_of t) at' x z u v
pair_inside t old at' u v x z e d = nothing (weight_of old x z) ∙ ap (λ c. weight_of old x z +ℤ only_if c (weight_of t u v)) (sym (not_pair (at' u) (at' v) x z (λ k. d (sym k.0 ∙ e ∙ k.1)) (λ k. d (sym k.1 ∙ sym e ∙ k.0))))
  where
    nothing : (t : ℤ) → t ≡ t +ℤ pos 0
    nothing t = omega (arith, ints)

pub pair_small : (t old : Pairs) (u v p q : ℕ) (k : ℤ) → HasRoom old (size_between t u v) → p < old.n → q < old.n → p ≢ q → k ≡ weight_of t u v → unsigned_abs (weight_of old p q +ℤ k) ≤ 2 ^ 88
pair_small t old u v p q k r lp lq d e = let c = r.cells p q lp lq d in omega (arith, ints, c, e)

-- ---- loops over what is left
pub total_drop : {A : Type 0} (f : A → ℤ) (xs : List A) (i : ℕ) (x : A) → i < length xs → x ≡ get_or xs i x → total f (drop i xs) ≡ f x +ℤ total f (drop (i + 1) xs)
total_drop f [] i x l e = absurd (omega arith)
total_drop f (y ∷ xs) zero x l e = ap (λ k. f k +ℤ total f xs) (sym e)
total_drop f (y ∷ xs) (suc i) x l e = rw more (total_drop f xs i x (omega arith) e)
  where
    more : suc i + 1 ≡ suc (i + 1)
    more = omega arith

pub pairs_drop : {A : Type 0} (f : A → A → ℤ) (xs : List A) (i : ℕ) (x : A) → i < length xs → x ≡ get_or xs i x → pair_total f (drop i xs) ≡ total (f x) (drop (i + 1) xs) +ℤ pair_total f (drop (i + 1) xs)
pairs_drop f [] i x l e = absurd (omega arith)
pairs_drop f (y ∷ xs) zero x l e = ap (λ k. total (f k) xs +ℤ pair_total f xs) (sym e)
pairs_drop f (y ∷ xs) (suc i) x l e = rw more (pairs_drop f xs i x (omega arith) e)
  where
    more : suc i + 1 ≡ suc (i + 1)
    more = omega arith

only_small : (b : Bool) (w : ℤ) → pos (unsigned_abs (only_if b w)) ≤ℤ pos (unsigned_abs w)
only_small true w = omega (arith, ints)
only_small false w = omega (arith, ints)

pub share_small : (t : Pairs) (at' : ℕ → ℕ) (x z u v : ℕ) → pos (unsigned_abs (weight_between (weight_of t) at' x z u v)) ≤ℤ size_between t u v
share_small t at' x z u v = only_small (are_pair (at' u) (at' v) x z) (weight_of t u v)

pub kept_small : (t : Pairs) (at' : ℕ → ℕ) (u v : ℕ) → pos (unsigned_abs (weight_within (weight_of t) at' u v)) ≤ℤ size_between t u v
kept_small t at' u v = only_small (at' u == at' v) (weight_of t u v)

pub totals_small : (f h : ℕ → ℤ) → ((v : ℕ) → pos (unsigned_abs (f v)) ≤ℤ h v) → (vs : List ℕ) → pos (unsigned_abs (total f vs)) ≤ℤ total h vs
totals_small f h k [] = omega (arith, ints)
totals_small f h k (v ∷ vs) = let a = totals_small f h k vs in let b = k v in omega (arith, ints, a, b)

pub sizes_least : (t : Pairs) (u : ℕ) (vs : List ℕ) → pos 0 ≤ℤ total (size_between t u) vs
sizes_least t u vs = total_least (size_between t u) vs (λ v. zero_least (unsigned_abs (weight_of t u v)))

pub pair_sizes_least : (t : Pairs) (vs : List ℕ) → pos 0 ≤ℤ pair_total (size_between t) vs
pair_sizes_least t vs = pair_least (size_between t) vs (λ u v. zero_least (unsigned_abs (weight_of t u v)))

-- a table and a sum, when the given shares, the given weight inside groups and the given size are left to be added
pub record Filling (old now : Pairs) (sum : ℤ) (left whole : ℕ → ℕ → ℤ) (left_inside inside more : ℤ) : Type 0 where
  pub size : now.n ≡ old.n
  pub room : HasRoom now more
  pub sums : (x z : ℕ) → x < old.n → z < old.n → x ≢ z → weight_of now x z +ℤ left x z ≡ weight_of old x z +ℤ whole x z
  pub kept_sum : sum +ℤ left_inside ≡ inside
  pub small : (pos (unsigned_abs sum) +ℤ more) ≤ℤ pos (2 ^ 88)

-- what one step adds: shares, a weight inside groups, and no more than the given size
pub record Step (now new : Pairs) (shares : ℕ → ℕ → ℤ) (result inside size : ℤ) : Type 0 where
  pub same : new.n ≡ now.n
  pub sums : GrownBy shares now new
  pub inside_is : result ≡ inside
  pub shares_small : (x z : ℕ) → pos (unsigned_abs (shares x z)) ≤ℤ size
  pub inside_small : pos (unsigned_abs inside) ≤ℤ size

pub filled : (old now new : Pairs) (sum sum' result k k' inside e m m' : ℤ) (f f' whole shares : ℕ → ℕ → ℤ) (g : ℤ) → Filling old now sum f whole k inside m → Step now new shares result g e →
    sum' ≡ sum +ℤ result → ((x z : ℕ) → f x z ≡ shares x z +ℤ f' x z) → k ≡ g +ℤ k' → m ≡ e +ℤ m' → Filling old new sum' f' whole k' inside m'
filled old now new sum sum' result k k' inside e m m' f f' whole shares g l t es ef ek em = record {
  size = t.same ∙ l.size;
  room = record {
    cells = λ x z lx lz d.
        let px : x < now.n = (let s = t.same in omega (arith, lx, s)) in
        let pz : z < now.n = (let s = t.same in omega (arith, lz, s)) in
        let a = l.room.cells x z px pz d in
        let b = t.sums x z px pz d in
        let c = t.shares_small x z in
        omega (arith, ints, a, b, c, em);
  };
  sums = λ x z lx lz d.
      let px : x < now.n = (let s = l.size in omega (arith, lx, s)) in
      let pz : z < now.n = (let s = l.size in omega (arith, lz, s)) in
      let a = l.sums x z lx lz d in
      let b = t.sums x z px pz d in
      let c = ef x z in
      omega (arith, ints, a, b, c);
  kept_sum = let a = l.kept_sum in let b = t.inside_is in omega (arith, ints, a, b, es, ek);
  small = let a = l.small in let b = t.inside_is in let c = t.inside_small in omega (arith, ints, a, b, c, es, em);
}

-- ---- one vertex with a list
abbrev pub WithLeft : Pairs → Pairs → (ℕ → ℕ) → ℕ → List ℕ → ℕ → Pairs → ℤ → Type 0
WithLeft t old at' u vs i now sum = Filling old now sum
    (λ x z. total (weight_between (weight_of t) at' x z u) (drop i vs)) (λ x z. total (weight_between (weight_of t) at' x z u) vs)
    (total (weight_within (weight_of t) at' u) (drop i vs)) (total (weight_within (weight_of t) at' u) vs)
    (total (size_between t u) (drop i vs))

pub room_less : (t : Pairs) (m k : ℤ) → HasRoom t m → k ≤ℤ m → HasRoom t k
room_less t m k r l = record { cells = λ x z lx lz d. let c = r.cells x z lx lz d in omega (arith, ints, c, l) }

pub with_room : (t old now : Pairs) (at' : ℕ → ℕ) (u v i : ℕ) (vs : List ℕ) (sum : ℤ) → WithLeft t old at' u vs i now sum → i < length vs → v ≡ get_or vs i v → HasRoom now (size_between t u v)
with_room t old now at' u v i vs sum l b e = room_less now (total (size_between t u) (drop i vs)) (size_between t u v) l.room
    (let d = total_drop (size_between t u) vs i v b e in let m = sizes_least t u (drop (i + 1) vs) in omega (arith, ints, d, m))

pair_step : (t now new : Pairs) (at' : ℕ → ℕ) (u v : ℕ) (r : ℤ) → new.n ≡ now.n →
    GrownBy (λ x z. weight_between (weight_of t) at' x z u v) now new → r ≡ weight_within (weight_of t) at' u v →
    Step now new (λ x z. weight_between (weight_of t) at' x z u v) r (weight_within (weight_of t) at' u v) (size_between t u v)
pair_step t now new at' u v r n s e = record {
  same = n;
  sums = s;
  inside_is = e;
  shares_small = λ x z. share_small t at' x z u v;
  inside_small = kept_small t at' u v;
}

pub with_more : (t old now new : Pairs) (at' : ℕ → ℕ) (u v i : ℕ) (vs : List ℕ) (sum sum' r : ℤ) → WithLeft t old at' u vs i now sum → i < length vs → v ≡ get_or vs i v → new.n ≡ now.n →
    GrownBy (λ x z. weight_between (weight_of t) at' x z u v) now new → r ≡ weight_within (weight_of t) at' u v → sum' ≡ sum +ℤ r →
    WithLeft t old at' u vs (i + 1) new sum'
with_more t old now new at' u v i vs sum sum' r l b e n s k es =
    filled old now new sum sum' r _ _ _ _ _ _ _ _ _ (λ x z. weight_between (weight_of t) at' x z u v) _ l (pair_step t now new at' u v r n s k) es
    (λ x z. total_drop (weight_between (weight_of t) at' x z u) vs i v b e) (total_drop (weight_within (weight_of t) at' u) vs i v b e) (total_drop (size_between t u) vs i v b e)

pub with_small : (t old now : Pairs) (at' : ℕ → ℕ) (u v i : ℕ) (vs : List ℕ) (sum r : ℤ) → WithLeft t old at' u vs i now sum → i < length vs → v ≡ get_or vs i v → r ≡ weight_within (weight_of t) at' u v →
    unsigned_abs (sum +ℤ r) ≤ 2 ^ 88
with_small t old now at' u v i vs sum r l b e k =
    let a = l.small in
    let c = kept_small t at' u v in
    let d = total_drop (size_between t u) vs i v b e in
    let m = sizes_least t u (drop (i + 1) vs) in
    omega (arith, ints, a, c, d, m, k)

-- ---- the pairs of a list
-- those after place i
abbrev pub later : ℕ → List ℕ → List ℕ
later i vs = take (length vs - (i + 1)) (drop (i + 1) vs)

pub later_homes : (n old now : ℕ) (group place vs : List ℕ) (i : ℕ) → now ≡ old → All (HasHome n old group place) vs → All (HasHome n now group place) (later i vs)
later_homes n old now group place vs i e h = subst (λ m. All (HasHome n m group place) (later i vs)) (sym e) (subst (All (HasHome n old group place)) (sym (tail_is (i + 1) vs)) (All-drop (HasHome n old group place) (i + 1) vs h))

abbrev pub PairsLeft : Pairs → Pairs → (ℕ → ℕ) → List ℕ → ℕ → Pairs → ℤ → Type 0
PairsLeft t old at' vs i now sum = Filling old now sum
    (λ x z. pair_total (weight_between (weight_of t) at' x z) (drop i vs)) (λ x z. pair_total (weight_between (weight_of t) at' x z) vs)
    (pair_total (weight_within (weight_of t) at') (drop i vs)) (pair_total (weight_within (weight_of t) at') vs)
    (pair_total (size_between t) (drop i vs))

pub pairs_room : (t old now : Pairs) (at' : ℕ → ℕ) (u i : ℕ) (vs : List ℕ) (sum : ℤ) → PairsLeft t old at' vs i now sum → i < length vs → u ≡ get_or vs i u → HasRoom now (total (size_between t u) (later i vs))
pairs_room t old now at' u i vs sum l b e = room_less now (pair_total (size_between t) (drop i vs)) (total (size_between t u) (later i vs)) l.room
    (let d = pairs_drop (size_between t) vs i u b e in let m = pair_sizes_least t (drop (i + 1) vs) in let f = ap (total (size_between t u)) (tail_is (i + 1) vs) in omega (arith, ints, d, m, f))

pub pairs_few : (t old now : Pairs) (at' : ℕ → ℕ) (u i : ℕ) (vs : List ℕ) (sum : ℤ) → PairsLeft t old at' vs i now sum → i < length vs → u ≡ get_or vs i u → total (size_between t u) (later i vs) ≤ℤ pos (2 ^ 88)
pairs_few t old now at' u i vs sum l b e =
    let a = l.small in let d = pairs_drop (size_between t) vs i u b e in let m = pair_sizes_least t (drop (i + 1) vs) in let f = ap (total (size_between t u)) (tail_is (i + 1) vs) in omega (arith, ints, a, d, m, f)

list_step : (t now new : Pairs) (at' : ℕ → ℕ) (u : ℕ) (ws : List ℕ) (r : ℤ) → new.n ≡ now.n →
    GrownBy (λ x z. total (weight_between (weight_of t) at' x z u) ws) now new → r ≡ total (weight_within (weight_of t) at' u) ws →
    Step now new (λ x z. total (weight_between (weight_of t) at' x z u) ws) r (total (weight_within (weight_of t) at' u) ws) (total (size_between t u) ws)
list_step t now new at' u ws r n s e = record {
  same = n;
  sums = s;
  inside_is = e;
  shares_small = λ x z. totals_small (weight_between (weight_of t) at' x z u) (size_between t u) (share_small t at' x z u) ws;
  inside_small = totals_small (weight_within (weight_of t) at' u) (size_between t u) (kept_small t at' u) ws;
}

pub pairs_more : (t old now new : Pairs) (at' : ℕ → ℕ) (u i : ℕ) (vs : List ℕ) (sum sum' r : ℤ) → PairsLeft t old at' vs i now sum → i < length vs → u ≡ get_or vs i u → new.n ≡ now.n →
    GrownBy (λ x z. total (weight_between (weight_of t) at' x z u) (later i vs)) now new → r ≡ total (weight_within (weight_of t) at' u) (later i vs) → sum' ≡ sum +ℤ r →
    PairsLeft t old at' vs (i + 1) new sum'
pairs_more t old now new at' u i vs sum sum' r l b e n s k es =
    filled old now new sum sum' r _ _ _ _ _ _ _ _ _ (λ x z. total (weight_between (weight_of t) at' x z u) (later i vs)) _ l (list_step t now new at' u (later i vs) r n s k) es
    (λ x z. pairs_drop (weight_between (weight_of t) at' x z) vs i u b e ∙ ap (λ k. total (weight_between (weight_of t) at' x z u) k +ℤ pair_total (weight_between (weight_of t) at' x z) (drop (i + 1) vs)) (sym (tail_is (i + 1) vs)))
    (pairs_drop (weight_within (weight_of t) at') vs i u b e ∙ ap (λ k. total (weight_within (weight_of t) at' u) k +ℤ pair_total (weight_within (weight_of t) at') (drop (i + 1) vs)) (sym (tail_is (i + 1) vs)))
    (pairs_drop (size_between t) vs i u b e ∙ ap (λ k. total (size_between t u) k +ℤ pair_total (size_between t) (drop (i + 1) vs)) (sym (tail_is (i + 1) vs)))

pub pairs_small : (t old now : Pairs) (at' : ℕ → ℕ) (u i : ℕ) (vs : List ℕ) (sum r : ℤ) → PairsLeft t old at' vs i now sum → i < length vs → u ≡ get_or vs i u → r ≡ total (weight_within (weight_of t) at' u) (later i vs) →
    unsigned_abs (sum +ℤ r) ≤ 2 ^ 88
pairs_small t old now at' u i vs sum r l b e k =
    let a = l.small in
    let c = totals_small (weight_within (weight_of t) at' u) (size_between t u) (kept_small t at' u) (later i vs) in
    let d = pairs_drop (size_between t) vs i u b e in
    let m = pair_sizes_least t (drop (i + 1) vs) in
    let f = ap (total (size_between t u)) (tail_is (i + 1) vs) in
    omega (arith, ints, a, c, d, m, f, k)
