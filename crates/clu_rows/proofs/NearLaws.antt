-- The lists of near places: what one more of them adds, and that they stay lists of near places while no number leaves 0 or passes it.
use Rattle.std.proofs.Common.{◌≡◌, ⊎_elim, ℕ, ◌+◌, ◌-◌, ◌<◌, ◌≤◌, ℤ, pos, negsuc, ◌<ℤ◌, ◌≤ℤ◌, List, [], ◌∷◌, ◌++◌, length, slice_index, get_or, take, drop, Contains, refl, sym, ap, ◌∙◌, subst, arith, zero, suc, append_assoc, append-nil, length-append, length-drop}
use Rattle.std.proofs.Math.Seq.{drop-append_seam, take-length}
use Rattle.std.proofs.lemmas.Int.{ints}
use Rattle.std.proofs.lemmas.Bool.{cases_eq}
use Rattle.std.proofs.lemmas.List.{drop-append-le, take-append-le, get_or_append_left, get_or_push}
use Rattle.std.proofs.lemmas.List.Elements.{All-nil, All-push}
use Rattle.clu_partition.specs.Pairs.{Pairs, weight_of}
use Rattle.clu_rows.specs.Table.{NearerZero, AreNear, HasList, near_at, AreNearBelow, AreAllNear}
use Rattle.clu_rows.specs.declared.near.NearLists.{NearLists}

-- ---- a list that grows behind the others
-- near places of i, as far as below count, behind what stood before
pub record Appended (left : Pairs) (count i : ℕ) (old new : List ℕ) : Type 0 where
  pub tail : List ℕ
  pub is : new ≡ old ++ tail
  pub near : AreNear left count i tail

pub nothing_near : (left : Pairs) (i : ℕ) (places : List ℕ) → Appended left (i + 1) i places places
nothing_near left i places = record {
  tail = [];
  is = sym (append-nil places);
  near = record { within = All-nil (λ z. (i < z) × (z < i + 1)); all = λ z p q r. absurd (omega (arith, p, q)) };
}

-- the place z is passed over
passed : (left : Pairs) (z i : ℕ) (tail : List ℕ) → i < z → weight_of left i z ≤ℤ pos 0 → AreNear left z i tail → AreNear left (z + 1) i tail
passed left z i tail l low a = record {
  within = λ k d n. let h = a.within k d n in (h.0, let j = h.1 in omega (arith, j));
  all = λ y p q r. ⊎_elim
      (λ e. absurd (let h = subst (λ y. pos 0 <ℤ weight_of left i y) e r in omega (arith, ints, h, low)))
      (λ d. a.all y p (omega (arith, q, d)) r)
      (cases_eq y z);
}

-- the place z is taken
taken : (left : Pairs) (z i : ℕ) (tail : List ℕ) → i < z → AreNear left z i tail → AreNear left (z + 1) i (tail ++ z ∷ [])
taken left z i tail l a = record {
  within = All-push (λ y. (i < y) × (y < z + 1)) tail z (λ k d n. let h = a.within k d n in (h.0, let j = h.1 in omega (arith, j))) (l, omega arith);
  all = λ y p q r. ⊎_elim
      (λ e. subst (Contains (tail ++ z ∷ [])) (sym e) (last tail z))
      (λ d. earlier tail z y (a.all y p (omega (arith, q, d)) r))
      (cases_eq y z);
}
  where
    last : (tail : List ℕ) (z : ℕ) → Contains (tail ++ z ∷ []) z
    last tail z = (length tail, (let h = length-append tail (z ∷ []) in omega (arith, h)), get_or_push tail z z (length tail) refl)

    earlier : (tail : List ℕ) (z y : ℕ) → Contains tail y → Contains (tail ++ z ∷ []) y
    earlier tail z y c = (c.0, (let h = length-append tail (z ∷ []) in let k = c.1 in omega (arith, h, k)), get_or_append_left tail (z ∷ []) y c.0 c.1 ∙ c.2)

pub one_place : (left : Pairs) (z i : ℕ) (old mid new : List ℕ) (w : ℤ) → i < z → w ≡ weight_of left i z
    → (pos 0 <ℤ w → new ≡ mid ++ z ∷ []) → (w ≤ℤ pos 0 → new ≡ mid) → Appended left z i old mid → Appended left (z + 1) i old new
one_place left z i old mid new w l e above other a = by_sign w e above other
  where
    one : new ≡ mid ++ z ∷ [] → Appended left (z + 1) i old new
    one is = record {
      tail = a.tail ++ z ∷ [];
      is = is ∙ ap (λ xs. xs ++ z ∷ []) a.is ∙ append_assoc old a.tail (z ∷ []);
      near = taken left z i a.tail l a.near;
    }

    none : new ≡ mid → weight_of left i z ≤ℤ pos 0 → Appended left (z + 1) i old new
    none is low = record {
      tail = a.tail;
      is = is ∙ a.is;
      near = passed left z i a.tail l low a.near;
    }

    by_sign : (w : ℤ) → w ≡ weight_of left i z → (pos 0 <ℤ w → new ≡ mid ++ z ∷ []) → (w ≤ℤ pos 0 → new ≡ mid) → Appended left (z + 1) i old new
    by_sign (pos zero) e above other = none (other (omega (arith, ints))) (omega (arith, ints, e))
    by_sign (pos (suc n)) e above other = one (above (omega (arith, ints)))
    by_sign (negsuc n) e above other = none (other (omega (arith, ints))) (omega (arith, ints, e))

-- ---- a list more
stretch_stays : (places tail : List ℕ) (a b : ℕ) → a ≤ b → b ≤ length places → take (b - a) (drop a (places ++ tail)) ≡ take (b - a) (drop a places)
stretch_stays places tail a b ab bl =
    ap (take (b - a)) (drop-append-le a places tail (omega (arith, ab, bl))) ∙
    take-append-le (b - a) (drop a places) tail (let h = length-drop a places in omega (arith, h, ab, bl))

stretch_new : (places tail : List ℕ) → take (length (places ++ tail) - length places) (drop (length places) (places ++ tail)) ≡ tail
stretch_new places tail =
    let size : length (places ++ tail) - length places ≡ length tail = let h = length-append places tail in omega (arith, h) in
    ap (take (length (places ++ tail) - length places)) (drop-append_seam places tail) ∙ ap (λ n. take n tail) size ∙
    take-length tail

stretch_is : (a b a' b' : ℕ) (places places' : List ℕ) → a' ≡ a → b' ≡ b → places' ≡ places → take (b' - a') (drop a' places') ≡ take (b - a) (drop a places)
stretch_is a b a' b' places places' e f h =
    ap (λ n. take (b' - n) (drop n places')) e ∙ ap (λ n. take (n - a) (drop a places')) f ∙ ap (λ ps. take (b - a) (drop a ps)) h

-- what the lists were, and one behind them
record Grown (left : Pairs) (count i : ℕ) (old new : NearLists) : Type 0 where
  before : AreNearBelow left count i old
  more : Appended left count i old.places.items new.places.items
  bounds : new.bounds.items ≡ old.bounds.items ++ length new.places.items ∷ []

bound_stays : (left : Pairs) (count i : ℕ) (old new : NearLists) → Grown left count i old new → (k : ℕ) → k < i + 1
    → slice_index new.bounds.items k ≡ slice_index old.bounds.items k
bound_stays left count i old new g k l =
    let size = g.before.size in
    ap (λ xs. get_or xs k 0) g.bounds ∙ get_or_append_left old.bounds.items (length new.places.items ∷ []) 0 k (omega (arith, size, l))

bound_new : (left : Pairs) (count i : ℕ) (old new : NearLists) → Grown left count i old new → slice_index new.bounds.items (i + 1) ≡ length new.places.items
bound_new left count i old new g =
    let size = g.before.size in
    ap (λ xs. get_or xs (i + 1) 0) g.bounds ∙ get_or_push old.bounds.items (length new.places.items) 0 (i + 1) size

sizes : (left : Pairs) (count i : ℕ) (old new : NearLists) → Grown left count i old new
    → (length new.bounds.items ≡ i + 1 + 1) × (length old.places.items ≤ length new.places.items)
sizes left count i old new g =
    let size = g.before.size in
    let b = ap (λ (xs : List ℕ). length xs) g.bounds in
    let c = length-append old.bounds.items (length new.places.items ∷ []) in
    let p = ap (λ (xs : List ℕ). length xs) g.more.is in
    let q = length-append old.places.items g.more.tail in
    (omega (arith, size, b, c), omega (arith, p, q))

old_list : (left : Pairs) (count i : ℕ) (old new : NearLists) → Grown left count i old new → (k : ℕ) → k < i → HasList new k × AreNear left count k (near_at new k)
old_list left count i old new g k l =
    let h = g.before.has k l in
    let a = bound_stays left count i old new g k (omega (arith, l)) in
    let b = bound_stays left count i old new g (k + 1) (omega (arith, l)) in
    let z = sizes left count i old new g in
    let z0 = z.0 in
    let z1 = z.1 in
    let up = h.rising in
    let in' = h.within in (
      record { bounded = omega (arith, z0, l); rising = omega (arith, a, b, up); within = omega (arith, b, in', z1) },
      subst (AreNear left count k)
          (sym (stretch_is (slice_index old.bounds.items k) (slice_index old.bounds.items (k + 1)) _ _ (old.places.items ++ g.more.tail) _ a b g.more.is ∙
          stretch_stays old.places.items g.more.tail _ _ up in'))
          (g.before.each k l),
    )

new_list : (left : Pairs) (count i : ℕ) (old new : NearLists) → Grown left count i old new → HasList new i × AreNear left count i (near_at new i)
new_list left count i old new g =
    let a = bound_stays left count i old new g i (omega arith) in
    let b = bound_new left count i old new g in
    let z = sizes left count i old new g in
    let z0 = z.0 in
    let z1 = z.1 in
    let e = g.before.end in (
      record { bounded = omega (arith, z0); rising = omega (arith, a, b, e, z1); within = omega (arith, b) },
      subst (AreNear left count i)
          (sym (stretch_is (length old.places.items) (length (old.places.items ++ g.more.tail)) _ _ (old.places.items ++ g.more.tail) _ (a ∙ e)
          (b ∙ ap (λ (xs : List ℕ). length xs) g.more.is) g.more.is ∙ stretch_new old.places.items g.more.tail))
          g.more.near,
    )

all_lists : (left : Pairs) (count i : ℕ) (old new : NearLists) → Grown left count i old new → (k : ℕ) → k < i + 1 → HasList new k × AreNear left count k (near_at new k)
all_lists left count i old new g k l = ⊎_elim
    (λ e. subst (λ k. HasList new k × AreNear left count k (near_at new k)) (sym e) (new_list left count i old new g))
    (λ d. old_list left count i old new g k (omega (arith, l, d)))
    (cases_eq k i)

pub one_list : (left : Pairs) (count i : ℕ) (old new : NearLists) → AreNearBelow left count i old → Appended left count i old.places.items new.places.items
    → new.bounds.items ≡ old.bounds.items ++ length new.places.items ∷ [] → AreNearBelow left count (i + 1) new
one_list left count i old new before more bounds =
    let g : Grown left count i old new = record { before = before; more = more; bounds = bounds } in
    record {
      size = (sizes left count i old new g).0;
      end = bound_new left count i old new g;
      has = λ k l. (all_lists left count i old new g k l).0;
      each = λ k l. (all_lists left count i old new g k l).1;
    }

-- ---- while the packing goes on
near_stays : (left new : Pairs) (count i : ℕ) (near : List ℕ) → count ≤ left.n → i < count → NearerZero left new → AreNear left count i near → AreNear new count i near
near_stays left new count i near l ic f a = record { within = a.within; all = λ z iz zc h. a.all z iz zc ((f i z (omega (arith, l, ic)) (omega (arith, l, zc))).0 h) }

pub all_near_stay : (left new : Pairs) (count : ℕ) (near : NearLists) → count ≤ left.n → NearerZero left new → AreAllNear left count near → AreAllNear new count near
all_near_stay left new count near l f a = record { size = a.size; end = a.end; has = a.has; each = λ i ic. near_stays left new count i _ l ic f (a.each i ic) }

pub listed : (left : Pairs) (count i : ℕ) (near : NearLists) (thirds : List ℕ) → AreAllNear left count near → i < count → thirds ≡ near_at near i → AreNear left count i thirds
listed left count i near thirds a l e = subst (AreNear left count i) (sym e) (a.each i l)
