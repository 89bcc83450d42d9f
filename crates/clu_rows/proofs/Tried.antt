-- What a try of a triangle leaves.
use Rattle.std.proofs.Common.{◌≡◌, ◌≢◌, ◌⊎◌, inl, inr, ⊎_elim, ℕ, ◌<◌, ℤ, pos, negsuc, neg_ℤ, ◌≤ℤ◌, ◌<ℤ◌, List, [], ◌∷◌, ◌++◌, length, slice_index, Bool, true, false, not, refl, sym, ap, ◌∙◌, subst, arith, Contains}
use Rattle.std.proofs.lemmas.Int.{ints}
use Rattle.clu_partition.specs.Sums.{only_if}
use Rattle.clu_rows.specs.Rows.{TwoSet}
use Rattle.clu_partition.specs.Pairs.{Pairs, weight_of}
use Rattle.clu_state.specs.State.{State, IsState, leader, are_apart, group_leaders}
use Rattle.clu_rows.specs.Packing.{left_of, triangle}
use Rattle.clu_rows.specs.Table.{IsLeftTable, Changed, NearerZero, Stuck}
use Rattle.clu_rows.proofs.Steps.{nearer_step}
use Rattle.clu_rows.proofs.Next.{packed_next, leading}
use Rattle.std.proofs.lemmas.Bool.{false≢true}

pub record Places (s : State) (groups : List ℕ) (b c : ℕ) (v w : ℕ) : Type 0 where
  pub first : Contains s.members v
  pub second : Contains s.members w
  pub differ : leader s v ≢ leader s w

pub places : (s : State) (groups : List ℕ) (left : Pairs) (rows : List TwoSet) (b c v w : ℕ) → IsLeftTable s groups left rows → b < length groups → c < length groups → b ≢ c → v ≡ slice_index groups b → w ≡ slice_index groups c → Places s groups b c v w
places s groups left rows b c v w p lb lc d e f =
    let g = leading s groups p.state p.groups_are in
    subst (λ v. Places s groups b c v w) (sym e) (subst (λ w. Places s groups b c (slice_index groups b) w) (sym f) (record {
      first = g.member b lb;
      second = g.member c lc;
      differ = λ h. g.differ b c lb lc d (sym (g.least b lb) ∙ h ∙ g.least c lc);
    }))

-- what stands at the third pair
third_ready : (apart : Bool) (n : ℕ) (third r y rise : ℤ) → third ≡ only_if (not apart) r → y ≡ pos n → pos 0 <ℤ y → (apart ≡ true) ⊎ (third <ℤ pos 0) → (third <ℤ pos 0 → third ≤ℤ neg_ℤ y) → (third <ℤ pos 0 → rise ≡ y) → (pos 0 ≤ℤ third → rise ≡ pos 0) →
    ((apart ≡ true) × (rise ≡ pos 0)) ⊎ ((third ≤ℤ neg_ℤ (pos n)) × (rise ≡ pos n))
third_ready true n third r y rise e f p o m b k = inl (refl, k (omega (arith, ints, e)))
third_ready false n third r y rise e f p o m b k = ⊎_elim (λ h. absurd (false≢true h)) (λ h. let i = m h in let j = b h in inr (omega (arith, ints, i, f), omega (arith, ints, j, f))) o

not_apart : (apart : Bool) (third r : ℤ) → third ≡ only_if (not apart) r → third <ℤ pos 0 → apart ≡ true → ⊥
not_apart true third r e l h = absurd (omega (arith, ints, e, l))
not_apart false third r e l h = absurd (false≢true h)

for_near : (third rise : ℤ) (n : ℕ) (X : Type 0) → (X × (rise ≡ pos 0)) ⊎ ((third ≤ℤ neg_ℤ (pos n)) × (rise ≡ pos n)) → (rise ≡ pos 0) ⊎ ((pos 0 ≤ℤ rise) × (third ≤ℤ neg_ℤ rise))
for_near third rise n X h = ⊎_elim (λ k. inl k.1) (λ k. let a = k.0 in let b = k.1 in inr (omega (arith, ints, a, b), omega (arith, ints, a, b))) h

pub record Tried (s : State) (groups : List ℕ) (old new : Pairs) (rows' : List TwoSet) (a b c : ℕ) : Type 0 where
  pub packed : IsLeftTable s groups new rows'
  pub nearer : NearerZero old new
  pub stuck : Stuck s groups new a b c

-- what `lower` asks of the third pair
pub rise_fits : (s : State) (groups : List ℕ) (old : Pairs) (rows : List TwoSet) (b c : ℕ) (third y rise : ℤ) → IsLeftTable s groups old rows → b < length groups → c < length groups → b ≢ c → third ≡ weight_of old b c → pos 0 <ℤ y →
    (third <ℤ pos 0 → third ≤ℤ neg_ℤ y) → (third <ℤ pos 0 → rise ≡ y) → (pos 0 ≤ℤ third → rise ≡ pos 0) → (rise ≡ pos 0) ⊎ ((pos 0 ≤ℤ rise) × (weight_of old b c ≤ℤ neg_ℤ rise))
rise_fits s groups old rows b c third y rise p lb lc d e py m k i = by_sign third e m k i
  where
    by_sign : (third : ℤ) → third ≡ weight_of old b c → (third <ℤ pos 0 → third ≤ℤ neg_ℤ y) → (third <ℤ pos 0 → rise ≡ y) → (pos 0 ≤ℤ third → rise ≡ pos 0) → (rise ≡ pos 0) ⊎ ((pos 0 ≤ℤ rise) × (weight_of old b c ≤ℤ neg_ℤ rise))
    by_sign (pos n) e m k i = inl (i (omega (arith, ints)))
    by_sign (negsuc n) e m k i = let l : negsuc n <ℤ pos 0 = omega (arith, ints) in let q = m l in let r = k l in inr (omega (arith, ints, q, r, py), omega (arith, ints, q, r, e))

pub tried : (s : State) (groups : List ℕ) (old new : Pairs) (rows rows' : List TwoSet) (row : TwoSet) (a b c u v w n : ℕ) (first second third y rise : ℤ) → IsLeftTable s groups old rows →
    a < length groups → b < length groups → c < length groups → a ≢ b → a ≢ c → b ≢ c →
    first ≡ weight_of old a b → second ≡ weight_of old a c → third ≡ weight_of old b c →
    (are_apart s (slice_index groups b) (slice_index groups c) ≡ true) ⊎ (weight_of old b c <ℤ pos 0) →
    pos 0 <ℤ y → y ≤ℤ first → y ≤ℤ second → (third <ℤ pos 0 → third ≤ℤ neg_ℤ y) → (y ≡ first) ⊎ ((y ≡ second) ⊎ ((third <ℤ pos 0) × (y ≡ neg_ℤ third))) →
    (third <ℤ pos 0 → rise ≡ y) → (pos 0 ≤ℤ third → rise ≡ pos 0) →
    Changed old new a b c y rise → rows' ≡ rows ++ row ∷ [] → row ≡ triangle u v w n → u ≡ slice_index groups a → v ≡ slice_index groups b → w ≡ slice_index groups c → y ≡ pos n →
    Tried s groups old new rows' a b c
tried s groups old new rows rows' row a b c u v w n first second third y rise p la lb lc ab ac bc e1 e2 e3 o py yf ys yt reach below other ch er et eu ev ew yn =
    let ready = third_ready (are_apart s (slice_index groups b) (slice_index groups c)) n third (left_of s rows (slice_index groups b) (slice_index groups c)) y rise (e3 ∙ p.agrees b c lb lc bc) yn py (⊎_elim inl (λ h. inr (omega (arith, ints, h, e3))) o) yt below other in
    let near = for_near third rise n (are_apart s (slice_index groups b) (slice_index groups c) ≡ true) ready in
    let ch' : Changed old new a b c (pos n) rise = subst (λ k. Changed old new a b c k rise) yn ch in
    record {
      packed = subst (IsLeftTable s groups new) (sym (er ∙ ap (λ t. rows ++ t ∷ []) (et ∙ ap (λ k. triangle k v w n) eu ∙ ap (λ k. triangle (slice_index groups a) k w n) ev ∙ ap (λ k. triangle (slice_index groups a) (slice_index groups b) k n) ew)))
          (packed_next s groups old new rows a b c n rise p la lb lc ab ac bc (omega (arith, ints, py, yn)) (omega (arith, ints, yn, yf, e1)) (omega (arith, ints, yn, ys, e2))
          (⊎_elim inl (λ h. inr ((let k = h.0 in omega (arith, ints, k, e3)), h.1)) ready) ch');
      nearer = nearer_step old new a b c y rise (omega (arith, ints, py)) (omega (arith, ints, yf, e1)) (omega (arith, ints, ys, e2)) (⊎_elim inl (λ h. let k = h.1 in inr (h.0, omega (arith, ints, k, e3))) near) ch;
      stuck = λ h k l. ⊎_elim
          (λ q. let f = ch.first in absurd (omega (arith, ints, h, f, q, e1)))
          (λ q. ⊎_elim
          (λ q. let f = ch.second in absurd (omega (arith, ints, k, f, q, e2)))
          (λ q. let f = ch.third in let r = q.0 in let t = q.1 in let i = below r in ⊎_elim
          (λ z. not_apart (are_apart s (slice_index groups b) (slice_index groups c)) third (left_of s rows (slice_index groups b) (slice_index groups c)) (e3 ∙ p.agrees b c lb lc bc) r z)
          (λ z. absurd (omega (arith, ints, z, f, t, i, e3)))
          l)
          q)
          reach;
    }

-- the same, where numbers stand as their bits
pub tried_bits : (s : State) (groups : List ℕ) (old new : Pairs) (rows rows' : List TwoSet) (row : TwoSet) (a b c u v w n : ℕ) (first second third y rise first' second' third' y' rise' : ℤ) → IsLeftTable s groups old rows →
    a < length groups → b < length groups → c < length groups → a ≢ b → a ≢ c → b ≢ c →
    first' ≡ first → second' ≡ second → third' ≡ third → y' ≡ y → rise' ≡ rise →
    first ≡ weight_of old a b → second ≡ weight_of old a c → third ≡ weight_of old b c →
    (are_apart s (slice_index groups b) (slice_index groups c) ≡ true) ⊎ (weight_of old b c <ℤ pos 0) →
    pos 0 <ℤ y → y ≤ℤ first' → y ≤ℤ second' → (third' <ℤ pos 0 → third' ≤ℤ neg_ℤ y) → (y ≡ first') ⊎ ((y ≡ second') ⊎ ((third' <ℤ pos 0) × (y ≡ neg_ℤ third'))) →
    (third' <ℤ pos 0 → rise ≡ y') → (pos 0 ≤ℤ third' → rise ≡ pos 0) →
    Changed old new a b c y' rise' → rows' ≡ rows ++ row ∷ [] → row ≡ triangle u v w n → u ≡ slice_index groups a → v ≡ slice_index groups b → w ≡ slice_index groups c → y ≡ pos n →
    Tried s groups old new rows' a b c
tried_bits s groups old new rows rows' row a b c u v w n first second third y rise first' second' third' y' rise' p la lb lc ab ac bc w1 w2 wt wy wr e1 e2 e3 o py yf ys yt reach below other ch er et eu ev ew yn =
    tried s groups old new rows rows' row a b c u v w n first second third y rise p la lb lc ab ac bc e1 e2 e3 o py (omega (arith, ints, yf, w1)) (omega (arith, ints, ys, w2))
    (λ h. let q = yt (omega (arith, ints, h, wt)) in omega (arith, ints, q, wt))
    (⊎_elim (λ h. inl (h ∙ w1)) (λ h. inr (⊎_elim (λ h. inl (h ∙ w2)) (λ h. inr (let p = h.0 in let q = h.1 in (omega (arith, ints, p, wt), omega (arith, ints, q, wt)))) h)) reach)
    (λ h. let q = below (omega (arith, ints, h, wt)) in omega (arith, ints, q, wy))
    (λ h. other (omega (arith, ints, h, wt)))
    (subst (λ k. Changed old new a b c k rise) wy (subst (λ k. Changed old new a b c y' k) wr ch))
    er et eu ev ew yn

pub rise_bits : (s : State) (groups : List ℕ) (old : Pairs) (rows : List TwoSet) (b c : ℕ) (third y rise third' y' rise' : ℤ) → IsLeftTable s groups old rows → b < length groups → c < length groups → b ≢ c →
    third' ≡ third → y' ≡ y → rise' ≡ rise → third ≡ weight_of old b c → pos 0 <ℤ y →
    (third' <ℤ pos 0 → third' ≤ℤ neg_ℤ y) → (third' <ℤ pos 0 → rise ≡ y') → (pos 0 ≤ℤ third' → rise ≡ pos 0) → (rise' ≡ pos 0) ⊎ ((pos 0 ≤ℤ rise') × (weight_of old b c ≤ℤ neg_ℤ rise'))
rise_bits s groups old rows b c third y rise third' y' rise' p lb lc d wt wy wr e py m k i =
    let r = rise_fits s groups old rows b c third y rise p lb lc d e py
    (λ h. let q = m (omega (arith, ints, h, wt)) in omega (arith, ints, q, wt))
    (λ h. let q = k (omega (arith, ints, h, wt)) in omega (arith, ints, q, wy))
    (λ h. i (omega (arith, ints, h, wt))) in
    ⊎_elim (λ h. inl (wr ∙ h)) (λ h. inr (let p = h.0 in let q = h.1 in (omega (arith, ints, p, wr), omega (arith, ints, q, wr)))) r

pub places_of : (s : State) (groups : List ℕ) (b c v w : ℕ) → IsState s → groups ≡ group_leaders s → b < length groups → c < length groups → b ≢ c → v ≡ slice_index groups b → w ≡ slice_index groups c → Places s groups b c v w
places_of s groups b c v w i eq lb lc d e f =
    let g = leading s groups i eq in
    subst (λ v. Places s groups b c v w) (sym e) (subst (λ w. Places s groups b c (slice_index groups b) w) (sym f) (record {
      first = g.member b lb;
      second = g.member c lc;
      differ = λ h. g.differ b c lb lc d (sym (g.least b lb) ∙ h ∙ g.least c lc);
    }))
