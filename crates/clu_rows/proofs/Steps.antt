-- A step of the packing.
use Rattle.std.proofs.Common.{◌≡◌, ◌≢◌, ◌⊎◌, inl, inr, ⊎_elim, ℕ, ◌<◌, ℤ, pos, neg_ℤ, ◌+ℤ◌, ◌-ℤ◌, ◌≤ℤ◌, ◌<ℤ◌, List, slice_index, min, max, refl, sym, ◌∙◌, subst, arith}
use Rattle.std.proofs.lemmas.Int.{ints}
use Rattle.std.proofs.lemmas.Bool.{cases_eq}
use Rattle.clu_partition.specs.Grids.{IsGrid}
use Rattle.clu_partition.specs.Pairs.{Pairs, weight_of, with_weight}
use Rattle.clu_partition.proofs.GridLaws.{grid_set}
use Rattle.clu_partition.proofs.TableLaws.{set_same, set_other, weight_sym}
use Rattle.clu_state.specs.State.{State, leader, kept_apart}
use Rattle.clu_partition.proofs.JoinLaws.{joins_turn}
use Rattle.clu_rows.specs.Table.{SamePair, Changed, NearerZero, Stuck, AllStuck}

-- ---- pairs of places
same_or_not : (a b x z : ℕ) → SamePair a b x z ⊎ (SamePair a b x z → ⊥)
same_or_not a b x z = ⊎_elim
    (λ e. ⊎_elim (λ f. inl (e, f)) (λ n. inr (λ h. n h.1)) (cases_eq (max a b) (max x z)))
    (λ n. inr (λ h. n h.0))
    (cases_eq (min a b) (min x z))

same_is : (a b x z : ℕ) → SamePair a b x z → ((x ≡ a) × (z ≡ b)) ⊎ ((x ≡ b) × (z ≡ a))
same_is a b x z h = ⊎_elim
    (λ e. inl (e, let p = h.0 in let q = h.1 in omega (arith, e, p, q)))
    (λ n. inr (let p = h.0 in let q = h.1 in (omega (arith, n, p, q), omega (arith, n, p, q))))
    (cases_eq x a)

same_at : (P : ℕ → ℕ → Type 0) (a b x z : ℕ) → P a b → P b a → SamePair a b x z → P x z
same_at P a b x z p q h = ⊎_elim
    (λ e. subst (λ k. P k z) (sym e.0) (subst (λ k. P a k) (sym e.1) p))
    (λ e. subst (λ k. P k z) (sym e.0) (subst (λ k. P b k) (sym e.1) q))
    (same_is a b x z h)

-- a fact of all pairs from those at the three pairs and the others
pub by_pair : (P : ℕ → ℕ → Type 0) (a b c x z : ℕ) → P a b → P b a → P a c → P c a → P b c → P c b →
    ((SamePair a b x z → ⊥) → (SamePair a c x z → ⊥) → (SamePair b c x z → ⊥) → P x z) → P x z
by_pair P a b c x z p q r s t u other = ⊎_elim
    (same_at P a b x z p q)
    (λ i. ⊎_elim (same_at P a c x z r s) (λ j. ⊎_elim (same_at P b c x z t u) (λ k. other i j k) (same_or_not b c x z)) (same_or_not a c x z))
    (same_or_not a b x z)

-- ---- signs only go to 0
turned : (t : Pairs) (x z : ℕ) (w : ℤ) → weight_of t x z ≡ w → weight_of t z x ≡ w
turned t x z w e = weight_sym t z x ∙ e

Near : Pairs → Pairs → ℕ → ℕ → Type 0
Near old new x z = (pos 0 <ℤ weight_of new x z → pos 0 <ℤ weight_of old x z) × (weight_of new x z <ℤ pos 0 → weight_of old x z <ℤ pos 0)

near_turn : (old new : Pairs) (x z : ℕ) → Near old new x z → Near old new z x
unfolding Near
near_turn old new x z h =
    let e = weight_sym old x z in
    let f = weight_sym new x z in
    (λ p. let k = h.0 (omega (arith, ints, f, p)) in omega (arith, ints, e, k), λ p. let k = h.1 (omega (arith, ints, f, p)) in omega (arith, ints, e, k))

near_lower : (old new : Pairs) (x z : ℕ) (y : ℤ) → pos 0 ≤ℤ y → y ≤ℤ weight_of old x z → weight_of new x z ≡ weight_of old x z -ℤ y → Near old new x z
unfolding Near
near_lower old new x z y p q e = (λ h. omega (arith, ints, p, q, e, h), λ h. omega (arith, ints, p, q, e, h))

near_raise : (old new : Pairs) (x z : ℕ) (d : ℤ) → ((d ≡ pos 0) ⊎ ((pos 0 ≤ℤ d) × (weight_of old x z ≤ℤ neg_ℤ d))) → weight_of new x z ≡ weight_of old x z +ℤ d → Near old new x z
unfolding Near
near_raise old new x z d c e = ⊎_elim
    (λ f. (λ h. omega (arith, ints, f, e, h), λ h. omega (arith, ints, f, e, h)))
    (λ f. let a = f.0 in let b = f.1 in (λ h. omega (arith, ints, a, b, e, h), λ h. omega (arith, ints, a, b, e, h)))
    c

near_same : (old new : Pairs) (x z : ℕ) → weight_of new x z ≡ weight_of old x z → Near old new x z
unfolding Near
near_same old new x z e = (λ h. omega (arith, ints, e, h), λ h. omega (arith, ints, e, h))

pub nearer_step : (old new : Pairs) (a b c : ℕ) (y d : ℤ) → pos 0 ≤ℤ y → y ≤ℤ weight_of old a b → y ≤ℤ weight_of old a c → ((d ≡ pos 0) ⊎ ((pos 0 ≤ℤ d) × (weight_of old b c ≤ℤ neg_ℤ d))) →
    Changed old new a b c y d → NearerZero old new
unfolding Near
nearer_step old new a b c y d p q r t h = λ x z i j.
    let one = near_lower old new a b y p q h.first in
    let two = near_lower old new a c y p r h.second in
    let three = near_raise old new b c d t h.third in
    by_pair (Near old new) a b c x z one (near_turn old new a b one) two (near_turn old new a c two) three (near_turn old new b c three)
    (λ k l m. near_same old new x z (h.others x z i j k l m))

pub stuck_stays : (s : State) (groups : List ℕ) (old new : Pairs) (a b c : ℕ) → NearerZero old new → a < old.n → b < old.n → c < old.n → Stuck s groups old a b c → Stuck s groups new a b c
stuck_stays s groups old new a b c n i j k h = λ p q r. h ((n a b i j).0 p) ((n a c i k).0 q) (⊎_elim (λ e. inl e) (λ l. inr ((n b c j k).1 l)) r)

-- the two others of a centre change places
pub stuck_turn : (s : State) (groups : List ℕ) (left : Pairs) (a b c : ℕ) → Stuck s groups left a c b → Stuck s groups left a b c
stuck_turn s groups left a b c h = λ p q r. h q p (⊎_elim
    (λ e. inl (joins_turn (leader s) (kept_apart s) (slice_index groups c) (slice_index groups b) ∙ e))
    (λ l. inr (let e = weight_sym left b c in omega (arith, ints, l, e))) r)

pub settled_second : (s : State) (groups : List ℕ) (left : Pairs) (i j k : ℕ) → AllStuck s groups left j i k → AllStuck s groups left i j k
settled_second s groups left i j k h = record { at_first = h.at_second; at_second = h.at_first; at_third = stuck_turn s groups left k i j h.at_third }

pub settled_third : (s : State) (groups : List ℕ) (left : Pairs) (i j k : ℕ) → AllStuck s groups left k i j → AllStuck s groups left i j k
settled_third s groups left i j k h = record { at_first = stuck_turn s groups left i j k h.at_second; at_second = stuck_turn s groups left j i k h.at_third; at_third = h.at_first }

-- where the third pair was not above 0, only its own centre could be
pub settled_by : (s : State) (groups : List ℕ) (old new : Pairs) (a b c : ℕ) → NearerZero old new → b < old.n → c < old.n → weight_of old b c ≤ℤ pos 0 → Stuck s groups new a b c → AllStuck s groups new a b c
settled_by s groups old new a b c n j k idle h = record {
  at_first = h;
  at_second = λ p q r. let z = (n b c j k).0 q in omega (arith, ints, z, idle);
  at_third = λ p q r. let e = weight_sym new b c in let z = (n b c j k).0 (omega (arith, ints, q, e)) in omega (arith, ints, z, idle);
}

pub settled_stays : (s : State) (groups : List ℕ) (old new : Pairs) (a b c : ℕ) → NearerZero old new → a < old.n → b < old.n → c < old.n → AllStuck s groups old a b c → AllStuck s groups new a b c
settled_stays s groups old new a b c n i j k h = record {
  at_first = stuck_stays s groups old new a b c n i j k h.at_first;
  at_second = stuck_stays s groups old new b a c n j i k h.at_second;
  at_third = stuck_stays s groups old new c a b n k i j h.at_third;
}

pub nearer_same : (t : Pairs) → NearerZero t t
nearer_same t = λ x z i j. ((λ h. h), (λ h. h))

pub nearer_trans : (t u v : Pairs) → u.n ≡ t.n → NearerZero t u → NearerZero u v → NearerZero t v
nearer_trans t u v e f g = λ x z i j. ((λ h. (f x z i j).0 ((g x z (omega (arith, e, i)) (omega (arith, e, j))).0 h)), (λ h. (f x z i j).1 ((g x z (omega (arith, e, i)) (omega (arith, e, j))).1 h)))

-- ---- the three writes
differ_pair : (a b c : ℕ) → a ≢ b → a ≢ c → b ≢ c → ((SamePair a b a c → ⊥) × (SamePair a b b c → ⊥) × (SamePair a c b c → ⊥) × (SamePair a c a b → ⊥) × (SamePair b c a b → ⊥) × (SamePair b c a c → ⊥))
differ_pair a b c p q r = (
  (λ h. let x = h.0 in let y = h.1 in omega (arith, p, q, r, x, y)),
  (λ h. let x = h.0 in let y = h.1 in omega (arith, p, q, r, x, y)),
  (λ h. let x = h.0 in let y = h.1 in omega (arith, p, q, r, x, y)),
  (λ h. let x = h.0 in let y = h.1 in omega (arith, p, q, r, x, y)),
  (λ h. let x = h.0 in let y = h.1 in omega (arith, p, q, r, x, y)),
  (λ h. let x = h.0 in let y = h.1 in omega (arith, p, q, r, x, y)),
)

pub changed_by : (old new : Pairs) (a b c : ℕ) (y d p q r : ℤ) → IsGrid old → a < old.n → b < old.n → c < old.n → a ≢ b → a ≢ c → b ≢ c →
    p ≡ weight_of old a b -ℤ y → q ≡ weight_of old a c -ℤ y → r ≡ weight_of old b c +ℤ d →
    new ≡ with_weight (with_weight (with_weight old a b p) a c q) b c r → Changed old new a b c y d
changed_by old new a b c y d p q r l i j k ab ac bc e f g h =
    let z = differ_pair a b c ab ac bc in
    let t = with_weight old a b p in
    let u = with_weight t a c q in
    let lt = grid_set old a b p l in
    let lu = grid_set t a c q lt in
    subst (λ n. Changed old n a b c y d) (sym h) (record {
      size = refl;
      first = set_other u b c a b r j k i j z.4 ∙ set_other t a c a b q i k i j z.3 ∙ set_same old a b p i j ab l ∙ e;
      second = set_other u b c a c r j k i k z.5 ∙ set_same t a c q i k ac lt ∙ f;
      third = set_same u b c r j k bc lu ∙ g;
      others = λ x w xi wi m n o. set_other u b c x w r j k xi wi o ∙ set_other t a c x w q i k xi wi n ∙ set_other old a b x w p i j xi wi m;
    })
