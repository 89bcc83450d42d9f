-- The closed rules that lists of pairs make.
use Rattle.std.proofs.Common.{◌≡◌, ◌≢◌, ◌⊎◌, inl, inr, ⊎_elim, ℕ, ◌<◌, ◌≤◌, min, max, List, [], ◌∷◌, length, map, slice_index, get_or, Contains, All, Bool, true, false, ◌==◌, ◌&&◌, ◌||◌, refl, sym, ap, ◌∙◌, subst, arith}
use Rattle.std.proofs.lemmas.Bool.{cases_eq, true≢false, eqb-true}
use Rattle.std.proofs.lemmas.List.{get_or_default}
use Rattle.std.proofs.lemmas.List.Elements.{All-contains, All-map, Contains-get_or, Contains-append_right}
use Rattle.clu_partition.specs.Closed.{IsClosed, Precedes, joins}
use Rattle.clu_partition.specs.Ties.{Tied, same, pair, back, chain, IsLeastTied, AreBelow, in_order, IsRisingOf, IsStartOf, Contradicts}
use Rattle.clu_partition.specs.Tying.{led, AreTied, IsFirstTied}
use Rattle.clu_partition.proofs.JoinLaws.{front_or_rest, joins_listed, joins_same, joins_turn}
use Rattle.clu_partition.proofs.SearchLaws.{asymmetric, irreflexive, rising_at}

-- ---- lists
pub all_from : {A : Type 0} (P : A → Type 0) (xs : List A) → ((x : A) → Contains xs x → P x) → All P xs
all_from P xs f k d l = f (get_or xs k d) (Contains-get_or xs k d l)

pub map_from : {A B : Type 0} (f : A → B) (xs : List A) (y : B) → Contains (map f xs) y → (x : A) × Contains xs x × (f x ≡ y)
map_from f [] y c = absurd (omega (arith, c.1))
map_from f (x ∷ xs) y c = ⊎_elim
    (λ e. (x, (0, omega arith, refl), e))
    (λ r. let w = map_from f xs y r in (w.0, Contains-append_right (x ∷ []) xs w.0 w.1, w.2))
    (front_or_rest (f x) (map f xs) y c)

pub map_to : {A B : Type 0} (f : A → B) (xs : List A) (x : A) → Contains xs x → Contains (map f xs) (f x)
map_to f [] x c = absurd (omega (arith, c.1))
map_to f (y ∷ ys) x c = ⊎_elim
    (λ e. subst (λ k. Contains (f y ∷ map f ys) (f k)) e (0, omega arith, refl))
    (λ r. Contains-append_right (f y ∷ []) (map f ys) (f x) (map_to f ys x r))
    (front_or_rest y ys x c)

-- ---- tests
same_test : (a b : Bool) → (a ≡ true → b ≡ true) → (b ≡ true → a ≡ true) → a ≡ b
same_test true b f g = sym (f refl)
same_test false true f g = g refl
same_test false false f g = refl

either_true : (a b : Bool) → (a || b) ≡ true → (a ≡ true) ⊎ (b ≡ true)
either_true true b e = inl refl
either_true false b e = inr e

both_true : (a b : Bool) → (a && b) ≡ true → (a ≡ true) × (b ≡ true)
both_true true b e = (refl, e)
both_true false b e = absurd (true≢false (sym e))

-- the groups of p are those of u and v, in either order
abbrev pub Meets : (ℕ → ℕ) → ℕ × ℕ → ℕ → ℕ → Type 0
Meets group p u v = ((group p.0 ≡ group u) × (group p.1 ≡ group v)) ⊎ ((group p.0 ≡ group v) × (group p.1 ≡ group u))

-- a pair that joins the groups of u and v is one of the list
pub joins_from : (group : ℕ → ℕ) (ps : List (ℕ × ℕ)) (u v : ℕ) → joins group ps u v ≡ true → (p : ℕ × ℕ) × Contains ps p × Meets group p u v
joins_from group [] u v e = absurd (true≢false (sym e))
joins_from group (p ∷ ps) u v e = ⊎_elim
    (λ h. (
      p,
      (0, omega arith, refl),
      ⊎_elim
          (λ i. let b = both_true _ _ i in inl (eqb-true _ _ b.0, eqb-true _ _ b.1))
          (λ i. let b = both_true _ _ i in inr (eqb-true _ _ b.0, eqb-true _ _ b.1))
          (either_true (group p.0 == group u && group p.1 == group v) (group p.0 == group v && group p.1 == group u) h),
    ))
    (λ r. let w = joins_from group ps u v r in (w.0, Contains-append_right (p ∷ []) ps w.0 w.1, w.2))
    (either_true (group p.0 == group u && group p.1 == group v || group p.0 == group v && group p.1 == group u) (joins group ps u v) e)

joins_to : (group : ℕ → ℕ) (ps : List (ℕ × ℕ)) (p : ℕ × ℕ) (u v : ℕ) → Contains ps p → Meets group p u v → joins group ps u v ≡ true
joins_to group ps p u v c m = ⊎_elim
    (λ e. sym (joins_same group ps p.0 p.1 u v e.0 e.1) ∙ joins_listed group ps p c)
    (λ e. joins_turn group ps u v ∙ sym (joins_same group ps p.0 p.1 v u e.0 e.1) ∙ joins_listed group ps p c)
    m

-- a pair in order is the pair as it stands or turned
in_order_cases : (p : ℕ × ℕ) → (((in_order p).0 ≡ p.0) × ((in_order p).1 ≡ p.1)) ⊎ (((in_order p).0 ≡ p.1) × ((in_order p).1 ≡ p.0))
in_order_cases p = pick p.0 p.1
  where
    pick : (a b : ℕ) → ((min a b ≡ a) × (max a b ≡ b)) ⊎ ((min a b ≡ b) × (max a b ≡ a))
    pick a b = grind arith

order_turned : (a b : ℕ) → in_order (a, b) ≡ in_order (b, a)
order_turned a b = let e : min a b ≡ min b a = omega arith in let f : max a b ≡ max b a = omega arith in λ i. (e i, f i)

-- ---- groups and chains
module _ (n : ℕ) (required : List (ℕ × ℕ)) (group : List ℕ) (all : AreBelow n required) (m : AreTied n required (length required) group) where
  pub tied_equal : {x y : ℕ} → Tied required x y → slice_index group x ≡ slice_index group y
  tied_equal same = refl
  tied_equal (pair {u} {v} c) = subst (λ (p : ℕ × ℕ). slice_index group p.0 ≡ slice_index group p.1) c.2 (m.joined c.0 (u, v) c.1)
  tied_equal (back t) = sym (tied_equal t)
  tied_equal (chain t r) = tied_equal t ∙ tied_equal r

  pub equal_tied : (x y : ℕ) → x < n → y < n → slice_index group x ≡ slice_index group y → Tied required x y
  equal_tied x y lx ly e = chain (back (m.tied x lx)) (subst (λ k. Tied required k y) (sym e) (m.tied y ly))

  pub group_least : (v : ℕ) → v < n → IsLeastTied n required v (slice_index group v)
  group_least v l = record {
    tied = m.tied v l;
    least = λ u lu t. let e = tied_equal t in let b = m.below u lu in omega (arith, e, b);
  }

-- labels are equal along chains of pairs that they obey
pub tied_labels : (required : List (ℕ × ℕ)) (label : ℕ → ℕ) → All (λ p. label p.0 ≡ label p.1) required → {x y : ℕ} → Tied required x y → label x ≡ label y
tied_labels required label a same = refl
tied_labels required label a (pair {u} {v} c) = All-contains (λ p. label p.0 ≡ label p.1) required (u, v) a c
tied_labels required label a (back t) = sym (tied_labels required label a t)
tied_labels required label a (chain t r) = tied_labels required label a t ∙ tied_labels required label a r

-- ---- the start
module _ (n : ℕ) (required forbidden : List (ℕ × ℕ)) (group : List ℕ) (sorted : List (ℕ × ℕ)) (req : AreBelow n required) (forb : AreBelow n forbidden)
    (m : AreTied n required (length required) group) (s : IsRisingOf n forbidden sorted) where
  abbrev pub g : ℕ → ℕ
  g = slice_index group

  below_of : (p : ℕ × ℕ) → Contains forbidden p → (p.0 < n) × (p.1 < n)
  below_of p c = All-contains (λ p. (p.0 < n) × (p.1 < n)) forbidden p forb c

  -- ---- with a tied pair
  sorted_below : (p : ℕ × ℕ) → Contains sorted p → (p.0 < n) × (p.1 < n)
  sorted_below p c = let o = All-contains (λ q. (q.0 ≤ q.1) × (q.1 < n)) sorted p s.ordered c in let a = o.0 in let b = o.1 in (omega (arith, a, b), b)

  order_tied : (p : ℕ × ℕ) → Tied required p.0 p.1 → g (in_order p).0 ≡ g (in_order p).1
  order_tied p t = let e = tied_equal n required group req m t in ⊎_elim (λ h. ap g h.0 ∙ e ∙ sym (ap g h.1)) (λ h. ap g h.0 ∙ sym e ∙ sym (ap g h.1)) (in_order_cases p)

  pub contradicts : (p : ℕ × ℕ) → IsFirstTied group sorted p → Contradicts required forbidden p.0 p.1
  contradicts p f = record {
    ordered = (All-contains (λ q. (q.0 ≤ q.1) × (q.1 < n)) sorted p s.ordered listed).0;
    listed = s.only p listed;
    tied = ties;
    least = λ q c t less.
        let w = s.each q c in
        ⊎_elim
        (λ e. irreflexive p (subst (λ k. Precedes k p) (sym w.2 ∙ get_or_default sorted w.0 (in_order q) p w.1 ∙ ap (λ k. get_or sorted k p) e ∙ f.there p) less))
        (λ d. ⊎_elim
        (λ l. f.before w.0 (in_order q) l (subst (λ (k : ℕ × ℕ). g k.0 ≡ g k.1) (sym w.2) (order_tied q t)))
        (λ l. asymmetric p (in_order q)
        (subst (λ k. Precedes k (in_order q)) (f.there (in_order q)) (subst (Precedes (get_or sorted f.place (in_order q))) w.2 (rising_at sorted s.rising f.place w.0 (in_order q) l w.1))) less)
        (apart_ways w.0 f.place d))
        (cases_eq w.0 f.place);
    none = λ label o.
        let w = s.only p listed in
        let e = tied_labels required label o.together ties in
        let d = All-contains (λ q. label q.0 ≢ label q.1) forbidden w.0 o.apart w.1 in
        let e0 : (in_order w.0).0 ≡ p.0 = ap (λ (k : ℕ × ℕ). k.0) w.2 in
        let e1 : (in_order w.0).1 ≡ p.1 = ap (λ (k : ℕ × ℕ). k.1) w.2 in
        ⊎_elim
        (λ h. d (ap label (sym h.0 ∙ e0) ∙ e ∙ ap label (sym e1 ∙ h.1)))
        (λ h. d (ap label (sym h.1 ∙ e1) ∙ sym e ∙ ap label (sym e0 ∙ h.0)))
        (in_order_cases w.0);
  }
    where
      listed : Contains sorted p
      listed = (f.place, f.within, f.there p)

      ties : Tied required p.0 p.1
      ties = let b = sorted_below p listed in equal_tied n required group req m p.0 p.1 b.0 b.1 f.same

      apart_ways : (a b : ℕ) → a ≢ b → (a < b) ⊎ (b < a)
      apart_ways a b d = grind arith

  pub led_below : AreBelow n (map (led group) sorted)
  led_below = All-map (λ p. (p.0 < n) × (p.1 < n)) (led group) sorted (all_from (λ p. (g p.0 < n) × (g p.1 < n)) sorted (λ p c.
      let b = sorted_below p c in
      let first = b.0 in
      let second = b.1 in
      let l = m.below p.0 first in
      let r = m.below p.1 second in
      (omega (arith, l, first), omega (arith, r, second))))

  -- ---- without one
  module _ (apart : List (ℕ × ℕ)) (none : All (λ p. g p.0 ≢ g p.1) sorted) (r : IsRisingOf n (map (led group) sorted) apart) where
    -- what stands in the list comes from a forbidden pair
    comes : (q : ℕ × ℕ) → Contains apart q → (p : ℕ × ℕ) × Contains forbidden p × (in_order (led group p) ≡ q) × (g p.0 ≢ g p.1)
    comes q c =
        let w = r.only q c in
        let x = map_from (led group) sorted w.0 w.1 in
        let y = s.only x.0 x.1 in
        let d = All-contains (λ p. g p.0 ≢ g p.1) sorted x.0 none x.1 in
        let is : in_order (led group x.0) ≡ q = ap in_order x.2 ∙ w.2 in
        let e0 : (in_order y.0).0 ≡ x.0.0 = ap (λ (k : ℕ × ℕ). k.0) y.2 in
        let e1 : (in_order y.0).1 ≡ x.0.1 = ap (λ (k : ℕ × ℕ). k.1) y.2 in (
          y.0,
          y.1,
          ⊎_elim
              (λ h. ap (λ (k : ℕ). in_order (g k, g y.0.1)) (sym h.0 ∙ e0) ∙ ap (λ (k : ℕ). in_order (g x.0.0, g k)) (sym h.1 ∙ e1) ∙ is)
              (λ h. order_turned (g y.0.0) (g y.0.1) ∙ ap (λ (k : ℕ). in_order (g k, g y.0.0)) (sym h.0 ∙ e0) ∙ ap (λ (k : ℕ). in_order (g x.0.0, g k)) (sym h.1 ∙ e1) ∙ is)
              (in_order_cases y.0),
          ⊎_elim
              (λ h e. d (ap g (sym e0 ∙ h.0) ∙ e ∙ ap g (sym h.1 ∙ e1)))
              (λ h e. d (ap g (sym e0 ∙ h.0) ∙ sym e ∙ ap g (sym h.1 ∙ e1)))
              (in_order_cases y.0),
        )

    -- each forbidden pair stands in the list by its groups
    stands : (p : ℕ × ℕ) → Contains forbidden p → Contains apart (in_order (led group p))
    stands p c =
        let w = r.each (led group (in_order p)) (map_to (led group) sorted (in_order p) (s.each p c)) in
        subst (Contains apart) (⊎_elim
        (λ h. ap (λ (k : ℕ). in_order (g k, g (in_order p).1)) h.0 ∙ ap (λ (k : ℕ). in_order (g p.0, g k)) h.1)
        (λ h. ap (λ (k : ℕ). in_order (g k, g (in_order p).1)) h.0 ∙ ap (λ (k : ℕ). in_order (g p.1, g k)) h.1 ∙ order_turned (g p.1) (g p.0))
        (in_order_cases p)) w

    ends : (p q : ℕ × ℕ) → in_order (led group p) ≡ q → ((q.0 ≡ g p.0) × (q.1 ≡ g p.1)) ⊎ ((q.0 ≡ g p.1) × (q.1 ≡ g p.0))
    ends p q e = subst (λ (k : ℕ × ℕ). ((k.0 ≡ g p.0) × (k.1 ≡ g p.1)) ⊎ ((k.0 ≡ g p.1) × (k.1 ≡ g p.0))) e (in_order_cases (led group p))

    in_group : (v : ℕ) → v < length group → v < n
    in_group v l = let z = m.size in omega (arith, l, z)

    pub closed : IsClosed (record { group = group; forbidden = apart })
    closed = record {
      below = λ v l. m.below v (in_group v l);
      least = λ v l. m.least v (in_group v l);
      in_range = all_from (λ p. (p.0 < length group) × (p.1 < length group)) apart (λ q c.
          let o = All-contains (λ q. (q.0 ≤ q.1) × (q.1 < n)) apart q r.ordered c in
          let a = o.0 in let b = o.1 in let z = m.size in (omega (arith, a, b, z), omega (arith, b, z)));
      least_pairs = all_from (λ p. (g p.0 ≡ p.0) × (g p.1 ≡ p.1)) apart (λ q c.
          let w = comes q c in
          let b = below_of w.0 w.1 in
          ⊎_elim
          (λ h. (ap g h.0 ∙ m.least w.0.0 b.0 ∙ sym h.0, ap g h.1 ∙ m.least w.0.1 b.1 ∙ sym h.1))
          (λ h. (ap g h.0 ∙ m.least w.0.1 b.1 ∙ sym h.0, ap g h.1 ∙ m.least w.0.0 b.0 ∙ sym h.1))
          (ends w.0 q w.2));
      ordered = all_from (λ p. p.0 < p.1) apart (λ q c.
          let w = comes q c in
          let o = (All-contains (λ q. (q.0 ≤ q.1) × (q.1 < n)) apart q r.ordered c).0 in
          let d : q.0 ≢ q.1 = λ e. ⊎_elim (λ h. w.3 (sym h.0 ∙ e ∙ h.1)) (λ h. w.3 (sym h.1 ∙ sym e ∙ h.0)) (ends w.0 q w.2) in
          omega (arith, o, d));
      rising = r.rising;
    }

    pub start_of : IsStartOf n required forbidden (record { group = group; forbidden = apart })
    start_of = record {
      size = m.size;
      groups = group_least n required group req m;
      apart = λ u v lu lv. same_test _ _
          (λ e.
          let w = joins_from g apart u v e in
          let x = comes w.0 w.1 in
          let b = below_of x.0 x.1 in
          joins_to g forbidden x.0 u v x.1 (⊎_elim
          (λ h. ⊎_elim
          (λ k. inl (sym (ap g h.0 ∙ m.least x.0.0 b.0) ∙ k.0, sym (ap g h.1 ∙ m.least x.0.1 b.1) ∙ k.1))
          (λ k. inr (sym (ap g h.0 ∙ m.least x.0.0 b.0) ∙ k.0, sym (ap g h.1 ∙ m.least x.0.1 b.1) ∙ k.1)) w.2)
          (λ h. ⊎_elim
          (λ k. inr (sym (ap g h.1 ∙ m.least x.0.0 b.0) ∙ k.1, sym (ap g h.0 ∙ m.least x.0.1 b.1) ∙ k.0))
          (λ k. inl (sym (ap g h.1 ∙ m.least x.0.0 b.0) ∙ k.1, sym (ap g h.0 ∙ m.least x.0.1 b.1) ∙ k.0)) w.2)
          (ends x.0 w.0 x.2)))
          (λ e.
          let w = joins_from g forbidden u v e in
          let b = below_of w.0 w.1 in
          let q = in_order (led group w.0) in
          joins_to g apart q u v (stands w.0 w.1) (⊎_elim
          (λ h. ⊎_elim
          (λ k. inl (ap g h.0 ∙ m.least w.0.0 b.0 ∙ k.0, ap g h.1 ∙ m.least w.0.1 b.1 ∙ k.1))
          (λ k. inr (ap g h.0 ∙ m.least w.0.0 b.0 ∙ k.0, ap g h.1 ∙ m.least w.0.1 b.1 ∙ k.1)) w.2)
          (λ h. ⊎_elim
          (λ k. inr (ap g h.0 ∙ m.least w.0.1 b.1 ∙ k.1, ap g h.1 ∙ m.least w.0.0 b.0 ∙ k.0))
          (λ k. inl (ap g h.0 ∙ m.least w.0.1 b.1 ∙ k.1, ap g h.1 ∙ m.least w.0.0 b.0 ∙ k.0)) w.2)
          (in_order_cases (led group w.0))));
      permits = λ label. (
        (λ o. record {
          together = λ k d l.
              let b = req k d l in
              sym (o.required _ (back_in b.0)) ∙ ap label (m.joined k d l) ∙ o.required _ (back_in b.1);
          apart = all_from (λ p. label p.0 ≢ label p.1) forbidden (λ p c e.
              let b = below_of p c in
              let f : label (g p.0) ≡ label (g p.1) = o.required p.0 (back_in b.0) ∙ e ∙ sym (o.required p.1 (back_in b.1)) in
              let d = All-contains (λ q. label q.0 ≢ label q.1) apart (in_order (led group p)) o.forbidden (stands p c) in
              ⊎_elim (λ h. d (ap label h.0 ∙ f ∙ sym (ap label h.1))) (λ h. d (ap label h.0 ∙ sym f ∙ sym (ap label h.1))) (in_order_cases (led group p)));
        }),
        (λ o. record {
          required = λ v l. tied_labels required label o.together (m.tied v (in_group v l));
          forbidden = all_from (λ q. label q.0 ≢ label q.1) apart (λ q c e.
              let w = comes q c in
              let b = below_of w.0 w.1 in
              let p0 = tied_labels required label o.together (m.tied w.0.0 b.0) in
              let p1 = tied_labels required label o.together (m.tied w.0.1 b.1) in
              let d = All-contains (λ p. label p.0 ≢ label p.1) forbidden w.0 o.apart w.1 in
              ⊎_elim
              (λ h. d (sym p0 ∙ sym (ap label h.0) ∙ e ∙ ap label h.1 ∙ p1))
              (λ h. d (sym p0 ∙ sym (ap label h.1) ∙ sym e ∙ ap label h.0 ∙ p1))
              (ends w.0 q w.2));
        }),
      );
    }
      where
        back_in : {v : ℕ} → v < n → v < length group
        back_in l = let z = m.size in omega (arith, l, z)
