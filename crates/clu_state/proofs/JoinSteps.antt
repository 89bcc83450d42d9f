-- Which groups a list of pairs joins, after two groups became one and after one more pair.
use Rattle.std.proofs.Common.{◌≡◌, ◌≢◌, ℕ, ⊎_elim, List, [], ◌∷◌, ◌++◌, refl, sym, ap, ◌∙◌, Bool, true, false, ◌==◌, ◌&&◌, ◌||◌}
use Rattle.std.proofs.lemmas.Bool.{eq-eqb, ne_eqb, cases_eq}
use Rattle.clu_partition.specs.Closed.{joins}
use Rattle.clu_state.proofs.Merge.{relabelled, moved, stays}
use Rattle.clu_partition.proofs.BoolLaws.{or_false}
use Rattle.clu_partition.proofs.PairLaws.{no_and}

-- ---- tests
and_or : (a h b : Bool) → ((a || h) && b) ≡ (a && b || h && b)
and_or true true true = refl
and_or true true false = refl
and_or true false true = refl
and_or true false false = refl
and_or false h b = refl

or_and : (b a h : Bool) → (b && (a || h)) ≡ (b && a || b && h)
or_and true a h = refl
or_and false a h = refl

or_six : (x y z w l m : Bool) → (((x || y) || (z || w)) || (l || m)) ≡ (((x || z) || l) || ((y || w) || m))
or_six true y z w l m = refl
or_six false true true w l m = refl
or_six false true false w true m = refl
or_six false true false w false m = refl
or_six false false true w l m = refl
or_six false false false true true m = refl
or_six false false false true false m = refl
or_six false false false false l m = refl

-- the tests of one pair, and of those behind it, where the first group is of two
gather : (a h b c d e l m : Bool) → (((a || h) && b || c && (d || e)) || (l || m)) ≡ ((a && b || c && d || l) || (h && b || c && e || m))
gather a h b c d e l m =
    ap (λ k. (k || c && (d || e)) || (l || m)) (and_or a h b) ∙
    ap (λ k. ((a && b || h && b) || k) || (l || m)) (or_and c d e) ∙
    or_six (a && b) (h && b) (c && d) (c && e) l m

-- ---- two groups become one
is_low : (group : ℕ → ℕ) (low high x : ℕ) → low ≢ high → (relabelled group low high x == low) ≡ (group x == low || group x == high)
is_low group low high x n = ⊎_elim
    (λ e. eq-eqb (relabelled group low high x) low (moved group low high x e) ∙ sym (ap (λ k. k || group x == high) (ne_eqb (group x) low (λ f. n (sym f ∙ e))) ∙ eq-eqb (group x) high e))
    (λ d. ap (λ k. k == low) (stays group low high x d) ∙ sym (ap (λ k. group x == low || k) (ne_eqb (group x) high d) ∙ or_false (group x == low)))
    (cases_eq (group x) high)

is_other : (group : ℕ → ℕ) (low high a x : ℕ) → a ≢ low → a ≢ high → (relabelled group low high x == a) ≡ (group x == a)
is_other group low high a x m n = ⊎_elim
    (λ e. ne_eqb (relabelled group low high x) a (λ f. m (sym f ∙ moved group low high x e)) ∙ sym (ne_eqb (group x) a (λ f. n (sym f ∙ e))))
    (λ d. ap (λ k. k == a) (stays group low high x d))
    (cases_eq (group x) high)

-- a group that the two are not
abbrev pub Aside : (ℕ → ℕ) → ℕ → ℕ → ℕ → Type 0
Aside group low high a = (group a ≡ a) × ((a ≢ low) × (a ≢ high))

kept : (group : ℕ → ℕ) (low high a : ℕ) → Aside group low high a → relabelled group low high a ≡ a
kept group low high a h = stays group low high a (λ f. h.1.1 (sym h.0 ∙ f)) ∙ h.0

-- the lower one of the two is joined to what either was joined to
pub joins_low : (group : ℕ → ℕ) (low high b : ℕ) → group low ≡ low → group high ≡ high → low ≢ high → Aside group low high b → (ps : List (ℕ × ℕ)) →
    joins (relabelled group low high) ps low b ≡ (joins group ps low b || joins group ps high b)
joins_low group low high b el eh n h [] = refl
joins_low group low high b el eh n h (p ∷ ps) =
    ap (λ k. r p.0 == k && r p.1 == r b || r p.0 == r b && r p.1 == k || joins r ps low b) at_low ∙
    ap (λ k. r p.0 == low && r p.1 == k || r p.0 == k && r p.1 == low || joins r ps low b) (kept group low high b h) ∙
    ap (λ k. r p.0 == low && r p.1 == b || r p.0 == b && r p.1 == low || k) (joins_low group low high b el eh n h ps) ∙
    ap (λ k. k && r p.1 == b || r p.0 == b && r p.1 == low || rest) (is_low group low high p.0 n) ∙
    ap (λ k. (group p.0 == low || group p.0 == high) && k || r p.0 == b && r p.1 == low || rest) (is_other group low high b p.1 h.1.0 h.1.1) ∙
    ap (λ k. (group p.0 == low || group p.0 == high) && group p.1 == b || k && r p.1 == low || rest) (is_other group low high b p.0 h.1.0 h.1.1) ∙
    ap (λ k. (group p.0 == low || group p.0 == high) && group p.1 == b || group p.0 == b && k || rest) (is_low group low high p.1 n) ∙
    gather (group p.0 == low) (group p.0 == high) (group p.1 == b) (group p.0 == b) (group p.1 == low) (group p.1 == high) (joins group ps low b) (joins group ps high b) ∙
    sym (ap (λ k. (group p.0 == k && group p.1 == group b || group p.0 == group b && group p.1 == k || joins group ps low b) || joins group (p ∷ ps) high b) el ∙
    ap (λ k. (group p.0 == low && group p.1 == k || group p.0 == k && group p.1 == low || joins group ps low b) || joins group (p ∷ ps) high b) h.0 ∙
    ap (λ k. (group p.0 == low && group p.1 == b || group p.0 == b && group p.1 == low || joins group ps low b) || (group p.0 == k && group p.1 == group b || group p.0 == group b && group p.1 == k || joins group ps high b)) eh ∙
    ap (λ k. (group p.0 == low && group p.1 == b || group p.0 == b && group p.1 == low || joins group ps low b) || (group p.0 == high && group p.1 == k || group p.0 == k && group p.1 == high || joins group ps high b)) h.0)
  where
    r : ℕ → ℕ
    r = relabelled group low high

    rest : Bool
    rest = joins group ps low b || joins group ps high b

    at_low : relabelled group low high low ≡ low
    at_low = stays group low high low (λ f. n (sym el ∙ f)) ∙ el

-- two others are joined as before
pub joins_aside : (group : ℕ → ℕ) (low high a b : ℕ) → Aside group low high a → Aside group low high b → (ps : List (ℕ × ℕ)) →
    joins (relabelled group low high) ps a b ≡ joins group ps a b
joins_aside group low high a b g h [] = refl
joins_aside group low high a b g h (p ∷ ps) =
    ap (λ k. r p.0 == k && r p.1 == r b || r p.0 == r b && r p.1 == k || joins r ps a b) (kept group low high a g) ∙
    ap (λ k. r p.0 == a && r p.1 == k || r p.0 == k && r p.1 == a || joins r ps a b) (kept group low high b h) ∙
    ap (λ k. r p.0 == a && r p.1 == b || r p.0 == b && r p.1 == a || k) (joins_aside group low high a b g h ps) ∙
    ap (λ k. k && r p.1 == b || r p.0 == b && r p.1 == a || joins group ps a b) (is_other group low high a p.0 g.1.0 g.1.1) ∙
    ap (λ k. group p.0 == a && k || r p.0 == b && r p.1 == a || joins group ps a b) (is_other group low high b p.1 h.1.0 h.1.1) ∙
    ap (λ k. group p.0 == a && group p.1 == b || k && r p.1 == a || joins group ps a b) (is_other group low high b p.0 h.1.0 h.1.1) ∙
    ap (λ k. group p.0 == a && group p.1 == b || group p.0 == b && k || joins group ps a b) (is_other group low high a p.1 g.1.0 g.1.1) ∙
    sym (ap (λ k. group p.0 == k && group p.1 == group b || group p.0 == group b && group p.1 == k || joins group ps a b) g.0 ∙
    ap (λ k. group p.0 == a && group p.1 == k || group p.0 == k && group p.1 == a || joins group ps a b) h.0)
  where
    r : ℕ → ℕ
    r = relabelled group low high

-- ---- one more pair
pub joins_append : (group : ℕ → ℕ) (ps qs : List (ℕ × ℕ)) (u v : ℕ) → joins group (ps ++ qs) u v ≡ (joins group ps u v || joins group qs u v)
joins_append group [] qs u v = refl
joins_append group (p ∷ ps) qs u v = ap (λ x. (group p.0 == group u && group p.1 == group v || group p.0 == group v && group p.1 == group u) || x) (joins_append group ps qs u v) ∙ or_assoc (group p.0 == group u && group p.1 == group v || group p.0 == group v && group p.1 == group u) (joins group ps u v) (joins group qs u v)
  where
    or_assoc : (x y z : Bool) → (x || (y || z)) ≡ ((x || y) || z)
    or_assoc true y z = refl
    or_assoc false y z = refl

-- a pair joins no other groups than its own two
pub joins_no_other : (group : ℕ → ℕ) (u v a b : ℕ) → ((group u ≡ group a) × (group v ≡ group b) → ⊥) → ((group u ≡ group b) × (group v ≡ group a) → ⊥) →
    joins group ((u, v) ∷ []) a b ≡ false
joins_no_other group u v a b m n =
    ap (λ k. k || group u == group b && group v == group a || false) (no_and (group u) (group a) (group v) (group b) m) ∙
    ap (λ k. false || k || false) (no_and (group u) (group b) (group v) (group a) n)
