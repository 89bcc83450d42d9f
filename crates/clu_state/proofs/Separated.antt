-- The tables after two groups were put apart.
use Rattle.std.proofs.Common.{◌≡◌, ◌≢◌, ◌⊎◌, ℕ, ℤ, ◌<◌, ⊎_elim, inl, inr, List, [], ◌∷◌, ◌++◌, length, slice_index, Contains, true, ◌||◌, refl, sym, ap, ◌∙◌, subst, arith}
use Rattle.std.proofs.lemmas.Bool.{cases_eq}
use Rattle.std.proofs.lemmas.List.Elements.{Contains-append_right}
use Rattle.clu_partition.specs.Pairs.{Pairs, weight_of}
use Rattle.clu_partition.specs.Closed.{joins}
use Rattle.clu_partition.specs.Grids.{IsGrid}
use Rattle.clu_partition.specs.Groups.{between}
use Rattle.clu_partition.specs.Values.{value_on}
use Rattle.clu_partition.proofs.JoinLaws.{joins_turn, joins_same, joins_listed}
use Rattle.clu_partition.specs.PairSets.{Chosen, has, with_pair}
use Rattle.clu_state.specs.State.{State, IsFree, leader, kept_apart, are_apart, decided}
use Rattle.clu_state.specs.Rebuilt.{TablesAgree, Leads}
use Rattle.clu_state.specs.declared.decision.Decision.TheVariants.{Apart}
use Rattle.clu_state.proofs.GroupLaws.{leader_leads}
use Rattle.clu_state.proofs.JoinSteps.{joins_append, joins_no_other}
use Rattle.clu_partition.proofs.PairMerges.{has_turn, put_here, put_other}
use Rattle.clu_state.proofs.Told.{at_group, placed}
use Rattle.clu_state.proofs.Joined.{leader_apart, kept_more, decided_state, place_is, places_differ, member_below}
use Rattle.clu_partition.proofs.BoolLaws.{or_false}
use Rattle.clu_partition.proofs.PairLaws.{one_pair}

which : (x y a b : ℕ) → ((x ≡ a) × (y ≡ b)) ⊎ ((x ≡ a) × (y ≡ b) → ⊥)
which x y a b = ⊎_elim
    (λ e. ⊎_elim (λ f. inl (e, f)) (λ d. inr (λ h. d h.1)) (cases_eq y b))
    (λ d. inr (λ h. d h.0))
    (cases_eq x a)

-- the new marks
apart_mark : (s : State) (group place : List ℕ) (weights : Pairs) (marks : Chosen) (fixed : ℤ) (u v a b : ℕ) → IsGrid marks → TablesAgree s group place weights marks fixed → IsFree s u v →
    Leads s a → Leads s b → a ≢ b →
    has (with_pair marks (at_group s place u) (at_group s place v)) (slice_index place a) (slice_index place b) ≡ joins (leader s) (kept_apart s ++ (u, v) ∷ []) a b
apart_mark s group place weights marks fixed u v a b am g f la lb ab = ⊎_elim
    (λ e. marked a b la lb e.0 e.1 ∙ sym (joined a b la lb e.0 e.1))
    (λ m. ⊎_elim
    (λ e. has_turn new (slice_index place a) (slice_index place b) ∙ marked b a lb la e.0 e.1 ∙ sym (joins_turn (leader s) (kept_apart s ++ (u, v) ∷ []) a b ∙ joined b a lb la e.0 e.1))
    (λ n. put_other marks (at_group s place u) (at_group s place v) (slice_index place a) (slice_index place b) (p (leader s u) lu) (p (leader s v) lv) (p a la) (p b lb)
    (λ e. ⊎_elim (λ h. m (same (leader s u) a lu la h.0, same (leader s v) b lv lb h.1)) (λ h. n (same (leader s u) b lu lb h.0, same (leader s v) a lv la h.1)) (one_pair (at_group s place u) (at_group s place v) (slice_index place a) (slice_index place b) e)) ∙
    g.separated a b la lb ab ∙
    sym (joins_append (leader s) (kept_apart s) ((u, v) ∷ []) a b ∙
    ap (λ k. are_apart s a b || k) (joins_no_other (leader s) u v a b (λ h. m (h.0 ∙ la.least, h.1 ∙ lb.least)) (λ h. n (h.0 ∙ lb.least, h.1 ∙ la.least))) ∙
    or_false (are_apart s a b)))
    (which (leader s u) (leader s v) b a))
    (which (leader s u) (leader s v) a b)
  where
    new : Chosen
    new = with_pair marks (at_group s place u) (at_group s place v)

    lu : Leads s (leader s u)
    lu = leader_leads s u g.state f.first

    lv : Leads s (leader s v)
    lv = leader_leads s v g.state f.second

    p : (x : ℕ) → Leads s x → slice_index place x < marks.n
    p x l = let q = (place_is s.members place x g.places l.member).0 in let e = g.marks_size in omega (arith, q, e)

    same : (x y : ℕ) → Leads s x → Leads s y → slice_index place x ≡ slice_index place y → x ≡ y
    same x y l k e = ⊎_elim (λ h. h) (λ d. absurd (places_differ s.members place x y g.places l.member k.member d e)) (cases_eq x y)

    marked : (x y : ℕ) → Leads s x → Leads s y → leader s u ≡ x → leader s v ≡ y → has new (slice_index place x) (slice_index place y) ≡ true
    marked x y l k e h =
        subst (λ z. has (with_pair marks (slice_index place z) (at_group s place v)) (slice_index place x) (slice_index place y) ≡ true) (sym e)
        (subst (λ z. has (with_pair marks (slice_index place x) (slice_index place z)) (slice_index place x) (slice_index place y) ≡ true) (sym h)
        (put_here marks (slice_index place x) (slice_index place y) am (p x l) (p y k)))

    joined : (x y : ℕ) → Leads s x → Leads s y → leader s u ≡ x → leader s v ≡ y → joins (leader s) (kept_apart s ++ (u, v) ∷ []) x y ≡ true
    joined x y l k e h =
        joins_same (leader s) (kept_apart s ++ (u, v) ∷ []) x y u v (l.least ∙ sym e) (k.least ∙ sym h) ∙
        joins_listed (leader s) (kept_apart s ++ (u, v) ∷ []) (u, v) (Contains-append_right (kept_apart s) ((u, v) ∷ []) (u, v) (0, omega arith, refl))

pub agrees_apart : (s : State) (group place : List ℕ) (weights : Pairs) (old new : Chosen) (fixed : ℤ) (u v p q : ℕ) → TablesAgree s group place weights old fixed → IsFree s u v → IsGrid old →
    p ≡ slice_index place (slice_index group u) → q ≡ slice_index place (slice_index group v) → new ≡ with_pair old p q → TablesAgree (decided s (Apart u v)) group place weights new fixed
agrees_apart s group place weights old new fixed u v p q g f am ep eq' en = record {
  state = decided_state s (Apart u v) g.state f;
  few = g.few;
  group_size = g.group_size;
  leaders = λ x l. g.leaders x l ∙ sym (ap (λ (h : ℕ → ℕ). h x) (leader_apart s u v));
  place_size = g.place_size;
  places = g.places;
  table_size = g.table_size;
  contracted = λ a b la lb ab. g.contracted a b (led a la) (led b lb) ab ∙
      ap (λ (h : ℕ → ℕ). between (weight_of s.pairs) h s.members a b) (sym (leader_apart s u v));
  marks_size = ap (λ m. m.n) marks ∙ g.marks_size;
  separated = λ a b la lb ab.
      subst (λ m. has m (slice_index place a) (slice_index place b) ≡ are_apart (decided s (Apart u v)) a b) (sym marks)
      (apart_mark s group place weights old fixed u v a b am g f (led a la) (led b lb) ab ∙
      ap (λ (h : ℕ → ℕ). joins h (kept_apart s ++ (u, v) ∷ []) a b) (sym (leader_apart s u v)) ∙
      ap (λ ps. joins (leader (decided s (Apart u v))) ps a b) (sym (kept_more s u v)));
  inside = g.inside ∙ ap (λ (h : ℕ → ℕ). value_on (weight_of s.pairs) h s.members) (sym (leader_apart s u v));
}
  where
    led : (x : ℕ) → Leads (decided s (Apart u v)) x → Leads s x
    led x l = record { member = l.member; least = ap (λ (h : ℕ → ℕ). h x) (sym (leader_apart s u v)) ∙ l.least }

    marks : new ≡ with_pair old (at_group s place u) (at_group s place v)
    marks = en ∙
        ap (λ k. with_pair old k q) (ep ∙ ap (slice_index place) (g.leaders u (member_below s u g.state f.first))) ∙
        ap (with_pair old (at_group s place u)) (eq' ∙ ap (slice_index place) (g.leaders v (member_below s v g.state f.second)))

-- what putting two groups apart needs, with u and v read at their places
pub record Parts (group place : List ℕ) (apart : Chosen) (u : ℕ) : Type 0 where
  pub below : u < length group
  pub leader_below : slice_index group u < length place
  pub place_below : slice_index place (slice_index group u) < apart.n

pub parts : (s : State) (group place : List ℕ) (weights : Pairs) (apart : Chosen) (fixed : ℤ) (u : ℕ) → TablesAgree s group place weights apart fixed → Contains s.members u → Parts group place apart u
parts s group place weights apart fixed u g c =
    let p = placed s group place weights apart fixed u g c in
    let e : slice_index group u ≡ leader s u = g.leaders u (member_below s u g.state c) in
    record {
      below = let b = member_below s u g.state c in let k = g.group_size in omega (arith, b, k);
      leader_below = let l = p.leads in omega (arith, l, e);
      place_below = let l = p.in_marks in let f = ap (slice_index place) e in omega (arith, l, f);
    }
