-- Closed rules are those of the rules that they were made of, and no others.
use Rattle.std.proofs.Common.{◌≡◌, ◌≢◌, ◌⊎◌, inl, inr, ⊎_elim, ◌↔◌, ℕ, ◌<◌, ◌≤◌, List, [], length, slice_index, get_or, Contains, All, true, refl, sym, ap, ◌∙◌, subst, arith}
use Rattle.std.proofs.lemmas.Bool.{cases_lt}
use Rattle.std.proofs.lemmas.List.{same_lists, get_or_default}
use Rattle.std.proofs.lemmas.List.Elements.{All-nil, All-contains}
use Rattle.std.specs.List.{enumerate_from}
use Rattle.clu_text.specs.Lines.{lines_of}
use Rattle.clu_partition.specs.Closed.{Closed, IsClosed, BindsNothing, IsPermitted, joins}
use Rattle.clu_partition.specs.Ties.{Tied, same, ObeysPairs, IsStartOf}
use Rattle.clu_partition.proofs.ClosedLaws.{open_closed, own_permitted}
use Rattle.clu_partition.proofs.JoinLaws.{joins_listed}
use Rattle.clu_partition.proofs.StartLaws.{joins_from, all_from, tied_labels}
use Rattle.clu_rules.specs.Lines.{Rule}
use Rattle.clu_rules.specs.Rules.{Obeys, IsListOf, Requires, Forbids}
use Rattle.clu_rules.specs.Reading.{IsRulesFault, IsTextOf}
use Rattle.clu_rules.specs.Closing.{ArePairsOf, IsClosureOf, IsContradiction}
use Rattle.clu_rules.specs.declared.error.RuleError.{RuleError}
use Rattle.clu_rules.proofs.Excluded.{read_faultless}
use Rattle.clu_rules.proofs.OneReading.{rising_same, list_once, reads_once}

-- ---- what closed rules permit
-- labels obey the pairs of rules exactly where they obey the rules
pairs_obey : (n : ℕ) (rules : List Rule) (required forbidden : List (ℕ × ℕ)) → ArePairsOf n rules required forbidden → (label : ℕ → ℕ) → ObeysPairs required forbidden label ↔ Obeys rules label
pairs_obey n rules required forbidden pairs label = (
  (λ o. record {
    together = λ u v r. ⊎_elim
        (λ l. sym (All-contains (λ p. label p.0 ≡ label p.1) required (v, u) o.together (pairs.required_are.each v u (omega (arith, l)) (inr r))))
        (λ l. All-contains (λ p. label p.0 ≡ label p.1) required (u, v) o.together (pairs.required_are.each u v l (inl r)))
        (cases_lt v u);
    apart = λ u v r e. ⊎_elim
        (λ l. All-contains (λ p. label p.0 ≢ label p.1) forbidden (v, u) o.apart (pairs.forbidden_are.each v u (omega (arith, l)) (inr r)) (sym e))
        (λ l. All-contains (λ p. label p.0 ≢ label p.1) forbidden (u, v) o.apart (pairs.forbidden_are.each u v l (inl r)) e)
        (cases_lt v u);
  }),
  (λ o. record {
    together = all_from (λ p. label p.0 ≡ label p.1) required (λ p c. ⊎_elim
        (λ r. o.together p.0 p.1 r)
        (λ r. sym (o.together p.1 p.0 r))
        (pairs.required_are.only p.0 p.1 c));
    apart = all_from (λ p. label p.0 ≢ label p.1) forbidden (λ p c e. ⊎_elim
        (λ r. o.apart p.0 p.1 r e)
        (λ r. o.apart p.1 p.0 r (sym e))
        (pairs.forbidden_are.only p.0 p.1 c));
  }),
)

-- the partitions that the closed rules permit are those that obey the rules
pub permitted_obeys : (n : ℕ) (rules : List Rule) (start : Closed) → IsClosureOf n rules start → (label : ℕ → ℕ) → IsPermitted start label ↔ Obeys rules label
permitted_obeys n rules start closure label =
    let made = closure.made.permits label in
    let obeyed = pairs_obey n rules closure.required closure.forbidden closure.pairs label in
    ((λ p. obeyed.0 (made.0 p)), (λ o. made.1 (obeyed.1 o)))

-- the partition into groups obeys the rules
pub own_obeys : (n : ℕ) (rules : List Rule) (start : Closed) → IsClosureOf n rules start → Obeys rules (slice_index start.group)
own_obeys n rules start closure = (permitted_obeys n rules start closure (slice_index start.group)).0 (own_permitted start closure.closed)

-- no labels obey rules that contradict each other
pub none_obeys : (n : ℕ) (rules : List Rule) (u v : ℕ) → IsContradiction n rules u v → (label : ℕ → ℕ) → Obeys rules label → ⊥
none_obeys n rules u v found label o = found.pair.none label ((pairs_obey n rules found.required found.forbidden found.pairs label).1 o)

-- ---- rules close in one way
-- the least vertex of a group is at most that of the same pairs' other closed rules
least_at_most : (n : ℕ) (required forbidden : List (ℕ × ℕ)) (c d : Closed) → IsClosed d → IsStartOf n required forbidden c → IsStartOf n required forbidden d
    → (v : ℕ) → v < n → slice_index c.group v ≤ slice_index d.group v
least_at_most n required forbidden c d closed made remade v l =
    let size = remade.size in
    let below = closed.below v (omega (arith, l, size)) in
    (made.groups v l).least (slice_index d.group v) (omega (arith, below, l)) (remade.groups v l).tied

module _ (n : ℕ) (required forbidden : List (ℕ × ℕ)) (c d : Closed) (first : IsClosed c) (second : IsClosed d)
    (made : IsStartOf n required forbidden c) (remade : IsStartOf n required forbidden d) where
  -- each vertex has one least vertex
  same_groups : c.group ≡ d.group
  same_groups = same_lists c.group d.group (made.size ∙ sym remade.size) at
    where
      at : (v e : ℕ) → v < length c.group → get_or c.group v e ≡ get_or d.group v e
      at v e l =
          let s = made.size in
          let t = remade.size in
          let below : v < n = omega (arith, l, s) in
          let lower = least_at_most n required forbidden c d second made remade v below in
          let upper = least_at_most n required forbidden d c first remade made v below in
          let equal : slice_index c.group v ≡ slice_index d.group v = omega (arith, lower, upper) in
          get_or_default c.group v e 0 l ∙ equal ∙ get_or_default d.group v 0 e (omega (arith, l, s, t))

  -- a forbidden pair of the one is a forbidden pair of the other
  still_forbidden : (p : ℕ × ℕ) → Contains c.forbidden p → Contains d.forbidden p
  still_forbidden p listed =
      let near = All-contains (λ p. (p.0 < length c.group) × (p.1 < length c.group)) c.forbidden p first.in_range listed in
      let size = made.size in
      let within : (p.0 < n) × (p.1 < n) = let a = near.0 in let b = near.1 in (omega (arith, a, size), omega (arith, b, size)) in
      let least = All-contains (λ p. (slice_index c.group p.0 ≡ p.0) × (slice_index c.group p.1 ≡ p.1)) c.forbidden p first.least_pairs listed in
      let less = All-contains (λ p. p.0 < p.1) c.forbidden p first.ordered listed in
      let asked : joins (slice_index c.group) forbidden p.0 p.1 ≡ true = sym (made.apart p.0 p.1 within.0 within.1) ∙ joins_listed (slice_index c.group) c.forbidden p listed in
      let joined = remade.apart p.0 p.1 within.0 within.1 ∙ subst (λ (g : List ℕ). joins (slice_index g) forbidden p.0 p.1 ≡ true) same_groups asked in
      let q = joins_from (slice_index d.group) d.forbidden p.0 p.1 joined in
      let own = All-contains (λ p. (slice_index d.group p.0 ≡ p.0) × (slice_index d.group p.1 ≡ p.1)) d.forbidden q.0 second.least_pairs q.1 in
      let order = All-contains (λ p. p.0 < p.1) d.forbidden q.0 second.ordered q.1 in
      let left : slice_index d.group p.0 ≡ p.0 = subst (λ (g : List ℕ). slice_index g p.0 ≡ p.0) same_groups least.0 in
      let right : slice_index d.group p.1 ≡ p.1 = subst (λ (g : List ℕ). slice_index g p.1 ≡ p.1) same_groups least.1 in
      ⊎_elim
      (λ h. subst (Contains d.forbidden) (λ i. ((sym own.0 ∙ h.0 ∙ left) i, (sym own.1 ∙ h.1 ∙ right) i)) q.1)
      (λ h.
      let turned : q.0.0 ≡ p.1 = sym own.0 ∙ h.0 ∙ right in
      let back : q.0.1 ≡ p.0 = sym own.1 ∙ h.1 ∙ left in
      absurd (omega (arith, less, order, turned, back)))
      q.2

-- pairs make one value of closed rules
one_start : (n : ℕ) (required forbidden : List (ℕ × ℕ)) (c d : Closed) → IsClosed c → IsClosed d → IsStartOf n required forbidden c → IsStartOf n required forbidden d → c ≡ d
one_start n required forbidden c d first second made remade =
    let groups = same_groups n required forbidden c d first second made remade in
    let pairs = rising_same c.forbidden d.forbidden first.rising second.rising
    (still_forbidden n required forbidden c d first second made remade)
    (still_forbidden n required forbidden d c second first remade made) in
    λ i. record { group = groups i; forbidden = pairs i }

-- rules make one value of closed rules
pub one_closure : (n : ℕ) (rules : List Rule) (start other : Closed) → IsClosureOf n rules start → IsClosureOf n rules other → other ≡ start
one_closure n rules start other a b =
    let e = list_once n (Requires rules) b.required a.required b.pairs.required_are a.pairs.required_are in
    let f = list_once n (Forbids rules) b.forbidden a.forbidden b.pairs.forbidden_are a.pairs.forbidden_are in
    one_start n a.required a.forbidden other start b.closed a.closed
    (subst (λ (pairs : List (ℕ × ℕ)). IsStartOf n a.required pairs other) f (subst (λ (pairs : List (ℕ × ℕ)). IsStartOf n pairs b.forbidden other) e b.made))
    a.made

-- ---- no rules
-- the empty list is that of a relation that relates nothing
no_pairs : (n : ℕ) (R : ℕ → ℕ → Type 0) → ((u v : ℕ) → R u v → ⊥) → IsListOf n R []
no_pairs n R none = record {
  listed = record { rising = tt; ordered = All-nil (λ p. (p.0 ≤ p.1) × (p.1 < n)) };
  only = λ u v c. let l = c.1 in absurd (omega (arith, l));
  each = λ u v l r. absurd (⊎_elim (none u v) (none v u) r);
}

-- no rules make closed rules that bind nothing
pub nothing_closes : (n : ℕ) (start : Closed) → BindsNothing n start → IsClosureOf n [] start
nothing_closes n start none = record {
  required = [];
  forbidden = [];
  pairs = record {
    required_are = no_pairs n (Requires []) (λ u v w. let l = w.1.1 in omega (arith, l));
    forbidden_are = no_pairs n (Forbids []) (λ u v w. let l = w.1.1 in omega (arith, l));
  };
  closed = open_closed n start none;
  made = record {
    size = none.size;
    groups = λ v l. record {
      tied = subst (λ (a : ℕ). Tied [] a v) (sym (none.alone v l)) same;
      least = λ u m t. let e = tied_labels [] (λ x. x) (All-nil (λ p. p.0 ≡ p.1)) t in let a = none.alone v l in omega (arith, e, a);
    };
    apart = λ u v l m. ap (λ (ps : List (ℕ × ℕ)). joins (slice_index start.group) ps u v) none.none_forbidden;
    permits = λ label. (
      (λ p. record { together = All-nil (λ p. label p.0 ≡ label p.1); apart = All-nil (λ p. label p.0 ≢ label p.1) }),
      (λ o. record {
        required = λ v l. ap label (none.alone v (let s = none.size in omega (arith, l, s)));
        forbidden = subst (All (λ p. label p.0 ≢ label p.1)) (sym none.none_forbidden) (All-nil (λ p. label p.0 ≢ label p.1));
      }),
    );
  };
}

-- ---- texts of rules
-- bytes are a text of one list of rules
pub one_text : (named : List ℕ → ℕ → Type 0) (one : (name : List ℕ) (u v : ℕ) → named name u → named name v → u ≡ v) (bytes : List ℕ) (rules others : List Rule)
    → IsTextOf named bytes rules → IsTextOf named bytes others → others ≡ rules
one_text named one bytes rules others r s = reads_once named one (enumerate_from 1 (lines_of bytes)) [] others rules s r

-- a text of rules has no line that is refused
pub refused_or_text : (named : List ℕ → ℕ → Type 0) (one : (name : List ℕ) (u v : ℕ) → named name u → named name v → u ≡ v) (bytes : List ℕ) (error : RuleError) (rules : List Rule)
    → IsRulesFault named bytes error → IsTextOf named bytes rules → ⊥
refused_or_text named one bytes error rules f r = read_faultless named one bytes rules error r f

-- a text without lines is one of no rules
pub empty_is_text : (named : List ℕ → ℕ → Type 0) → IsTextOf named [] []
empty_is_text named = refl
