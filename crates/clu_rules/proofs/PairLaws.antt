-- Laws of the pairs that rules give.
use Rattle.std.proofs.Common.{◌≡◌, inl, ⊎_elim, ℕ, ◌<◌, ◌≤◌, List, [], ◌∷◌, ◌++◌, length, map, get_or, Contains, All, Bool, true, false, sym, ◌∙◌, subst, arith}
use Rattle.std.proofs.lemmas.Bool.{true≢false}
use Rattle.std.proofs.lemmas.List.Elements.{All-contains, Contains-append_left, Contains-push, Contains-push_cases}
use Rattle.clu_partition.specs.PairSets.{Chosen, has, IsListed}
use Rattle.clu_partition.proofs.GridLaws.{value_sym}
use Rattle.clu_partition.proofs.StartLaws.{all_from, map_from, map_to}
use Rattle.clu_rules.specs.Lines.{Rule, as_rule, tied, parted, valued, shared, differing, alike}
use Rattle.clu_rules.specs.declared.rule.Rule.{Rule as Found}
use Rattle.clu_rules.specs.Puts.{Puts, Any, ClashIn, AreValues, OfKey, IsBelow}
use Rattle.clu_rules.specs.Rules.{HasAttribute, IsListOf, RuleRequires, RuleForbids}
use Rattle.clu_rules.specs.declared.values.Value.{Value}
use Rattle.clu_rules.proofs.PutLaws.{puts_as}

-- ---- values under a key
pub values_push : (rules : List Rule) (key : List ℕ) (values : List Value) (rule : Rule) (a : Value) → rule ≡ valued a.vertex key a.value.now
    → AreValues rules key values → AreValues (rules ++ rule ∷ []) key (values ++ a ∷ [])
values_push rules key values rule a e m = record {
  only = λ b c. ⊎_elim
      (λ i. Contains-append_left rules (rule ∷ []) _ (m.only b i))
      (λ i. subst (λ (x : Value). Contains (rules ++ rule ∷ []) (valued x.vertex key x.value.now)) i (subst (Contains (rules ++ rule ∷ [])) e (Contains-push rules rule)))
      (Contains-push_cases values a b c);
  each = λ v value c. ⊎_elim
      (λ i. let w = m.each v value i in (w.0, Contains-append_left values (a ∷ []) w.0 w.1, w.2, w.3))
      (λ i. let f : valued a.vertex key a.value.now ≡ valued v key value = sym e ∙ i in
      let p : a.vertex ≡ v = cc in
      let q : a.value.now ≡ value = cc in
      (a, Contains-push values a, p, q))
      (Contains-push_cases rules rule (valued v key value) c);
}

pub values_skip : (rules : List Rule) (key : List ℕ) (values : List Value) (rule : Rule) → ((v : ℕ) (value : List ℕ) → rule ≡ valued v key value → ⊥)
    → AreValues rules key values → AreValues (rules ++ rule ∷ []) key values
values_skip rules key values rule d m = record {
  only = λ b c. Contains-append_left rules (rule ∷ []) _ (m.only b c);
  each = λ v value c. ⊎_elim (λ i. m.each v value i) (λ i. absurd (d v value i)) (Contains-push_cases rules rule (valued v key value) c);
}

-- the pairs of a list of values are those of the key
pub of_key : (equal : Bool) (rules : List Rule) (key : List ℕ) (values : List Value) (old new : Chosen) → AreValues rules key values
    → Puts (λ u v. Any (ClashIn equal values) values u v) old new → Puts (OfKey equal rules key) old new
of_key true rules key values old new m p = puts_as (λ u v. Any (ClashIn true values) values u v) (OfKey true rules key) old new
    (λ u v w. let a = w.0 in let t = w.2 in let b = t.0 in let h = t.2 in (
      (λ e. h.2.0 (sym h.0 ∙ e ∙ h.1)),
      (
        a.value.now,
        subst (λ (x : ℕ). HasAttribute rules key x a.value.now) (sym h.0) (m.only a w.1),
        subst (λ (x : ℕ). HasAttribute rules key x a.value.now) (sym h.1) (subst (λ (y : List ℕ). HasAttribute rules key b.vertex y) (sym h.2.1) (m.only b t.1)),
      ),
    ))
    (λ u v w. let a = m.each u w.1.0 w.1.1 in let b = m.each v w.1.0 w.1.2 in
    (a.0, a.1, (b.0, b.1, (sym a.2, sym b.2, ((λ e. w.0 (sym a.2 ∙ e ∙ b.2)), a.3 ∙ sym b.3)))))
    p
of_key false rules key values old new m p = puts_as (λ u v. Any (ClashIn false values) values u v) (OfKey false rules key) old new
    (λ u v w. let a = w.0 in let t = w.2 in let b = t.0 in let h = t.2 in (
      a.value.now,
      b.value.now,
      subst (λ (x : ℕ). HasAttribute rules key x a.value.now) (sym h.0) (m.only a w.1),
      subst (λ (x : ℕ). HasAttribute rules key x b.value.now) (sym h.1) (m.only b t.1),
      h.2,
    ))
    (λ u v w. let a = m.each u w.0 w.2 in let b = m.each v w.1 w.3 in
    (a.0, a.1, (b.0, b.1, (sym a.2, sym b.2, (λ e. w.4 (sym a.3 ∙ e ∙ b.3))))))
    p

pub values_below : (n : ℕ) (rules : List Rule) (key : List ℕ) (values : List Value) → All (IsBelow n) rules → AreValues rules key values → All (λ a. a.vertex < n) values
values_below n rules key values all m = all_from (λ a. a.vertex < n) values (λ a c. All-contains (IsBelow n) rules (valued a.vertex key a.value.now) all (m.only a c))

-- ---- the list of all pairs
pub list_of : (n : ℕ) (rules : List Rule) (S : Rule → ℕ → ℕ → Type 0) (empty set : Chosen) (list : List (ℕ × ℕ))
    → empty.n ≡ n → ((u v : ℕ) → has empty u v ≡ false) → ((rule : Rule) (u v : ℕ) → Contains rules rule → S rule u v → (u < n) × (v < n))
    → Puts (Any S rules) empty set → IsListed set list set.n set.n → IsListOf n (Any S rules) list
list_of n rules S empty set list size none within p m = record {
  listed = record { rising = m.rising; ordered = subst (λ (k : ℕ). All (λ q. (q.0 ≤ q.1) × (q.1 < k)) list) (p.size ∙ size) m.ordered };
  only = λ u v c.
      let o = All-contains (λ q. (q.0 ≤ q.1) × (q.1 < set.n)) list (u, v) m.ordered c in
      let a = o.0 in
      let b = o.1 in
      let s = p.size in
      let h = All-contains (λ q. has set q.0 q.1 ≡ true) list (u, v) m.only c in
      ⊎_elim (λ f. absurd (true≢false (sym f ∙ none u v))) (λ w. w) (p.only u v (omega (arith, a, b, s)) (omega (arith, b, s)) h);
  each = λ u v o w.
      let s = p.size in
      ⊎_elim
      (λ x. let b = within x.0 u v x.1 x.2 in let i = b.1 in let j = b.0 in
      m.each u v o (omega (arith, s, size, i)) (p.each u v x) (inl (omega (arith, s, size, j))))
      (λ x. let b = within x.0 v u x.1 x.2 in let i = b.0 in let j = b.1 in
      m.each u v o (omega (arith, s, size, i)) (turned u v (p.each v u x)) (inl (omega (arith, s, size, j))))
      w;
}
  where
    turned : (u v : ℕ) → has set v u ≡ true → has set u v ≡ true
    turned u v h = value_sym set false u v ∙ h

given_below : (n : ℕ) (rules : List Rule) (key : List ℕ) (v : ℕ) (value : List ℕ) → All (IsBelow n) rules → HasAttribute rules key v value → v < n
given_below n rules key v value all c = All-contains (IsBelow n) rules (valued v key value) all c

pub ties_below : (n : ℕ) (rules : List Rule) → All (IsBelow n) rules → (rule : Rule) (u v : ℕ) → Contains rules rule → RuleRequires rules rule u v → (u < n) × (v < n)
ties_below n rules all (tied a b) u v c t =
    let i = All-contains (IsBelow n) rules (tied a b) all c in
    (subst (λ (x : ℕ). x < n) (sym t.0) i.0, subst (λ (x : ℕ). x < n) (sym t.1) i.1)
ties_below n rules all (shared key) u v c t = (given_below n rules key u t.1.0 all t.1.1, given_below n rules key v t.1.0 all t.1.2)
ties_below n rules all (parted a b) u v c t = absurd t
ties_below n rules all (valued w key value) u v c t = absurd t
ties_below n rules all (differing key) u v c t = absurd t
ties_below n rules all (alike key) u v c t = absurd t

pub parts_below : (n : ℕ) (rules : List Rule) → All (IsBelow n) rules → (rule : Rule) (u v : ℕ) → Contains rules rule → RuleForbids rules rule u v → (u < n) × (v < n)
parts_below n rules all (parted a b) u v c t =
    let i = All-contains (IsBelow n) rules (parted a b) all c in
    (subst (λ (x : ℕ). x < n) (sym t.0) i.0, subst (λ (x : ℕ). x < n) (sym t.1) i.1)
parts_below n rules all (differing key) u v c t = (given_below n rules key u t.1.0 all t.1.1, given_below n rules key v t.1.0 all t.1.2)
parts_below n rules all (alike key) u v c t = (given_below n rules key u t.0 all t.2, given_below n rules key v t.1 all t.3)
parts_below n rules all (tied a b) u v c t = absurd t
parts_below n rules all (valued w key value) u v c t = absurd t
parts_below n rules all (shared key) u v c t = absurd t

pub one_below : (n m : ℕ) (rules : List Rule) (list : List Found) (i : ℕ) (rule : Found) → All (IsBelow n) rules → map as_rule list ≡ rules → i < length list → rule ≡ get_or list i rule → m ≡ n
    → IsBelow m (as_rule rule)
one_below n m rules list i rule all same l there e = subst (λ (k : ℕ). IsBelow k (as_rule rule)) (sym e)
    (All-contains (IsBelow n) rules (as_rule rule) all (subst (λ (rs : List Rule). Contains rs (as_rule rule)) same (map_to as_rule list rule (i, l, sym there))))

-- what the rules of a list put is what the rules that it stands for put
pub puts_read : (S : Rule → ℕ → ℕ → Type 0) (rules : List Rule) (list : List Found) (old new : Chosen) → map as_rule list ≡ rules
    → Puts (Any (λ rule. S (as_rule rule)) list) old new → Puts (Any S rules) old new
puts_read S rules list old new same p = puts_as (Any (λ rule. S (as_rule rule)) list) (Any S rules) old new
    (λ u v w. (as_rule w.0, subst (λ (rs : List Rule). Contains rs (as_rule w.0)) same (map_to as_rule list w.0 w.1), w.2))
    (λ u v w. let x = map_from as_rule list w.0 (subst (λ (rs : List Rule). Contains rs w.0) (sym same) w.1) in
    (x.0, x.1, subst (λ (r : Rule). S r u v) (sym x.2) w.2))
    p
