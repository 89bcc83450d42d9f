-- Laws of the values of attribute lines by their keys.
use Rattle.std.proofs.Common.{◌≡◌, ⊎_elim, ℕ, Bool, true, false, cond, if◌then◌else◌, ◌&&◌, ◌||◌, nat_eq, Option, None, Some, unwrap_or, MatchOption, option_copied, List, [], ◌∷◌, ◌++◌, refl, sym, ap, ◌∙◌, subst}
use Rattle.std.specs.Borrow.{Bor}
use Rattle.std.specs.Str.{bytes_eq}
use Rattle.std.specs.Cmp.Lexicographic.{bytes_decides}
use Rattle.std.proofs.lemmas.Bool.{true≢false, and_parts, and_from, or_cases, or_left, or_right, eqb-true, eq-eqb}
use Rattle.std.proofs.lemmas.List.Elements.{Contains-append_left, Contains-push, Contains-push_cases}
use Rattle.std.proofs.lemmas.Map.Text.{hash_map_updates_str}
use Rattle.indexmap.specs.IndexMap.{IndexMap, get_by, UpdatesBy}
use Rattle.clu_rules.specs.Lines.{Rule, as_rule, valued}
use Rattle.clu_rules.specs.declared.rule.Rule.{Rule as Found}
use Rattle.clu_rules.specs.declared.rule.Rule.TheVariants.{Together, Apart, Attribute, Share, Differ, Same}
use Rattle.clu_rules.specs.Puts.{AreValues}
use Rattle.clu_rules.specs.Attributes.{values_under, is_noted, NotesVertex, PushesValue, AreAttributes, TakesRule}
use Rattle.clu_rules.specs.declared.attributes.Attributes.{Attributes}
use Rattle.clu_rules.proofs.PairLaws.{values_push, values_skip}
use Rattle.clu_rules.specs.declared.values.Value.{Value}

-- one value more under one key
pub value_pushed : {S : Type 0} (key : List ℕ) (old new : IndexMap (Bor (List ℕ)) (List Value) S) (value : Value) (now : List Value)
    → UpdatesBy (λ x y. bytes_eq x.now y.now) (λ k. bytes_eq key k.now) old new (Some now) → now ≡ values_under old key ++ value ∷ [] → PushesValue key value old new
value_pushed key old new value now h e = record { each = λ q. ap (λ (o : Option (List Value)). unwrap_or o []) (hash_map_updates_str key old new (Some now) h q) ∙ by q (bytes_eq key q) refl }
  where
    by : (q : List ℕ) (b : Bool) → bytes_eq key q ≡ b
        → unwrap_or (cond b (Some now) (get_by (λ k. bytes_eq q k.now) old)) [] ≡ (if b then values_under old q ++ value ∷ [] else values_under old q)
    by q true f = e ∙ ap (λ (k : List ℕ). values_under old k ++ value ∷ []) ((bytes_decides key q).0 f)
    by q false f = refl

pub or_cond : (a b : Bool) → cond a true b ≡ a || b
or_cond true b = refl
or_cond false b = refl

-- ---- rules
-- one attribute line more
pub attribute_added : (old new : Attributes) (v : ℕ) (key : List ℕ) (value : Bor (List ℕ))
    → NotesVertex key v old.given new.given → PushesValue key (record { vertex = v; value = value }) old.values new.values → TakesRule (valued v key value.now) old new
attribute_added old new v key value notes pushes = record {
  takes = λ rules m. record {
    noted = λ q u. (
      λ t. ⊎_elim
          (λ h. let e = and_parts (bytes_eq key q) (nat_eq v u) h in
          (valued v key value.now, Contains-push rules (valued v key value.now), (value.now, λ i. valued (eqb-true v u e.1 i) ((bytes_decides key q).0 e.0 i) value.now)))
          (λ h. let w = (m.noted q u).0 h in (w.0, Contains-append_left rules (valued v key value.now ∷ []) w.0 w.1, w.2))
          (or_cases (bytes_eq key q && nat_eq v u) (is_noted old.given q u) (sym (notes.each q u) ∙ t)),
      λ w. notes.each q u ∙ ⊎_elim
          (λ c. or_right (bytes_eq key q && nat_eq v u) (is_noted old.given q u) ((m.noted q u).1 (w.0, c, w.2)))
          (λ e. let f : valued v key value.now ≡ valued u q w.2.0 = e ∙ w.2.1 in
          let p : key ≡ q = cc in
          let r : v ≡ u = cc in
          or_left (bytes_eq key q && nat_eq v u) (is_noted old.given q u) (and_from (bytes_eq key q) (nat_eq v u) ((bytes_decides key q).1 p) (eq-eqb v u r)))
          (Contains-push_cases rules (valued v key value.now) w.0 w.1),
    );
    values = λ q. by rules m q (bytes_eq key q) refl;
  };
}
  where
    by : (rules : List Rule) → AreAttributes rules old → (q : List ℕ) (b : Bool) → bytes_eq key q ≡ b → AreValues (rules ++ valued v key value.now ∷ []) q (values_under new.values q)
    by rules m q true e = subst (AreValues (rules ++ valued v key value.now ∷ []) q)
        (sym (pushes.each q ∙ ap (λ (b : Bool). if b then values_under old.values q ++ record { vertex = v; value = value } ∷ [] else values_under old.values q) e))
        (values_push rules q (values_under old.values q) (valued v key value.now) (record { vertex = v; value = value }) (λ i. valued v ((bytes_decides key q).0 e i) value.now) (m.values q))
    by rules m q false e = subst (AreValues (rules ++ valued v key value.now ∷ []) q)
        (sym (pushes.each q ∙ ap (λ (b : Bool). if b then values_under old.values q ++ record { vertex = v; value = value } ∷ [] else values_under old.values q) e))
        (values_skip rules q (values_under old.values q) (valued v key value.now)
        (λ u x f. let p : key ≡ q = cc in true≢false (sym ((bytes_decides key q).1 p) ∙ e))
        (m.values q))

-- a rule that gives no value
pub attribute_kept : (rule : Rule) (table : Attributes) → ((v : ℕ) (key value : List ℕ) → rule ≡ valued v key value → ⊥) → TakesRule rule table table
attribute_kept rule table none = record {
  takes = λ rules m. record {
    noted = λ q u. (
      λ t. let w = (m.noted q u).0 t in (w.0, Contains-append_left rules (rule ∷ []) w.0 w.1, w.2),
      λ w. ⊎_elim
          (λ c. (m.noted q u).1 (w.0, c, w.2))
          (λ e. absurd (none u q w.2.0 (e ∙ w.2.1)))
          (Contains-push_cases rules rule w.0 w.1),
    );
    values = λ q. values_skip rules q (values_under table.values q) rule (λ v value. none v q value) (m.values q);
  };
}

-- a rule in the code that is no attribute gives none
pub no_value : (rule : Found) → ((v : ℕ) (key value : Bor (List ℕ)) → rule ≡ Attribute v key value → ⊥) → (v : ℕ) (key value : List ℕ) → as_rule rule ≡ valued v key value → ⊥
no_value (Together a b) none v key value e = cc
no_value (Apart a b) none v key value e = cc
no_value (Attribute w k x) none v key value e = none w k x refl
no_value (Share k) none v key value e = cc
no_value (Differ k) none v key value e = cc
no_value (Same k) none v key value e = cc

-- ---- what the table answers
pub values_found : (rules : List Rule) (key : List ℕ) (found : Option (Bor (List Value))) (there : Option (List Value)) → option_copied found ≡ there
    → AreValues rules key (unwrap_or there []) → MatchOption found (AreValues rules key []) (λ values. AreValues rules key values.now)
values_found rules key None there e m = subst (λ (o : Option (List Value)). AreValues rules key (unwrap_or o [])) (sym e) m
values_found rules key (Some values) there e m = subst (λ (o : Option (List Value)). AreValues rules key (unwrap_or o [])) (sym e) m
