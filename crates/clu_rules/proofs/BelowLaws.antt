-- The vertices of rules are those of names.
use Rattle.std.proofs.Common.{⊎_elim, ℕ, ◌<◌, ◌≤◌, List, [], ◌∷◌, ◌++◌, All, arith, sym, subst}
use Rattle.std.proofs.lemmas.List.Elements.{All-push, All-nil, All-weaker}
use Rattle.clu_partition.specs.Ties.{AreBelow}
use Rattle.clu_rules.specs.Lines.{LineForm, together, apart, attribute, share, differ, same, Rule, Says}
use Rattle.clu_rules.specs.Puts.{IsBelow}
use Rattle.clu_rules.specs.Reading.{ReadsRules}
use Rattle.clu_rules.specs.Rules.{IsPairList}

module _ (n : ℕ) (named : List ℕ → ℕ → Type 0) (within : (name : List ℕ) (v : ℕ) → named name v → v < n) where
  says_below : (form : LineForm) (rule : Rule) → Says named form rule → IsBelow n rule
  says_below (together a b) rule s = subst (IsBelow n) (sym s.4) (within a s.0 s.2, within b s.1 s.3)
  says_below (apart a b) rule s = subst (IsBelow n) (sym s.4) (within a s.0 s.2, within b s.1 s.3)
  says_below (attribute a key value) rule s = subst (IsBelow n) (sym s.2) (within a s.0 s.1)
  says_below (share key) rule s = subst (IsBelow n) (sym s) tt
  says_below (differ key) rule s = subst (IsBelow n) (sym s) tt
  says_below (same key) rule s = subst (IsBelow n) (sym s) tt

  from : (lines : List (ℕ × List ℕ)) (earlier rules : List Rule) → ReadsRules named lines earlier rules → All (IsBelow n) earlier → All (IsBelow n) rules
  from [] earlier rules r a = subst (All (IsBelow n)) r a
  from (line ∷ lines) earlier rules r a = ⊎_elim
      (λ h. from lines earlier rules h.1 a)
      (λ h. from lines (earlier ++ h.0 ∷ []) rules h.2 (All-push (IsBelow n) earlier h.0 a (says_below h.1.form h.0 h.1.says)))
      r

  pub rules_below : (lines : List (ℕ × List ℕ)) (rules : List Rule) → ReadsRules named lines [] rules → All (IsBelow n) rules
  rules_below lines rules r = from lines [] rules r (All-nil (IsBelow n))

pub pairs_below : (n : ℕ) (list : List (ℕ × ℕ)) → IsPairList n list → AreBelow n list
pairs_below n list m = All-weaker (λ p. (p.0 ≤ p.1) × (p.1 < n)) (λ p. (p.0 < n) × (p.1 < n)) (λ p h. let a = h.0 in let b = h.1 in (omega (arith, a, b), b)) list m.ordered
