-- A text is read or refused, and refused for one reason.
use Rattle.std.proofs.Common.{◌≡◌, ◌≢◌, ◌⊎◌, inl, inr, ⊎_elim, ℕ, List, [], ◌∷◌, ◌++◌, sym, ap, ◌∙◌, subst}
use Rattle.std.proofs.lemmas.Bool.{true≢false}
use Rattle.std.specs.List.{enumerate_from}
use Rattle.clu_text.specs.Lines.{lines_of, fields_of}
use Rattle.clu_rules.specs.Lines.{LineForm, form_fields, Rule, Says, HasUnknown}
use Rattle.clu_rules.specs.Reading.{AddsRule, GivesTwice, StopsAtRule, ReadsRules, FailsRules, IsRulesFault, AreRules}
use Rattle.clu_rules.specs.declared.error.RuleError.{RuleError}
use Rattle.clu_rules.specs.declared.error.RuleError.TheVariants.{BadRule, UnknownVertex, AttributeTwice, Memory}
use Rattle.clu_rules.proofs.FormLaws.{form_once, says_once, adds_once, known}

module _ (named : List ℕ → ℕ → Type 0) (one : (name : List ℕ) (u v : ℕ) → named name u → named name v → u ≡ v) where
  -- ---- one line
  not_unknown : (bytes : List ℕ) (form other : LineForm) (rule : Rule) → fields_of bytes ≡ form_fields form → fields_of bytes ≡ form_fields other
      → Says named form rule → HasUnknown named other → ⊥
  not_unknown bytes form other rule e h s u = known named form rule s (subst (HasUnknown named) (form_once (fields_of bytes) other form h e) u)

  not_stopped : (earlier : List Rule) (number : ℕ) (bytes : List ℕ) (rule : Rule) (error : RuleError) → AddsRule named earlier bytes rule → StopsAtRule named earlier number bytes error → ⊥
  not_stopped earlier number bytes rule (BadRule line) a s = s.1 a.form a.words_are
  not_stopped earlier number bytes rule (UnknownVertex line) a s = not_unknown bytes a.form s.1 rule a.words_are s.2 a.says s.3
  not_stopped earlier number bytes rule (AttributeTwice line) a s =
      let e = form_once (fields_of bytes) s.1 a.form s.2 a.words_are in
      let f = says_once named one a.form s.3 rule (subst (λ (k : LineForm). Says named k s.3) e s.4) a.says in
      a.once (subst (GivesTwice earlier) f s.5)
  not_stopped earlier number bytes rule Memory a s = s

  stops_once : (earlier : List Rule) (number : ℕ) (bytes : List ℕ) (error other : RuleError) → StopsAtRule named earlier number bytes error → StopsAtRule named earlier number bytes other → error ≡ other
  stops_once earlier number bytes Memory other s t = absurd s
  stops_once earlier number bytes (BadRule k) Memory s t = absurd t
  stops_once earlier number bytes (BadRule k) (BadRule l) s t = ap BadRule (s.0 ∙ sym t.0)
  stops_once earlier number bytes (BadRule k) (UnknownVertex l) s t = absurd (s.1 t.1 t.2)
  stops_once earlier number bytes (BadRule k) (AttributeTwice l) s t = absurd (s.1 t.1 t.2)
  stops_once earlier number bytes (UnknownVertex k) Memory s t = absurd t
  stops_once earlier number bytes (UnknownVertex k) (BadRule l) s t = absurd (t.1 s.1 s.2)
  stops_once earlier number bytes (UnknownVertex k) (UnknownVertex l) s t = ap UnknownVertex (s.0 ∙ sym t.0)
  stops_once earlier number bytes (UnknownVertex k) (AttributeTwice l) s t = absurd (not_unknown bytes t.1 s.1 t.3 t.2 s.2 t.4 s.3)
  stops_once earlier number bytes (AttributeTwice k) Memory s t = absurd t
  stops_once earlier number bytes (AttributeTwice k) (BadRule l) s t = absurd (t.1 s.1 s.2)
  stops_once earlier number bytes (AttributeTwice k) (UnknownVertex l) s t = absurd (not_unknown bytes s.1 t.1 s.3 s.2 t.2 s.4 t.3)
  stops_once earlier number bytes (AttributeTwice k) (AttributeTwice l) s t = ap AttributeTwice (s.0 ∙ sym t.0)

  -- ---- all lines
  not_refused : (lines : List (ℕ × List ℕ)) (earlier rules : List Rule) (error : RuleError) → ReadsRules named lines earlier rules → FailsRules named lines earlier error → ⊥
  not_refused [] earlier rules error r f = f
  not_refused (line ∷ lines) earlier rules error r f = ⊎_elim
      (λ p. ⊎_elim
      (λ q. true≢false (sym q.0 ∙ p.0))
      (λ q. ⊎_elim (λ k. not_refused lines earlier rules error p.1 k.1) (λ k. true≢false (sym k.1.kept ∙ p.0)) q) f)
      (λ p. ⊎_elim
      (λ q. not_stopped earlier line.0 line.1 p.0 error p.1 q.1)
      (λ q. ⊎_elim
      (λ k. true≢false (sym p.1.kept ∙ k.0))
      (λ k. not_refused lines (earlier ++ p.0 ∷ []) rules error p.2
      (subst (λ (x : Rule). FailsRules named lines (earlier ++ x ∷ []) error) (adds_once named one earlier line.1 k.0 p.0 k.1 p.1) k.2)) q) f)
      r

  fails_once : (lines : List (ℕ × List ℕ)) (earlier : List Rule) (error other : RuleError) → FailsRules named lines earlier error → FailsRules named lines earlier other → error ≡ other
  fails_once [] earlier error other f h = absurd f
  fails_once (line ∷ lines) earlier error other f h = ⊎_elim
      (λ p. ⊎_elim
      (λ q. stops_once earlier line.0 line.1 error other p.1 q.1)
      (λ q. ⊎_elim (λ k. absurd (true≢false (sym p.0 ∙ k.0))) (λ k. absurd (not_stopped earlier line.0 line.1 k.0 error k.1 p.1)) q) h)
      (λ p. ⊎_elim
      (λ r. ⊎_elim
      (λ q. absurd (true≢false (sym q.0 ∙ r.0)))
      (λ q. ⊎_elim (λ k. fails_once lines earlier error other r.1 k.1) (λ k. absurd (true≢false (sym k.1.kept ∙ r.0))) q) h)
      (λ r. ⊎_elim
      (λ q. absurd (not_stopped earlier line.0 line.1 r.0 other r.1 q.1))
      (λ q. ⊎_elim
      (λ k. absurd (true≢false (sym r.1.kept ∙ k.0)))
      (λ k. fails_once lines (earlier ++ r.0 ∷ []) error other r.2
      (subst (λ (x : Rule). FailsRules named lines (earlier ++ x ∷ []) other) (adds_once named one earlier line.1 k.0 r.0 k.1 r.1) k.2)) q) h) p)
      f

  pub read_faultless : (bytes : List ℕ) (rules : List Rule) (error : RuleError) → ReadsRules named (enumerate_from 1 (lines_of bytes)) [] rules → IsRulesFault named bytes error → ⊥
  read_faultless bytes rules error r f = not_refused (enumerate_from 1 (lines_of bytes)) [] rules error r f

  pub refused_once : (n : ℕ) (bytes : List ℕ) (error : RuleError) (required forbidden : List (ℕ × ℕ)) → error ≢ Memory → (error ≡ Memory) ⊎ IsRulesFault named bytes error
      → AreRules n named bytes required forbidden → ⊥
  refused_once n bytes error required forbidden d f m = ⊎_elim (λ e. d e) (λ h. read_faultless bytes m.rules error m.reads h) f

  -- the answer is the first fault, or want of memory
  pub first_fault : (bytes : List ℕ) (error other : RuleError) → (error ≡ Memory) ⊎ IsRulesFault named bytes error → IsRulesFault named bytes other → (error ≡ other) ⊎ (error ≡ Memory)
  first_fault bytes error other f h = ⊎_elim (λ e. inr e) (λ k. inl (fails_once (enumerate_from 1 (lines_of bytes)) [] error other k h)) f
