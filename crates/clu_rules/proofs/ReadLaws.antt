-- The lines read so far, and those that are left.
use Rattle.std.proofs.Common.{◌≡◌, inl, inr, ℕ, List, [], ◌∷◌, ◌++◌, false}
use Rattle.clu_text.specs.Lines.{fields_of}
use Rattle.clu_rules.specs.Lines.{is_kept_in_rules, Rule}
use Rattle.clu_rules.specs.Reading.{AddsRule, ReadsRules, FailsRules}
use Rattle.clu_rules.specs.declared.error.RuleError.{RuleError}

-- what the lines that are left give, and where they fail, is what all do
pub record SoFar (named : List ℕ → ℕ → Type 0) (all left : List (ℕ × List ℕ)) (rules : List Rule) : Type 0 where
  pub back : (whole : List Rule) → ReadsRules named left rules whole → ReadsRules named all [] whole
  pub fails : (error : RuleError) → FailsRules named left rules error → FailsRules named all [] error

pub start : (named : List ℕ → ℕ → Type 0) (all : List (ℕ × List ℕ)) → SoFar named all all []
start named all = record { back = λ w r. r; fails = λ e f. f }

module _ (named : List ℕ → ℕ → Type 0) (all left : List (ℕ × List ℕ)) (line : ℕ × List ℕ) (rules : List Rule) (old : SoFar named all (line ∷ left) rules) where
  pub skipped : is_kept_in_rules (fields_of line.1) ≡ false → SoFar named all left rules
  skipped s = record { back = λ w r. old.back w (inl (s, r)); fails = λ e f. old.fails e (inr (inl (s, f))) }

  pub added : (rule : Rule) → AddsRule named rules line.1 rule → SoFar named all left (rules ++ rule ∷ [])
  added rule a = record { back = λ w r. old.back w (inr (rule, a, r)); fails = λ e f. old.fails e (inr (inr (rule, a, f))) }
