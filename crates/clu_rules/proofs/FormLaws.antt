-- Fields have one form, and a form says one thing.
use Rattle.std.proofs.Common.{◌≡◌, ⊎_elim, ℕ, List, [], ◌∷◌, if◌then◌else◌, ◌==◌, slice_index, refl, sym, ap, ◌∙◌, subst}
use Rattle.clu_text.specs.Lines.{fields_of}
use Rattle.clu_rules.specs.Lines.{LineForm, together, apart, attribute, share, differ, same, form_fields, Rule, tied, parted, valued, Says, HasUnknown}
use Rattle.clu_rules.specs.Reading.{AddsRule}

-- ---- forms
-- the form of fields, told by their number and a letter of the first: a left inverse of `form_fields`
abbrev unwords : List (List ℕ) → LineForm
unwords [] = same []
unwords (w ∷ []) = same []
unwords (w ∷ a ∷ []) = if slice_index w 1 == 104 then share a else (if slice_index w 1 == 105 then differ a else same a)
unwords (w ∷ a ∷ b ∷ []) = if slice_index w 0 == 116 then together a b else apart a b
unwords (w ∷ a ∷ b ∷ c ∷ []) = attribute a b c
unwords (w ∷ a ∷ b ∷ c ∷ d ∷ rest) = same []

round : (form : LineForm) → unwords (form_fields form) ≡ form
round (together a b) = refl
round (apart a b) = refl
round (attribute a key value) = refl
round (share key) = refl
round (differ key) = refl
round (same key) = refl

pub form_once : (fields : List (List ℕ)) (f g : LineForm) → fields ≡ form_fields f → fields ≡ form_fields g → f ≡ g
form_once fields f g e h = sym (round f) ∙ ap unwords (sym e ∙ h) ∙ round g

-- ---- what they say
module _ (named : List ℕ → ℕ → Type 0) (one : (name : List ℕ) (u v : ℕ) → named name u → named name v → u ≡ v) where
  pub says_once : (form : LineForm) (rule other : Rule) → Says named form rule → Says named form other → rule ≡ other
  says_once (together a b) rule other s t =
      s.4 ∙ ap (λ (k : ℕ). tied k s.1) (one a s.0 t.0 s.2 t.2) ∙ ap (tied t.0) (one b s.1 t.1 s.3 t.3) ∙ sym t.4
  says_once (apart a b) rule other s t =
      s.4 ∙ ap (λ (k : ℕ). parted k s.1) (one a s.0 t.0 s.2 t.2) ∙ ap (parted t.0) (one b s.1 t.1 s.3 t.3) ∙ sym t.4
  says_once (attribute a key value) rule other s t = s.2 ∙ ap (λ (k : ℕ). valued k key value) (one a s.0 t.0 s.1 t.1) ∙ sym t.2
  says_once (share key) rule other s t = s ∙ sym t
  says_once (differ key) rule other s t = s ∙ sym t
  says_once (same key) rule other s t = s ∙ sym t

  pub adds_once : (earlier : List Rule) (bytes : List ℕ) (rule other : Rule) → AddsRule named earlier bytes rule → AddsRule named earlier bytes other → rule ≡ other
  adds_once earlier bytes rule other a b =
      let e = form_once (fields_of bytes) b.form a.form b.words_are a.words_are in
      says_once a.form rule other a.says (subst (λ (f : LineForm). Says named f other) e b.says)

-- a line that says something has no unknown name
pub known : (named : List ℕ → ℕ → Type 0) (form : LineForm) (rule : Rule) → Says named form rule → HasUnknown named form → ⊥
known named (together a b) rule s h = ⊎_elim (λ n. n s.0 s.2) (λ n. n s.1 s.3) h
known named (apart a b) rule s h = ⊎_elim (λ n. n s.0 s.2) (λ n. n s.1 s.3) h
known named (attribute a key value) rule s h = h s.0 s.1
known named (share key) rule s h = h
known named (differ key) rule s h = h
known named (same key) rule s h = h
