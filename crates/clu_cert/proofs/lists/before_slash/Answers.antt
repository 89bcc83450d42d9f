use Rattle.std.proofs.Common.{◌≡◌, List, ℕ, ◌∷◌, ◌++◌, map, ap, sym, ◌∙◌, codes}
use Rattle.std.proofs.lemmas.Bool.{false≢true}
use Rattle.clu_cert.specs.Text.{from_one}
use Rattle.clu_cert.proofs.Places.{bad_field, only_slash, no_slash_left, ends_slash}
use Rattle.clu_cert.proofs.lists.before_slash.Goals as goal

pub returns-then-is_word-clause-only : goal.returns-then-is_word-clause-only
returns-then-is_word-clause-only c = λ ns t fits is.
    let word : c.in-Some.field.now ≡ codes "/" = c.is_word.ensures.0 c.if-is_word.true in
    let spelled = c.loop-field.invariant.spelled ∙ ap (λ (t : List (List ℕ)). map from_one c.loop-field.vertices ++ t) c.in-Some.ensures
    ∙ (λ i. map from_one c.loop-field.vertices ++ (word i ∷ c.next.new.self)) in
    only_slash c.args.rest.now c.next.new.self c.loop-field.vertices ns t c.loop-field.invariant.fits spelled fits is

pub returns-in_default-read_place-clause-bad : goal.returns-in_default-read_place-clause-bad
returns-in_default-read_place-clause-bad c = λ _ ns t fits is.
    let spelled = c.loop-field.invariant.spelled ∙ ap (λ (t : List (List ℕ)). map from_one c.loop-field.vertices ++ t) c.in-Some.ensures in
    bad_field c.args.rest.now c.next.new.self c.in-Some.field.now c.loop-field.vertices ns (codes "/" ∷ t) (ends_slash t)
    (λ e. let word : c.in-Some.field.now ≡ codes "/" = cc e in false≢true (sym c.if-is_word.false ∙ c.is_word.ensures.1 word))
    c.loop-field.invariant.fits spelled c.in_default-read_place.ensures fits is

pub returns-clause-bad : goal.returns-clause-bad
returns-clause-bad c = λ _ ns t fits is.
    let spelled = c.loop-field.invariant.spelled ∙ ap (λ (t : List (List ℕ)). map from_one c.loop-field.vertices ++ t) c.in_default.ensures in
    no_slash_left c.args.rest.now c.loop-field.vertices ns t c.loop-field.invariant.fits spelled fits is
