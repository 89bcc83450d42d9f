use Rattle.std.proofs.Common.{List, ℕ, [], ◌++◌, map, ap, sym, ◌∙◌}
use Rattle.std.proofs.lemmas.List.{append-nil}
use Rattle.clu_cert.specs.Text.{from_one}
use Rattle.clu_cert.proofs.Places.{bad_field, only_all, ends_nil}
use Rattle.clu_cert.proofs.lists.vertices_left.Goals as goal

pub returns-in_default-read_place : goal.returns-in_default-read_place
returns-in_default-read_place c = λ ns fits is.
    let spelled = c.loop-field.invariant.spelled ∙ ap (λ (t : List (List ℕ)). map from_one c.loop-field.vertices ++ t) c.in-Some.ensures in
    bad_field c.args.rest.now c.next.new.self c.in-Some.field.now c.loop-field.vertices ns [] ends_nil (λ e. cc e) c.loop-field.invariant.fits
    spelled c.in_default-read_place.ensures fits (is ∙ sym (append-nil (map from_one ns)))

pub returns : goal.returns
returns c =
    let spelled = c.loop-field.invariant.spelled ∙ ap (λ (t : List (List ℕ)). map from_one c.loop-field.vertices ++ t) c.in_default.ensures in (
      c.loop-field.invariant.fits,
      spelled ∙ append-nil (map from_one c.loop-field.vertices),
      λ ns fits is. only_all c.args.rest.now c.loop-field.vertices ns c.loop-field.invariant.fits spelled fits is,
    )
