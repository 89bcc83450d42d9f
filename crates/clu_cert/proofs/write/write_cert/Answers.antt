use Rattle.std.proofs.Common.{◌≡◌, [], ◌∷◌, ◌++◌, codes, ◌∙◌, to_z, of_z}
use Rattle.std.specs.Int.{w128}
use Rattle.clu_cert.specs.Text.{text_of, whole_line}
use Rattle.clu_cert.proofs.Joins.{cert_pushed, same_signed}
use Rattle.clu_cert.proofs.write.write_cert.Goals as goal

pub returns : goal.returns
returns c =
    let v : to_z w128 (of_z w128 c.args.c.now.value) ≡ c.args.c.now.value = same_signed c.args.c.now.value c.requires.value in
    let b : to_z w128 (of_z w128 c.args.c.now.bound) ≡ c.args.c.now.bound = same_signed c.args.c.now.bound c.requires.bound in
    cert_pushed c.args.c.now c.extend_from_slice.new.self.items c.push_objective.new.out.items c.push_count.new.out.items c.push_value.new.out.items
    c.push_value-2.new.out.items c.push_blocks.new.out.items
    c.push_count-2.new.out.items c.push_steps.new.out.items c.push_count-3.new.out.items c.push_proofs.new.out.items
    c.extend_from_slice-2.new.self.items
    (search (c.in_ok-extend_from_slice.ensures.items, c.new-out.ensures.items)) c.in_ok-push_objective.ensures (search (
      c.in_ok-push_count.ensures,
      c.len.ensures,
    )) (c.in_ok-push_value.ensures ∙ (λ i. c.push_count.new.out.items ++ text_of (whole_line (codes "value") (v i) ∷ [])))
    (c.in_ok-push_value-2.ensures ∙ (λ i. c.push_value.new.out.items ++ text_of (whole_line (codes "bound") (b i) ∷ [])))
    (search (c.in_ok-push_blocks.ensures, c.as_slice.ensures)) (search (
      c.in_ok-push_count-2.ensures,
      c.len-2.ensures,
    )) (search (c.in_ok-push_steps.ensures, c.as_slice-2.ensures)) (search (c.in_ok-push_count-3.ensures, c.len-3.ensures))
    (search (c.in_ok-push_proofs.ensures, c.as_slice-3.ensures)) c.in_ok-extend_from_slice-2.ensures.items
