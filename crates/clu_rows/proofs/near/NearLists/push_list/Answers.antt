use mir.Syntax.{w128}
use Rattle.std.proofs.Common.{◌≡◌, ◌∙◌, ◌++◌, ◌∷◌, [], ap, subst, arith, to_z, of_z}
use Rattle.std.proofs.lemmas.Int.{ints}
use Rattle.clu_rows.proofs.NearLaws.{Appended, one_place, one_list}
use Rattle.clu_rows.proofs.near.NearLists.push_list.Goals as goal

pub loop-z-preserved : goal.loop-z-preserved
loop-z-preserved c =
    let i = c.loop-z.invariant in
    let e = c.in_ok-push_above.ensures in
    let w : to_z w128 (of_z w128 c.get.result) ≡ c.get.result = omega (arith, ints) in
    record {
      more = one_place c.args.left.now c.loop-z.z c.args.i c.args.self.now.places.items c.loop-z.self.places.items c.push_above.new.places.items c.get.result (omega arith) c.get.ensures
          (λ h. e.above (omega (arith, ints, h, w))) (λ h. e.other (omega (arith, ints, h, w))) i.more;
      bounds = i.bounds;
    }

pub returns : goal.returns
returns c =
    let i = c.loop-z.invariant in
    let all : c.loop-z.z ≡ c.args.count = omega arith in
    one_list c.args.left.now c.args.count c.args.i c.args.self.now (record { places = c.loop-z.self.places; bounds = c.push.new.self }) c.requires.near
    (subst (λ n. Appended c.args.left.now n c.args.i c.args.self.now.places.items c.loop-z.self.places.items) all i.more)
    (c.in_ok-push.ensures.items ∙ ap (λ xs. xs ++ c.len.result ∷ []) i.bounds ∙ ap (λ n. c.args.self.now.bounds.items ++ n ∷ []) (c.len.ensures ∙ c.loop-z.self.places.ok.0))
