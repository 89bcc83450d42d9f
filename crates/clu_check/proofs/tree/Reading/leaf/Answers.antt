use Rattle.std.proofs.Common.{◌≡◌, ◌≤◌, ◌∙◌, sym, ap, subst, arith, Some, to_z, of_z}
use mir.Syntax.{w128}
use Rattle.std.proofs.lemmas.Int.{ints}
use Rattle.clu_state.specs.State.{State}
use Rattle.clu_cert.specs.Upper.{IsBadLeaf}
use Rattle.clu_cert.specs.declared.certificate.Item.TheVariants.{Leaf}
use Rattle.clu_check.specs.Tree.{base_of}
use Rattle.clu_check.proofs.TreePaths.{after_pairs}
use Rattle.clu_check.proofs.TreeReads.{refused, no_bound, takes_leaf}
use Rattle.clu_check.proofs.tree.Reading.leaf.Goals as goal

pub leaf_bound-requires : goal.leaf_bound-requires
leaf_bound-requires c =
    let e : c.args.self.now.state.pairs ≡ c.args.self.now.pairs.now = ap (λ (s : State). s.pairs) (c.requires.reading.here c.requires.some)
    ∙ after_pairs (base_of c.args.self.now) c.args.self.now.path.items in
    subst (λ t. t.n ≤ c.args.scratch.now.n) (sym e) c.requires.room

pub returns-in_default-clause-leaf : goal.returns-in_default-clause-leaf
returns-in_default-clause-leaf c = λ _. refused IsBadLeaf c.args.self.now (Leaf c.args.leaf.now) c.requires.some
    (no_bound c.args.self.now.state c.args.leaf.now c.in_default.field-0 c.leaf_bound.result c.in_default.is c.leaf_bound.ensures.den_fault
    c.leaf_bound.ensures.row_fault)

pub returns-clause-read : goal.returns-clause-read
returns-clause-read c =
    let bound : to_z w128 (of_z w128 c.in-Ok.bound) ≡ c.in-Ok.bound = omega (arith, ints) in
    let most : to_z w128 (of_z w128 c.greatest_with.result) ≡ c.greatest_with.result = omega (arith, ints) in
    takes_leaf c.args.self.now c.close.new.self c.args.leaf.now (to_z w128
    (of_z w128 c.in-Ok.bound)) c.greatest_with.result c.in_ok-close.ensures.opened
    (record { den = c.in-Ok.ensures.denominator; rows = c.in-Ok.ensures.rows })
    (bound ∙ c.in-Ok.ensures.ok) (c.in_ok-close.ensures.greatest ∙ ap Some most) c.greatest_with.ensures.reached c.greatest_with.ensures.new
    c.greatest_with.ensures.others
