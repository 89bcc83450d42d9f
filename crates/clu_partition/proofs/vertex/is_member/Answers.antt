use Rattle.std.proofs.Common.{rules, sym, IsTrue, subst, Contains}
use Rattle.std.proofs.lemmas.List.Sorted.{answers_always}
use Rattle.clu_partition.proofs.Membership.{is_found}
use Rattle.clu_partition.proofs.vertex.is_member.Goals as goal

pub returns : goal.returns
returns c =
    let f = is_found c.args.members.now c.v.inside.0 c.binary_search_by_key.result c.requires.rising (c.binary_search_by_key.ensures.position (λ m. m) (answers_always _ _ _ (λ f a r g called. search rules))) in
    ((λ t. subst (Contains c.args.members.now) c.v.view_is (f.0 (subst IsTrue c.is_ok.ensures.value t))), λ m. subst IsTrue (sym c.is_ok.ensures.value) (f.1 (subst (Contains c.args.members.now) (sym c.v.view_is) m)))
