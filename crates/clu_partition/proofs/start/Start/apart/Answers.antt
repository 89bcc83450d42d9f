use Rattle.std.proofs.Common.{rules, ◌≡◌, ◌∙◌, ℕ, List, ap, subst, length, min, max}
use Rattle.std.specs.List.Sorted.{IsBinarySearchResult, IsSearchInRange}
use Rattle.std.proofs.lemmas.Fn.{answers_by}
use Rattle.clu_partition.specs.Closed.{Closed, IsClosed}
use Rattle.clu_partition.proofs.SearchLaws.{pair_order, search_joins}
use Rattle.clu_partition.proofs.start.Start.apart.Goals as goal

pub returns : goal.returns
returns c =
    let searched : c.deref.result.now ≡ c.args.self.now.forbidden = c.deref.ensures.value ∙ ap (λ (s : Closed). s.forbidden) c.self.view_is in
    let pair : ℕ × ℕ = (min c.a.inside.0 c.b.inside.0, max c.a.inside.0 c.b.inside.0) in
    c.is_ok.ensures.value
    ∙ search_joins c.args.self.now (subst IsClosed c.self.view_is c.self.invariant.0) c.args.u c.args.v c.a.inside.0 c.b.inside.0 (c.a.view_is ∙ c.group-a.ensures) (c.b.view_is ∙ c.group-b.ensures) c.binary_search_by-found.result
    (subst (λ (ps : List (ℕ × ℕ)). IsSearchInRange c.binary_search_by-found.result (length ps)) searched c.binary_search_by-found.ensures.bound)
    (subst (λ (ps : List (ℕ × ℕ)). IsBinarySearchResult (λ y. pair_order y pair) ps c.binary_search_by-found.result) searched
    (c.binary_search_by-found.ensures.position (λ y. pair_order y pair) (answers_by _ _ (λ f. f.0.now ≡ pair) (λ f a r f' k i. search rules) _ (search rules))))
