use Rattle.std.proofs.Common.{rules, ◌≡◌, ◌↔◌, ◌≤ℤ◌, ℤ, None, arith, subst}
use Rattle.std.specs.Int.{w128}
use mir.Val.{SFits}
use Rattle.std.proofs.lemmas.Int.{ints, to_z-of_z}
use Rattle.clu_node.specs.declared.bound.NodeBound.{NodeBound}
use Rattle.clu_node.specs.declared.bound.How.TheVariants.{Closed}
use Rattle.clu_search.specs.Search.{IsRightlyClosed}
use Rattle.clu_search.proofs.search.fresh.Goals as goal

-- a node without a free pair is bounded by its groups, which were tried as the incumbent
settled : (best handed fixed : ℤ) (node : NodeBound) → handed ≡ best → ((node.how ≡ Closed) ↔ (node.bound ≤ℤ handed)) → (node.pair ≡ None → node.bound ≡ fixed) → fixed ≤ℤ best → IsRightlyClosed best node
settled best handed fixed node same closed alone tried = record {
  closed = λ e. subst (λ z. node.bound ≤ℤ z) same (closed.0 e);
  paired = λ e. let b = alone e in closed.1 (omega (arith, ints, b, tried, same));
}

pub returns-clause-settled : goal.returns-clause-settled
returns-clause-settled g c =
    let e = c.in_ok-bound.ensures in
    let f : SFits w128 c.try_groups.new.self.value = search rules in
    settled c.try_groups.new.self.value _ _ c.in_ok-bound.bound (to_z-of_z w128 c.try_groups.new.self.value f) e.closed e.settled c.in_ok-try_groups.ensures.tried
