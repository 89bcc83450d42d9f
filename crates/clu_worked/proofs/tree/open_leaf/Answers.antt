use Rattle.std.proofs.Common.{◌∙◌, ap, subst, sym, ◌<ℤ◌}
use Rattle.clu_node.specs.declared.bound.NodeBound.{NodeBound}
use Rattle.clu_worked.proofs.Roots.{not_closed}
use Rattle.clu_worked.proofs.tree.open_leaf.Goals as goal

pub bound_at-bound-requires : goal.bound_at-bound-requires
bound_at-bound-requires g c = let leaf = c.in-Some.ensures.some in record { node = leaf.0; leaf = leaf.1 }

pub returns-clause-open : goal.returns-clause-open
returns-clause-open g c =
    let leaf = c.in-Some.ensures.some in
    let same = c.bound_at-bound.ensures.only leaf.0 leaf.1 in record {
      node = leaf.0;
      leaf = leaf.1;
      unclosed = not_closed leaf.0.how (ap (λ (n : NodeBound). n.how) same ∙ c.in-Unclosed.is);
      above = subst (λ floor. floor <ℤ leaf.0.bound) (sym c.requires) leaf.2;
    }
