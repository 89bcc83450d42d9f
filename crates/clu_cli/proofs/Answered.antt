-- What a partition is worth is its printed number, and so the printed bound is one of what partitions are worth.
use Rattle.std.proofs.Common.{◌≡◌, ◌↔◌, ℕ, ℤ, ◌≤◌, List, Bool, true, false, IsTrue, slice_index, refl, subst, arith, if◌then◌else◌}
use Rattle.clu_partition.specs.Closed.{Closed, IsPermitted}
use Rattle.clu_partition.specs.Pairs.{weight_of}
use Rattle.clu_partition.specs.Partition.{below, IsPartition}
use Rattle.clu_partition.specs.Values.{value_on}
use Rattle.clu_objective.specs.Problem.{Posed, printed, IsBetterOrEqual}
use Rattle.clu_objective.specs.declared.objective.Objective.{Objective}
use Rattle.clu_search.specs.declared.outcome.End.{End}
use Rattle.clu_cli.specs.Instances.{IsReached, Poses, PrintsWorth, objective_of, vertices_of, worth}
use Rattle.clu_cli.specs.declared.instance.Instance.{Instance}
use Rattle.clu_cli.proofs.InstanceLaws.{objective_posed, worth_printed}
use Rattle.clu_search.specs.declared.outcome.End.TheVariants.{Optimal, Branchings}

module _ (instance : Instance) (problem : Posed) (poses : Poses instance problem) (prints : PrintsWorth instance problem) where
  pub value_worth : (labels : List ℕ) → IsPartition (vertices_of instance) labels
      → printed problem (value_on (weight_of problem.pairs) (slice_index labels) (below problem.pairs.n)) ≡ worth instance labels
  value_worth labels partition = worth_printed instance problem poses prints labels partition.one_each

  pub none_better : (bound : ℤ) (start : Closed)
      → ((label : ℕ → ℕ) → IsPermitted start label → IsBetterOrEqual problem.objective bound (printed problem (value_on (weight_of problem.pairs) label (below problem.pairs.n))))
      → (others : List ℕ) → IsPartition (vertices_of instance) others → IsPermitted start (slice_index others) → IsReached instance bound others
  none_better bound start h others partition permitted = subst (λ (z : ℤ). IsBetterOrEqual (objective_of instance) bound z) (value_worth others partition)
      (subst (λ (o : Objective). IsBetterOrEqual o bound (printed problem (value_on (weight_of problem.pairs) (slice_index others) (below problem.pairs.n)))) (objective_posed instance problem poses)
      (h (slice_index others) permitted))

-- the status is 0 or 1
pub at_most_one : (b : Bool) → (if b then 0 else 1) ≤ 1
at_most_one true = omega arith
at_most_one false = omega arith

-- the status is 0 exactly where the test holds
pub zero_where : (b : Bool) (P : Type 0) → IsTrue b ↔ P → (◌≡◌ {A = ℕ} (if b then 0 else 1) 0) ↔ P
zero_where true P h = ((λ _. h.0 refl), (λ _. refl))
zero_where false P h = ((λ e. absurd (omega (arith, e))), (λ p. absurd (none (h.1 p))))
  where
    none : IsTrue false → ⊥
    none e = cc

-- status 1 comes only where the test doesn't hold
pub one_where : (b : Bool) (P : Type 0) → IsTrue b ↔ P → (◌≡◌ {A = ℕ} (if b then 0 else 1) 1) → P → ⊥
one_where true P h e p = absurd (omega (arith, e))
one_where false P h e p = let q : IsTrue false = h.1 p in cc

-- a search that doesn't end optimal has made all branchings
pub all_made : (end : End) (P : Type 0) (made limit : ℕ) → (end ≡ Optimal) ↔ P → (end ≡ Branchings) ↔ ((P → ⊥) × (made ≡ limit)) → (P → ⊥) → made ≡ limit
all_made Optimal P made limit o b gap = absurd (gap (o.0 refl))
all_made Branchings P made limit o b gap = (b.0 refl).1
