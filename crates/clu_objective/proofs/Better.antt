-- A greater value is printed as a better number.
use Rattle.std.proofs.Common.{◌≡◌, ◌⊎◌, ⊎_elim, ℤ, pos, ◌+ℤ◌, ◌*ℤ◌, ◌≤ℤ◌, sym, subst, arith}
use Rattle.std.proofs.lemmas.Int.{ints}
use Rattle.clu_objective.specs.Problem.{Posed, printed, IsBetterOrEqual, HasFactor}
use Rattle.clu_objective.specs.declared.objective.Objective.{Objective}
use Rattle.clu_objective.specs.declared.objective.Objective.TheVariants.{Edits, Agreement, Modularity}

grows : (base f v w : ℤ) → (f ≡ pos 1) ⊎ (f ≡ pos 2) → v ≤ℤ w → (base +ℤ f *ℤ v) ≤ℤ (base +ℤ f *ℤ w)
grows base f v w or l = ⊎_elim
    (λ e. subst (λ (k : ℤ). (base +ℤ k *ℤ v) ≤ℤ (base +ℤ k *ℤ w)) (sym e) (omega (arith, ints, l)))
    (λ e. subst (λ (k : ℤ). (base +ℤ k *ℤ v) ≤ℤ (base +ℤ k *ℤ w)) (sym e) (omega (arith, ints, l)))
    or

better : (o : Objective) (base f v w : ℤ) → HasFactor o f → v ≤ℤ w → IsBetterOrEqual o (base +ℤ f *ℤ w) (base +ℤ f *ℤ v)
better Edits base f v w e l = subst (λ (k : ℤ). (base +ℤ k *ℤ w) ≤ℤ (base +ℤ k *ℤ v)) (sym e) (omega (arith, ints, l))
better Agreement base f v w or l = grows base f v w or l
better Modularity base f v w or l = grows base f v w or l

pub printed_better : (problem : Posed) (v w : ℤ) → HasFactor problem.objective problem.factor → v ≤ℤ w →
    IsBetterOrEqual problem.objective (printed problem w) (printed problem v)
printed_better problem v w h l = better problem.objective problem.base problem.factor v w h l

pub better_trans : (o : Objective) (a b c : ℤ) → IsBetterOrEqual o a b → IsBetterOrEqual o b c → IsBetterOrEqual o a c
better_trans Edits a b c p q = omega (arith, ints, p, q)
better_trans Agreement a b c p q = omega (arith, ints, p, q)
better_trans Modularity a b c p q = omega (arith, ints, p, q)
