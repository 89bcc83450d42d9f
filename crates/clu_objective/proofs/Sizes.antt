-- The sizes of printed numbers.
use Rattle.std.proofs.Common.{◌≡◌, ◌⊎◌, ⊎_elim, ℤ, pos, ◌+ℤ◌, ◌*ℤ◌, ◌≤◌, ◌^◌, sym, ap, ◌∙◌, subst, arith, unsigned_abs, to_z, of_z}
use Rattle.std.specs.Int.{w128}
use Rattle.std.proofs.lemmas.Int.{ints}
use Rattle.clu_objective.specs.Problem.{HasFactor}
use Rattle.clu_objective.specs.declared.objective.Objective.{Objective}
use Rattle.clu_objective.specs.declared.objective.Objective.TheVariants.{Edits, Agreement, Modularity}

one_or_two : (f v : ℤ) → (f ≡ pos 1) ⊎ (f ≡ pos 2) → unsigned_abs v ≤ 2 ^ 88 → unsigned_abs (f *ℤ v) ≤ 2 ^ 89
one_or_two f v or l = ⊎_elim
    (λ e. subst (λ (k : ℤ). unsigned_abs (k *ℤ v) ≤ 2 ^ 89) (sym e) (omega (arith, ints, l)))
    (λ e. subst (λ (k : ℤ). unsigned_abs (k *ℤ v) ≤ 2 ^ 89) (sym e) (omega (arith, ints, l)))
    or

-- the factor is small, so the product is
pub factor_small : (o : Objective) (f v : ℤ) → HasFactor o f → unsigned_abs v ≤ 2 ^ 88 → unsigned_abs (f *ℤ v) ≤ 2 ^ 89
factor_small Edits f v e l = subst (λ (k : ℤ). unsigned_abs (k *ℤ v) ≤ 2 ^ 89) (sym e) (omega (arith, ints, l))
factor_small Agreement f v or l = one_or_two f v or l
factor_small Modularity f v or l = one_or_two f v or l

pub factor_least : (o : Objective) (f : ℤ) → HasFactor o f → unsigned_abs f ≤ 2
factor_least Edits f e = subst (λ (k : ℤ). unsigned_abs k ≤ 2) (sym e) (omega (arith, ints))
factor_least Agreement f or = ⊎_elim (λ e. subst (λ (k : ℤ). unsigned_abs k ≤ 2) (sym e) (omega (arith, ints))) (λ e. subst (λ (k : ℤ). unsigned_abs k ≤ 2) (sym e) (omega (arith, ints))) or
factor_least Modularity f or = ⊎_elim (λ e. subst (λ (k : ℤ). unsigned_abs k ≤ 2) (sym e) (omega (arith, ints))) (λ e. subst (λ (k : ℤ). unsigned_abs k ≤ 2) (sym e) (omega (arith, ints))) or

-- the sum and the product fit 128 bits
pub printed_bits : (b f v b' f' v' : ℤ) → b' ≡ b → f' ≡ f → v' ≡ v → unsigned_abs (f *ℤ v) ≤ 2 ^ 89 → unsigned_abs b ≤ 2 ^ 89
    → to_z w128 (of_z w128 (b' +ℤ to_z w128 (of_z w128 (f' *ℤ v')))) ≡ b +ℤ f *ℤ v
printed_bits b f v b' f' v' eb ef ev small base =
    let p : f' *ℤ v' ≡ f *ℤ v = ap (λ (k : ℤ). k *ℤ v') ef ∙ ap (λ (k : ℤ). f *ℤ k) ev in
    ap (λ (k : ℤ). to_z w128 (of_z w128 (b' +ℤ to_z w128 (of_z w128 k)))) p ∙ omega (arith, ints, eb, small, base)
