use Rattle.std.proofs.Common.{◌≡◌, inr, subst, arith, ℤ, ◌≤ℤ◌, to_z, of_z}
use Rattle.std.specs.Int.{w128}
use Rattle.std.proofs.lemmas.Int.{ints}
use Rattle.clu_search.proofs.search.Search.run.Goals as goal

pub returns-in_default-clause-stopped : goal.returns-in_default-clause-stopped
returns-in_default-clause-stopped c =
    let value : to_z w128 (of_z w128 c.loop.self.incumbent.value) ≡ c.loop.self.incumbent.value = omega (arith, ints) in
    inr (λ key node leaf. subst (λ (z : ℤ). node.bound ≤ℤ z) value (c.in_default.ensures.none key node leaf))
