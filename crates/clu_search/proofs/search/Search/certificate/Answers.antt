use Rattle.std.proofs.Common.{◌≡◌, sym, subst, arith, to_z, of_z}
use Rattle.std.specs.Int.{w128}
use Rattle.std.proofs.lemmas.Int.{ints}
use Rattle.clu_search.specs.Search.{IsCertOfBest}
use Rattle.clu_search.proofs.Certified.{value_small, upper_least}
use Rattle.clu_search.proofs.Searching.{IsReached, found_of, certified}
use Rattle.clu_search.proofs.search.Search.certificate.Goals as goal

pub certify-requires-clause-value : goal.certify-requires-clause-value
certify-requires-clause-value c =
    let s = c.args.self in
    value_small s.problem.now s.start.now s.incumbent c.in_ok-items.items c.upper-upper.result
    (found_of s c.in_ok-items.items c.upper-upper.result c.upper-upper.result c.requires c.in_ok-items.ensures.value (λ i. c.upper-upper.result) c.upper-upper.ensures.upper)

pub certify-requires-clause-upper : goal.certify-requires-clause-upper
certify-requires-clause-upper c =
    let s = c.args.self in
    let upper : to_z w128 (of_z w128 c.upper-upper.result) ≡ c.upper-upper.result = omega (arith, ints) in
    upper_least s.problem.now s.start.now s.incumbent c.in_ok-items.items (to_z w128 (of_z w128 c.upper-upper.result))
    (found_of s c.in_ok-items.items (to_z w128 (of_z w128 c.upper-upper.result)) c.upper-upper.result c.requires c.in_ok-items.ensures.value upper c.upper-upper.ensures.upper)

pub returns-clause-certified : goal.returns-clause-certified
returns-clause-certified c =
    let s = c.args.self in
    let z = to_z w128 (of_z w128 c.upper-upper.result) in
    let upper : to_z w128 (of_z w128 c.upper-upper.result) ≡ c.upper-upper.result = omega (arith, ints) in
    let reached : IsReached s (to_z w128 (of_z w128 c.upper-upper.result)) = subst (IsReached s) (sym upper) c.upper-upper.ensures.leaf in
    let found = found_of s c.in_ok-items.items z c.upper-upper.result c.requires c.in_ok-items.ensures.value upper c.upper-upper.ensures.upper in
    subst (IsCertOfBest s) (sym c.in_ok-certificate.ensures.certificate)
    (certified s c.in_ok-items.items z found c.in_ok-items.ensures.value reached c.in_ok-certificate.ensures.count c.in_ok-items.ensures.fits)
