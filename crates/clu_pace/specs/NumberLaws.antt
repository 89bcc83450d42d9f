-- Each vertex is named by its number, and no other: the laws of `Names` for graphs. They stand here since an `impl`
-- can import the proofs of its laws from nowhere else.
use Rattle.std.specs.Prelude.{◌≡◌, ℕ, ◌+◌, ◌<◌, ◌≤◌, Option, Some, List, length, slice_get}
use Rattle.std.specs.Fmt.{decimal}
use Rattle.std.specs.Option.{option_map}
use Rattle.std.specs.Str.Parse.{AllDigits, IsNumeral, digits_value}
use Rattle.std.proofs.Common.{arith, sym, subst, ◌∙◌, ap}
use Rattle.std.proofs.lemmas.Fmt.{decimal_is_IsNumeral}
use Rattle.std.proofs.lemmas.List.{length-map}
use Rattle.std.proofs.lemmas.List.FromFn.{length-range_with_len, get_or-range_with_len}
use Rattle.std.proofs.lemmas.Option.{slice_get-map, slice_get-get_or, slice_get_within}
use Rattle.clu_partition.specs.Partition.{below}
use Rattle.clu_pace.specs.Graph.{PaceGraph}
use Rattle.clu_pace.specs.Numbers.{graph_names, IsNumeralOf}

pub one_name : (graph : PaceGraph) (name : List ℕ) (u v : ℕ)
    → IsNumeralOf graph name u → IsNumeralOf graph name v → u ≡ v
one_name graph name u v is_u is_v = let e : u + 1 ≡ v + 1 = sym is_u.1.value_is ∙ is_v.1.value_is in omega arith

pub names_count : (graph : PaceGraph) → length (graph_names graph) ≡ graph.n
names_count graph = length-map (below graph.n) (λ v. decimal (v + 1)) ∙ length-range_with_len 0 graph.n

pub named_within : (graph : PaceGraph) (name : List ℕ) (v : ℕ) → IsNumeralOf graph name v → v < length (graph_names graph)
named_within graph name v is = omega (arith, is.0, names_count graph)

pub name_at : (graph : PaceGraph) (v : ℕ) → v < graph.n → slice_get (graph_names graph) v ≡ Some (decimal (v + 1))
name_at graph v at =
    slice_get-map (λ v. decimal (v + 1)) (below graph.n) v
    ∙ ap (λ (o : Option ℕ). option_map (λ v. decimal (v + 1)) o) (slice_get-get_or (below graph.n) v 0 (omega (arith, length-range_with_len 0 graph.n)))
    ∙ ap (λ (k : ℕ). Some (decimal (k + 1))) (get_or-range_with_len 0 graph.n v 0 at ∙ omega arith)

pub own_name : (graph : PaceGraph) (v : ℕ) (name : List ℕ) → length (graph_names graph) ≤ 1000
    → slice_get (graph_names graph) v ≡ Some name → IsNumeralOf graph name v
own_name graph v name small is =
    let at : v < graph.n = omega (arith, slice_get_within (graph_names graph) v name is, names_count graph) in
    let text : decimal (v + 1) ≡ name = cc (name_at graph v at, is) in
    let number = decimal_is_IsNumeral (v + 1) (omega (arith, names_count graph)) in
    (at, record { digits = subst (λ (bs : List ℕ). IsNumeral 10 bs) text number.0; value_is = ap (digits_value 10) (sym text) ∙ number.1 })

-- a number's text has digits alone
pub digits_alone : (number : ℕ) (digits : List ℕ) → number ≤ 1000 → digits ≡ decimal number → AllDigits 10 digits
digits_alone number digits small is = subst (λ (bs : List ℕ). AllDigits 10 bs) (sym is) (decimal_is_IsNumeral number (omega arith)).0.1
