-- An option and its value before the other options.
use Rattle.std.proofs.Common.{◌≡◌, ℕ, ◌-◌, ◌≤◌, List, [], ◌∷◌, length, take, drop, get_or, sym, ◌∙◌, ap, arith, Option, Some}
use Rattle.std.proofs.lemmas.List.{take_all}
use Rattle.std.specs.Prelude.{String, map, string_bytes}
use Rattle.std.specs.Global.{Global}
use Rattle.std.specs.Option.{option_and_then}
use Rattle.clu_cli.specs.Options.{Given, given_of, taken}

two_first : (rest : List (String Global)) (a b : String Global) → 2 ≤ length rest → a ≡ get_or rest 0 a → b ≡ get_or rest 1 b
    → map string_bytes rest ≡ string_bytes a ∷ string_bytes b ∷ map string_bytes (take (length rest - 2) (drop 2 rest))
two_first [] a b two at_a at_b = absurd (omega (arith, two))
two_first (p ∷ []) a b two at_a at_b = absurd (omega (arith, two))
two_first (p ∷ q ∷ more) a b two at_a at_b =
    let all : take (length (p ∷ q ∷ more) - 2) more ≡ more = take_all (length (p ∷ q ∷ more) - 2) more (omega arith) in
    λ i. string_bytes (sym at_a i) ∷ string_bytes (sym at_b i) ∷ map string_bytes (sym all i)

-- what the words give is what the others give behind the first option
pub given_more : (rest : List (String Global)) (a b : String Global) (option value : List ℕ) (before after : Given) (whole : Option Given)
    → 2 ≤ length rest → a ≡ get_or rest 0 a → b ≡ get_or rest 1 b → option ≡ string_bytes a → value ≡ string_bytes b
    → given_of (map string_bytes rest) before ≡ whole → Some after ≡ taken before option value
    → given_of (map string_bytes (take (length rest - 2) (drop 2 rest))) after ≡ whole
given_more rest a b option value before after whole two at_a at_b option_is value_is all more =
    let tail = map string_bytes (take (length rest - 2) (drop 2 rest)) in
    ap (λ (o : Option Given). option_and_then (given_of tail) o) more
    ∙ (λ i. option_and_then (given_of tail) (taken before (option_is i) (value_is i)))
    ∙ ap (λ (ws : List (List ℕ)). given_of ws before) (sym (two_first rest a b two at_a at_b))
    ∙ all
