-- What a loop of writes has taken.
use Rattle.std.proofs.Common.{◌≡◌, ◌≤◌, ◌-◌, ◌+◌, ◌++◌, ℕ, List, length, take, drop, arith, sym, ◌∙◌, ap, refl, Some, None, length-drop, length-take, append_assoc, take-append-drop}
use Rattle.std.specs.Prelude.{Option}
use Rattle.std.proofs.Math.Seq.{take-append-add}
use Rattle.std.proofs.lemmas.List.{take_all}
use Rattle.clu_outside.specs.Sink.{with_bytes}

-- a longer front is the front and what comes after it
pub take_more : (bytes : List ℕ) (done count : ℕ) → done ≤ length bytes → take (done + count) bytes ≡ take done bytes ++ take count (drop done bytes)
take_more bytes done count within =
    let len : length (take done bytes) ≡ done = omega (arith, length-take {A = ℕ}) in
    ap (λ (xs : List ℕ). take (done + count) xs) (sym (take-append-drop done bytes))
    ∙ ap (λ (n : ℕ). take (n + count) (take done bytes ++ drop done bytes)) (sym len)
    ∙ take-append-add (take done bytes) (drop done bytes) count

-- what was taken before, and a prefix of the rest
pub with_more : (old : Option (List ℕ)) (bytes : List ℕ) (done count : ℕ) → done ≤ length bytes
    → with_bytes (with_bytes old (take done bytes)) (take count (take (length bytes - done) (drop done bytes))) ≡ with_bytes old (take (done + count) bytes)
with_more None bytes done count within = refl
with_more (Some before) bytes done count within =
    let rest : take (length bytes - done) (drop done bytes) ≡ drop done bytes = take_all _ _ (omega (arith, length-drop {A = ℕ})) in
    ap Some (append_assoc before (take done bytes) _
    ∙ ap (λ (xs : List ℕ). before ++ (take done bytes ++ take count xs)) rest
    ∙ ap (λ (xs : List ℕ). before ++ xs) (sym (take_more bytes done count within)))
