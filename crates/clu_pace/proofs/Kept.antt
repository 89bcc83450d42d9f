-- The fields of the numbered kept lines of a text are those of its kept lines.
use Rattle.std.proofs.Common.{◌≡◌, ℕ, ◌+◌, Bool, true, false, List, [], ◌∷◌, cond, map, filter, refl, ap}
use Rattle.std.specs.List.{enumerate_from}
use Rattle.clu_text.specs.Lines.{lines_of, fields_of}
use Rattle.clu_pace.specs.Pace.{is_kept_in_graph, kept_lines, kept_of, unnumbered}
use Rattle.clu_pace.specs.Refusals.{numbered_kept}

kept_or_not : (keep : Bool) (line : ℕ × List (List ℕ)) (lines : List (ℕ × List (List ℕ))) (rest : List (List (List ℕ))) → unnumbered lines ≡ rest
    → unnumbered (cond keep (line ∷ lines) lines) ≡ cond keep (line.1 ∷ rest) rest
kept_or_not true line lines rest same = ap (λ (ls : List (List (List ℕ))). line.1 ∷ ls) same
kept_or_not false line lines rest same = same

kept_fields : (a : ℕ) (lines : List (List ℕ)) → unnumbered (kept_of (enumerate_from a lines)) ≡ filter is_kept_in_graph (map fields_of lines)
kept_fields a [] = refl
kept_fields a (line ∷ lines) = kept_or_not (is_kept_in_graph (fields_of line)) (a, fields_of line) (kept_of (enumerate_from (a + 1) lines)) _ (kept_fields (a + 1) lines)

pub kept_lines_are : (bytes : List ℕ) → unnumbered (numbered_kept bytes) ≡ kept_lines bytes
kept_lines_are bytes = kept_fields 1 (lines_of bytes)
