-- The report of a solved graph.
use Rattle.std.specs.Prelude.{ℕ, ℤ, Bool, List, [], ◌∷◌, ◌++◌, codes, if◌then◌else◌, slice_index_or}
use Rattle.std.specs.List.{flat_map}
use Rattle.std.specs.Ordering.{int_eq}
use Rattle.std.specs.Fmt.{decimal, signed_decimal}
use Rattle.clu_text.specs.Lines.{space}
use Rattle.clu_partition.specs.Partition.{block_count_of, blocks_of}
use Rattle.clu_objective.specs.declared.objective.Objective.{Objective}
use Rattle.clu_cert.specs.Text.{objective_word}
use Rattle.clu_cli.specs.Lines.{line}
use Rattle.clu_cli.specs.declared.report.Facts.{Facts}

-- the value is the bound
abbrev pub optimal : Facts → Bool
optimal facts = int_eq facts.value facts.bound

-- the words of the verdict
unfoldable pub verdict : Facts → List ℕ
verdict facts = if optimal facts then codes "optimal" else codes "gap branchings"

-- the lines before the blocks
unfoldable pub head : Facts → ℕ → List ℕ
head facts blocks =
    line (codes "objective " ++ objective_word facts.objective)
    ++ line (codes "vertices " ++ decimal facts.vertices)
    ++ line (codes "value " ++ signed_decimal facts.value)
    ++ line (codes "bound " ++ signed_decimal facts.bound)
    ++ line (codes "scale " ++ decimal facts.scale)
    ++ line (codes "verdict " ++ verdict facts)
    ++ line (codes "branchings " ++ decimal facts.branchings)
    ++ line (codes "blocks " ++ decimal blocks)

-- a vertex's name after a space
abbrev pub named : List (List ℕ) → ℕ → List ℕ
named names v = space ∷ slice_index_or names v []

-- the line of a block
unfoldable pub block_line : List (List ℕ) → List ℕ → List ℕ
block_line names block = line (codes "block" ++ flat_map (named names) block)

-- the facts, and the blocks of the labels in the order of their first vertices
abbrev pub report : Facts → List (List ℕ) → List ℕ → List ℕ
report facts names labels = head facts (block_count_of labels) ++ flat_map (block_line names) (blocks_of labels)

-- ---- the report of an accepted certificate
-- the words of its verdict
unfoldable pub check_verdict : ℤ → ℤ → List ℕ
check_verdict value bound = if int_eq value bound then codes "optimal" else codes "gap"

unfoldable pub check_report : Objective → ℕ → ℤ → ℤ → ℕ → List ℕ
check_report objective vertices value bound scale =
    line (codes "accepted")
    ++ line (codes "objective " ++ objective_word objective)
    ++ line (codes "vertices " ++ decimal vertices)
    ++ line (codes "value " ++ signed_decimal value)
    ++ line (codes "bound " ++ signed_decimal bound)
    ++ line (codes "scale " ++ decimal scale)
    ++ line (codes "verdict " ++ check_verdict value bound)
