-- The names of a graph's vertices: the decimal numbers from 1.
use Rattle.std.specs.Prelude.{ℕ, ◌+◌, ◌<◌, List, map}
use Rattle.std.specs.Fmt.{decimal}
use Rattle.clu_text.specs.Numbers.{IsNumber}
use Rattle.clu_partition.specs.Partition.{below}
use Rattle.clu_pace.specs.Graph.{PaceGraph}

-- the name of each vertex
abbrev pub graph_names : PaceGraph → List (List ℕ)
graph_names graph = map (λ v. decimal (v + 1)) (below graph.n)

-- the bytes are the vertex's number from 1, leading zeros allowed
abbrev pub IsNumeralOf : PaceGraph → List ℕ → ℕ → Type 0
IsNumeralOf graph name v = (v < graph.n) × IsNumber name (v + 1)
