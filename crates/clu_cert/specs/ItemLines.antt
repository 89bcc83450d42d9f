-- The first line of an item.
use Rattle.std.specs.Prelude.{ℕ, ◌<◌, ◌^◌, List}
use Rattle.clu_cert.specs.declared.lists.ItemLine.{ItemLine}
use Rattle.clu_cert.specs.declared.lists.ItemLine.TheVariants as line
use Rattle.clu_cert.specs.Fits.{IndexFits, StepFits}
use Rattle.clu_cert.specs.Text.{branch_line, step_line, leaf_line}

abbrev pub item_line : ItemLine → List (List ℕ)
item_line (line.Branch u v) = branch_line u v
item_line (line.Reduce s) = step_line s
item_line (line.Leaf den rows) = leaf_line den rows

abbrev pub ItemLineFits : ItemLine → Type 0
ItemLineFits (line.Branch u v) = IndexFits u × IndexFits v
ItemLineFits (line.Reduce s) = StepFits s
ItemLineFits (line.Leaf den rows) = (den < 2 ^ 64) × (rows < 2 ^ 64)
