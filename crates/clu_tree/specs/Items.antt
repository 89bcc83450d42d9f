-- How many branches the items of a proof have, and which have rows that can be counted.
use Rattle.std.specs.Prelude.{ℕ, ◌<◌, ◌^◌, List, [], ◌∷◌, length, zero, suc}
use Rattle.clu_cert.specs.declared.certificate.Item.{Item}
use Rattle.clu_cert.specs.declared.certificate.Item.TheVariants.{Branch, Reduce, Leaf}

abbrev pub branch_items : List Item → ℕ
branch_items [] = zero
branch_items (Branch u v ∷ items) = suc (branch_items items)
branch_items (Reduce step ∷ items) = branch_items items
branch_items (Leaf leaf ∷ items) = branch_items items

-- a leaf has fewer rows than 2^64
abbrev pub RowsCounted : Item → Type 0
RowsCounted (Branch u v) = Unit {0}
RowsCounted (Reduce step) = Unit {0}
RowsCounted (Leaf leaf) = length leaf.rows < 2 ^ 64
