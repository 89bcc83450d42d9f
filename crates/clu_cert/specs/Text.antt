-- The text of a certificate, as lines of fields.
use Rattle.std.specs.Prelude.{ℕ, ℤ, ◌+◌, List, [], ◌∷◌, ◌++◌, length, map, codes}
use Rattle.std.specs.List.{flat_map, join_with_byte}
use Rattle.std.specs.Fmt.{decimal, signed_decimal}
use Rattle.clu_objective.specs.declared.objective.Objective.{Objective}
use Rattle.clu_objective.specs.declared.objective.Objective.TheVariants.{Edits, Agreement, Modularity}
use Rattle.clu_reduce.specs.declared.step.Kind.{Kind}
use Rattle.clu_reduce.specs.declared.step.Kind.TheVariants.{Twin, Pair, Heavy, Light}
use Rattle.clu_cert.specs.declared.certificate.Item.{Item}
use Rattle.clu_cert.specs.declared.certificate.Item.TheVariants.{Branch, Reduce, Leaf}
use Rattle.clu_reduce.specs.declared.step.Step.{Step}
use Rattle.clu_rows.specs.Rows.{TwoSet}
use Rattle.clu_cert.specs.declared.certificate.Proof.{Proof}
use Rattle.clu_cert.specs.declared.certificate.Certificate.{Certificate}

-- a vertex or a label is written from 1
abbrev pub from_one : ℕ → List ℕ
from_one n = decimal (n + 1)

abbrev pub kind_word : Kind → List ℕ
kind_word Twin = codes "twin"
kind_word Pair = codes "pair"
kind_word Heavy = codes "heavy"
kind_word Light = codes "light"

abbrev pub objective_word : Objective → List ℕ
objective_word Edits = codes "edits"
objective_word Agreement = codes "agreement"
objective_word Modularity = codes "modularity"

abbrev pub step_line : Step → List (List ℕ)
step_line s = kind_word s.kind ∷ from_one s.u ∷ from_one s.v ∷ []

-- the sets of a row stand before and after a slash
abbrev pub row_line : TwoSet → List (List ℕ)
row_line r = codes "row" ∷ decimal r.y ∷ (map from_one r.s ++ (codes "/" ∷ map from_one r.t))

-- the line `leaf`, of so many rows
abbrev pub leaf_line : ℕ → ℕ → List (List ℕ)
leaf_line den rows = codes "leaf" ∷ decimal den ∷ decimal rows ∷ []

abbrev pub branch_line : ℕ → ℕ → List (List ℕ)
branch_line u v = codes "branch" ∷ from_one u ∷ from_one v ∷ []

abbrev pub item_lines : Item → List (List (List ℕ))
item_lines (Branch u v) = branch_line u v ∷ []
item_lines (Reduce s) = step_line s ∷ []
item_lines (Leaf l) = leaf_line l.den (length l.rows) ∷ map row_line l.rows

-- a line of one word and what stands behind it
abbrev pub count_line : List ℕ → ℕ → List (List ℕ)
count_line word n = word ∷ decimal n ∷ []

abbrev pub whole_line : List ℕ → ℤ → List (List ℕ)
whole_line word z = word ∷ signed_decimal z ∷ []

-- a word and vertices or labels
abbrev pub numbers_line : List ℕ → List ℕ → List (List ℕ)
numbers_line word ns = word ∷ map from_one ns

-- a part and its items
abbrev pub proof_lines : Proof → List (List (List ℕ))
proof_lines p = numbers_line (codes "part") p.part ∷ count_line (codes "items") (length p.items) ∷ flat_map item_lines p.items

abbrev pub version_line : List (List ℕ)
version_line = codes "clucert" ∷ codes "1" ∷ []

abbrev pub end_line : List (List ℕ)
end_line = codes "end" ∷ []

abbrev pub objective_line : Objective → List (List ℕ)
objective_line o = codes "objective" ∷ objective_word o ∷ []

-- the lines of these proofs and of the end
abbrev pub lines_from_part : List Proof → List (List (List ℕ))
lines_from_part ps = flat_map proof_lines ps ++ (end_line ∷ [])

-- the lines of these steps, and what follows the root steps
abbrev pub lines_from_step : List Step → List Proof → List (List (List ℕ))
lines_from_step steps ps = map step_line steps ++ (count_line (codes "parts") (length ps) ∷ lines_from_part ps)

-- from the line `steps` on
abbrev pub lines_from_steps : Certificate → List (List (List ℕ))
lines_from_steps c = count_line (codes "steps") (length c.root_steps) ∷ lines_from_step c.root_steps c.proofs

-- from the line `value` on
abbrev pub lines_from_value : Certificate → List (List (List ℕ))
lines_from_value c = whole_line (codes "value") c.value ∷ whole_line (codes "bound") c.bound
    ∷ numbers_line (codes "blocks") c.labels ∷ lines_from_steps c

-- each line of a certificate, as its fields
abbrev pub cert_lines : Certificate → List (List (List ℕ))
cert_lines c = version_line ∷ objective_line c.objective ∷ count_line (codes "vertices") (length c.labels) ∷ lines_from_value c

-- the fields of each line with one space between them, and a line feed behind each line
abbrev pub line_text : List (List ℕ) → List ℕ
line_text line = join_with_byte 32 line ++ (10 ∷ [])

abbrev pub text_of : List (List (List ℕ)) → List ℕ
text_of lines = flat_map line_text lines

-- the text of a certificate
abbrev pub cert_text : Certificate → List ℕ
cert_text c = text_of (cert_lines c)
