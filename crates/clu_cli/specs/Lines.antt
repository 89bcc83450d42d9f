-- Lines of text.
use Rattle.std.specs.Prelude.{ℕ, List, [], ◌∷◌, ◌++◌}
use Rattle.clu_text.specs.Lines.{line_feed}

-- a line and its end
abbrev pub line : List ℕ → List ℕ
line text = text ++ line_feed ∷ []
