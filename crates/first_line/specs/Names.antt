-- The heading of experiments, whose lines have a point's number and its fourteen values. The scope
-- knows nothing of it. Assumes nothing.
use Rattle.std.specs.Prelude.{List, [], ◌∷◌, ◌++◌, ℕ}
use Rattle.ascii.specs.Ascii.{ascii, line_end, joined}
use Rattle.names.specs.Names.{names}

abbrev pub names_line : List ℕ
names_line = joined (ascii "point" ∷ names) ++ (line_end ∷ [])
