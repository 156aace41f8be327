-- Text cut at a mark: lines end with byte 10, fields are parted by byte 9 (the scope, "Plans and
-- images"). Assumes nothing.
use Rattle.std.specs.Prelude.{Bool, cond, List, [], ◌∷◌, ℕ, eqb}
use Rattle.std.specs.Str.{bytes_eq}
use Rattle.ascii.specs.Ascii.{tab, line_end}

-- the bytes before the first mark, or all of them
unfoldable pub up_to : ℕ → List ℕ → List ℕ
up_to mark [] = []
up_to mark (c ∷ cs) = cond (eqb c mark) [] (c ∷ up_to mark cs)

-- a byte in front of the first part
unfoldable pub in_front : ℕ → List (List ℕ) → List (List ℕ)
in_front c [] = (c ∷ []) ∷ []
in_front c (p ∷ ps) = (c ∷ p) ∷ ps

-- the parts between marks: one more than there are marks
unfoldable pub parts : ℕ → List ℕ → List (List ℕ)
parts mark [] = [] ∷ []
parts mark (c ∷ cs) = cond (eqb c mark) ([] ∷ parts mark cs) (in_front c (parts mark cs))

-- the lines that byte 10 ends, and last what follows the last byte 10: nothing where the text ends
-- as it should
abbrev pub lines_of : List ℕ → List (List ℕ)
lines_of text = parts line_end text

-- the fields of a line, parted by one tab
abbrev pub fields_of : List ℕ → List (List ℕ)
fields_of line = parts tab line

-- the same bytes
abbrev pub same : List ℕ → List ℕ → Bool
same = bytes_eq
