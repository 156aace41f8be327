-- The names of the eight drawings (the scope, "What is modelled" and "Plans and images"): the one
-- table of them. Assumes nothing.
use Rattle.std.specs.Prelude.{List, [], ◌∷◌, ℕ}
use Rattle.ascii.specs.Ascii.{ascii}

-- in the scope's order: the number of a drawing, from 0, is its place in the table
abbrev pub drawing_names : List (List ℕ)
drawing_names =
    ascii "FILL L"
    ∷ ascii "FILL XY"
    ∷ ascii "PIXBLT L,L"
    ∷ ascii "PIXBLT L,XY"
    ∷ ascii "PIXBLT XY,L"
    ∷ ascii "PIXBLT XY,XY"
    ∷ ascii "PIXBLT B,L"
    ∷ ascii "PIXBLT B,XY"
    ∷ []

-- how many there are
abbrev pub drawing_count : ℕ
drawing_count = 8
