-- The memory line, the draw line, and the name of an axis line (the scope, "Plans and images"),
-- over the fields of a line. Assumes nothing.
use Rattle.std.specs.Prelude.{cond, List, [], ◌∷◌, ℕ, leb, get_or}
use Rattle.lists.specs.Search.{first}
use Rattle.names.specs.Names.{names}
use Rattle.names.specs.Drawings.{drawing_names, drawing_count}
use Rattle.names.specs.Limits.{plan_words}
use Rattle.text.specs.Text.{same}
use Rattle.tabs.specs.Fields.{field_value}
use Rattle.line.specs.Words.{memory_word, draw_word}

-- the number of a name with these bytes, and of a drawing: as many as there are where there is none
abbrev pub name_number : List ℕ → ℕ
name_number word = first (same word) names

abbrev pub drawing_number : List ℕ → ℕ
drawing_number word = first (same word) drawing_names

-- `memory` and a number 1 to 32768: the number; 0 for any other line
abbrev pub size_of : ℕ → ℕ
size_of n = cond (leb n plan_words) n 0

unfoldable pub memory_of : List (List ℕ) → ℕ
memory_of (word ∷ size ∷ []) = cond (same word memory_word) (size_of (field_value size)) 0
memory_of [] = 0
memory_of (word ∷ []) = 0
memory_of (word ∷ size ∷ f ∷ fs) = 0

-- `draw` and one of the eight names: its number, from 0; 8 for any other line
unfoldable pub draw_of : List (List ℕ) → ℕ
draw_of (word ∷ name ∷ []) = cond (same word draw_word) (drawing_number name) drawing_count
draw_of [] = drawing_count
draw_of (word ∷ []) = drawing_count
draw_of (word ∷ name ∷ f ∷ fs) = drawing_count

-- `axis`, a name, then values: the name's number, 14 where it is unknown
unfoldable pub name_of : List (List ℕ) → ℕ
name_of fields = name_number (get_or fields 1 [])
