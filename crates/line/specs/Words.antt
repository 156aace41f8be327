-- The words that lines of a plan start with (the scope, "Plans and images"). Assumes nothing.
use Rattle.std.specs.Prelude.{List, ℕ}
use Rattle.ascii.specs.Ascii.{ascii}

abbrev pub memory_word : List ℕ
memory_word = ascii "memory"

abbrev pub draw_word : List ℕ
draw_word = ascii "draw"

abbrev pub axis_word : List ℕ
axis_word = ascii "axis"
