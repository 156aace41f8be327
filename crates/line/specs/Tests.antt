-- What the code tests of a line. The scope knows nothing of it. Assumes nothing.
use Rattle.std.specs.Prelude.{Bool, ◌&&◌, List, [], ℕ, eqb, length, get_or}
use Rattle.text.specs.Text.{same}

-- two fields, the first of which is this word
abbrev pub is_pair : List ℕ → List (List ℕ) → Bool
is_pair word fields = eqb (length fields) 2 && same (get_or fields 0 []) word
