-- The fields of a line from a place on, which a loop over the line's fields comes to, and a field
-- as a number. The scope knows nothing of places. Assumes nothing.
use Rattle.std.specs.Prelude.{Bool, cond, List, [], ℕ, ◌+◌, leb, length, drop, is_none, unwrap_or}
use Rattle.ascii.specs.Ascii.{tab}
use Rattle.text.specs.Text.{up_to, fields_of}
use Rattle.text.specs.Number.{number_of}

-- the fields from a place on: none past the line's end
unfoldable pub fields_from : List ℕ → ℕ → List (List ℕ)
fields_from line p = cond (leb p (length line)) (fields_of (drop p line)) []

-- the place behind the field at a place and the tab that ends it
unfoldable pub behind : List ℕ → ℕ → ℕ
behind line p = p + length (up_to tab (drop p line)) + 1

-- the place of the third field: past the line's end where there is none
abbrev pub third_at : List ℕ → ℕ
third_at line = behind line (behind line 0)

-- a field as a number: 0 where it is none
abbrev pub field_value : List ℕ → ℕ
field_value f = unwrap_or (number_of f) 0

abbrev pub no_number : List ℕ → Bool
no_number f = is_none (number_of f)
