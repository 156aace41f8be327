-- A column as it is held: a number, or a coordinate with 2^15 added. Assumes nothing.
use Rattle.std.specs.Prelude.{Bool, cond, List, map, ℕ}
use Rattle.listing.specs.Listing.{decimal}
use Rattle.columns.specs.declared.Held.{Held}
use Rattle.columns.specs.declared.Held.TheVariants.{Number, Coordinate}
use Rattle.columns.specs.Columns.{signed_text, text_line}

-- its text, and the line of some
abbrev pub held_text : Held → List ℕ
held_text (Number n) = decimal n
held_text (Coordinate c) = signed_text c

-- the same by its parts: is it a coordinate, and the number that is held
abbrev pub parts_text : Bool → ℕ → List ℕ
parts_text coordinate n = cond coordinate (signed_text n) (decimal n)

abbrev pub held_line : List Held → List ℕ
held_line cs = text_line (map held_text cs)
